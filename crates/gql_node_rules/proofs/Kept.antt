-- A check of a file is still that of the file if what it depends on has not changed.
use Rattle.std.proofs.Common.{◌≡◌, ◌⊎◌, inl, inr, ℕ, List, [], ◌∷◌, ◌++◌, Bool, true, false, Option, Some, None, flat_map, length, bytes_eq, refl, sym, ap, subst, ◌∙◌, Contains, if◌then◌else◌}
use Rattle.std.specs.Prelude.{◌&&◌, ◌||◌, is_some, option_map, nat_eq, nat_lt, find, not}
use Rattle.std.specs.HashSet.{contains}
use Rattle.std.specs.List.{list_any}
use Rattle.std.specs.Option.{option_map_or}
use Rattle.std.proofs.lemmas.List.Elements.{Contains-append_left, Contains-append_right, Contains-append_cases}
use Rattle.gql_ast.specs.declared.definition.Document.{Document}
use Rattle.gql_ast.specs.declared.fault.Fault.{Fault}
use Rattle.gql_ast.specs.declared.literal.Literal.{Literal}
use Rattle.gql_ast.specs.declared.rule.Rule.TheVariants as rule
use Rattle.gql_ast.specs.declared.text.Name.{Name}
use Rattle.gql_ast.specs.declared.type_system.DirectiveDefinition.{DirectiveDefinition}
use Rattle.gql_ast.specs.declared.type_system.InputValueDefinition.{InputValueDefinition}
use Rattle.gql_ast.specs.declared.type_system.TypeDefinition.{TypeDefinition}
use Rattle.gql_ast.specs.declared.type_system.TypeExtension.{TypeExtension}
use Rattle.gql_built_in.specs.declared.sited.Sited.{Sited}
use Rattle.gql_faults.specs.Faults.{fault_at, fault_of, where_known}
use Rattle.gql_faults.specs.Names.{count_of}
use Rattle.gql_inputs.proofs.Agreement.{same_bad_values}
use Rattle.gql_inputs.specs.Agreement.{LeadsTo, itself, by_field, Agree}
use Rattle.gql_inputs.specs.InputTypes.{name_in}
use Rattle.gql_inputs.specs.Lookups.{InputLookup, in_schema}
use Rattle.gql_inputs.specs.Values.{value_of}
use Rattle.gql_types.proofs.Members.{none, here}
use Rattle.gql_types.specs.Kinds.{is_input, is_output, same_kind}
use Rattle.gql_types.specs.Parts.{kind_of}
use Rattle.gql_types.specs.Schemas.{directive_named, kind_named, type_named}
use Rattle.gql_types.specs.Written.{Written, written}
use Rattle.gql_types.specs.declared.kind.TypeKind.{TypeKind}
use Rattle.gql_types.specs.declared.kind.TypeKind.TheVariants as kind
use Rattle.gql_types.specs.declared.schema.Schema.{Schema}
use Rattle.gql_types.specs.declared.schema_type.SchemaType.{SchemaType}
use Rattle.gql_node_rules.specs.Applied.{Annotations, Application, annotated, applied, applied_at, name_of, place_of}
use Rattle.gql_node_rules.specs.DirectiveUses.{FitsAsBefore}
use Rattle.gql_node_rules.specs.FileChecks.{IsCheckOf, appends}
use Rattle.gql_node_rules.specs.FileFaults.{directive_faults, nodes_of_file, repeated_alone}
use Rattle.gql_node_rules.specs.NodeFaults as all
use Rattle.gql_node_rules.specs.Nodes.{AllNodes}
use Rattle.gql_node_rules.specs.P01FloatReferences as p01
use Rattle.gql_node_rules.specs.References as references
use Rattle.gql_node_rules.specs.S16NonInputTypes as s16
use Rattle.gql_node_rules.specs.S20UnknownTypes as s20
use Rattle.gql_node_rules.specs.S21NonOutputTypes as s21
use Rattle.gql_node_rules.specs.S22NonObjectMembers as s22
use Rattle.gql_node_rules.specs.S29UnknownDirectives as s29
use Rattle.gql_node_rules.specs.S30BadLocations as s30
use Rattle.gql_node_rules.specs.S31RepeatedDirectives as s31
use Rattle.gql_node_rules.specs.S32BadArguments as s32
use Rattle.gql_node_rules.specs.S33BadArgumentValues as s33
use Rattle.gql_node_rules.specs.S35DeprecatedRequiredInputs as s35
use Rattle.gql_node_rules.specs.S36MisplacedAppends as s36
use Rattle.gql_node_rules.specs.SchemaChanges.{IsChange, RootDefinition, is_among, mutation_definition, root_definition}
use Rattle.gql_node_rules.specs.ValueFaults.{fault_unless_fit, start_of}
use Rattle.gql_node_rules.specs.ValueTypes.{is_input_object, is_object_form, type_of_given, types_by, types_of_applied, value_types}
use Rattle.gql_node_rules.specs.declared.file_check.FileCheck.{FileCheck}
use Rattle.gql_node_rules.specs.declared.schema_change.SchemaChange.{SchemaChange}
use Rattle.gql_node_rules.proofs.ByFile.{to_flat_map}
use Rattle.gql_node_rules.proofs.Sets.{apart, neither, no_if, one_false}

-- ---- lists

flat_map_within : {X Y : Type 0} (f g : X → List Y) (xs : List X) → ((x : X) → Contains xs x → f x ≡ g x) → flat_map f xs ≡ flat_map g xs
flat_map_within f g [] same = refl
flat_map_within f g (x ∷ xs) same =
    let one = same x (here x xs) in
    let rest = flat_map_within f g xs (λ y h. same y (Contains-append_right (x ∷ []) xs y h)) in
    λ k. one k ++ rest k

both_empty : {X : Type 0} (xs ys : List X) → xs ++ ys ≡ [] → (xs ≡ []) × (ys ≡ [])
both_empty [] ys e = (refl, e)
both_empty (x ∷ xs) ys e = cc

none_left : {X Y : Type 0} (f g : X → List Y) → ((x : X) → g x ≡ [] → f x ≡ []) → (xs : List X) → flat_map g xs ≡ [] → flat_map f xs ≡ []
none_left f g less [] e = refl
none_left f g less (x ∷ xs) e =
    let r = both_empty (g x) (flat_map g xs) e in
    let one = less x r.0 in
    let rest = none_left f g less xs r.1 in
    λ k. one k ++ rest k

-- ---- references to types

is_some_kind : (o : Option SchemaType) → is_some o ≡ is_some (option_map (λ (t : SchemaType). t.kind) o)
is_some_kind None = refl
is_some_kind (Some t) = refl

module _ (n : AllNodes) (s t : Schema) (same : (x : Sited Name) → Contains (references.references n) x → kind_named s x.node.text ≡ kind_named t x.node.text) where
  in_inputs : (x : Sited Name) → Contains (references.inputs n) x → Contains (references.references n) x
  in_inputs x h = Contains-append_left (references.inputs n) _ x h

  in_outputs : (x : Sited Name) → Contains (references.outputs n) x → Contains (references.references n) x
  in_outputs x h = Contains-append_right (references.inputs n) _ x (Contains-append_left (references.outputs n) _ x h)

  in_members : (x : Sited Name) → Contains (references.members n) x → Contains (references.references n) x
  in_members x h = Contains-append_right (references.inputs n) _ x (Contains-append_right (references.outputs n) _ x
      (Contains-append_right (references.interfaces n) _ x (Contains-append_left (references.members n) _ x h)))

  s16_same : s16.faults n s ≡ s16.faults n t
  s16_same = flat_map_within (s16.fault_of_name s) (s16.fault_of_name t) (references.inputs n) (λ x h.
      ap (λ (o : Option TypeKind). where_known o (λ (k : TypeKind). if is_input k then [] else fault_of rule.S16 x)) (same x (in_inputs x h)))

  s21_same : s21.faults n s ≡ s21.faults n t
  s21_same = flat_map_within (s21.fault_of_name s) (s21.fault_of_name t) (references.outputs n) (λ x h.
      ap (λ (o : Option TypeKind). where_known o (λ (k : TypeKind). if is_output k then [] else fault_of rule.S21 x)) (same x (in_outputs x h)))

  s22_same : s22.faults n s ≡ s22.faults n t
  s22_same = flat_map_within (s22.fault_of_name s) (s22.fault_of_name t) (references.members n) (λ x h.
      ap (λ (o : Option TypeKind). where_known o (λ (k : TypeKind). if same_kind k kind.Object then [] else fault_of rule.S22 x)) (same x (in_members x h)))

  s20_same : s20.faults n s ≡ s20.faults n t
  s20_same = flat_map_within (s20.fault_of_name s) (s20.fault_of_name t) (references.references n) (λ x h.
      ap (λ (b : Bool). if b || p01.is_float x.node.text then [] else fault_of rule.S20 x)
      (is_some_kind (type_named s x.node.text) ∙ ap is_some (same x h) ∙ sym (is_some_kind (type_named t x.node.text))))

  role_same : all.role_faults n s ≡ all.role_faults n t
  role_same = λ k. s16_same k ++ (s21_same k ++ s22_same k)

  p01_same : p01.faults n s ≡ p01.faults n t
  p01_same = flat_map_within (p01.fault_of_name s) (p01.fault_of_name t) (references.references n) (λ x h.
      ap (λ (b : Bool). if b then [] else p01.fault_of_unknown x)
      (is_some_kind (type_named s x.node.text) ∙ ap is_some (same x h) ∙ sym (is_some_kind (type_named t x.node.text))))

  reference_same : all.reference_faults n s ≡ all.reference_faults n t
  reference_same = λ k. s20_same k ++ p01_same k

-- ---- values

-- a type that leads to no input object leads to its own name alone
only : (u : InputLookup) (w : Written) → is_object_form (u (name_in w)) ≡ false → (q : List ℕ) → LeadsTo u w q → q ≡ name_in w
only u w flat q itself = refl
only u w flat q (by_field {n = m} p e c) =
    let object : is_object_form (u m) ≡ true = ap is_object_form e in
    let other : is_object_form (u m) ≡ false = subst (λ x. is_object_form (u x) ≡ false) (sym (only u w flat m p)) flat in
    absurd (cc (sym object ∙ other))

agree_flat : (u v : InputLookup) (w : Written) → is_object_form (u (name_in w)) ≡ false → u (name_in w) ≡ v (name_in w) → Agree u v w
agree_flat u v w flat same q p = subst (λ x. u x ≡ v x) (sym (only u w flat q p)) same

-- values of types of these names fit in both schemas or in neither
abbrev AgreeAt : Schema → Schema → List ℕ → Type 0
AgreeAt s t q = (w : Written) → name_in w ≡ q → Agree (in_schema s) (in_schema t) w

module _ (s t : Schema) where
  value_case : (o : Option InputValueDefinition) (x : Sited Literal)
      → ((q : List ℕ) → Contains (option_map_or (λ (v : InputValueDefinition). name_in (written v.of_type) ∷ []) o []) q → AgreeAt s t q)
      → where_known o (λ (v : InputValueDefinition). fault_unless_fit rule.S33 s v x) ≡ where_known o (λ (v : InputValueDefinition). fault_unless_fit rule.S33 t v x)
  value_case None x agree = refl
  value_case (Some v) x agree = ap (λ found. if nat_eq (length found) 0 then [] else fault_at rule.S33 v.name.text (start_of x))
      (same_bad_values (in_schema s) (in_schema t) (written v.of_type) (agree (name_in (written v.of_type)) (here _ []) (written v.of_type) refl) (value_of x.node))

  applied_case : (o : Option (Sited DirectiveDefinition)) (a : Application) → ((q : List ℕ) → Contains (types_by o a) q → AgreeAt s t q)
      → s33.faults_by s o a ≡ s33.faults_by t o a
  applied_case None a agree = refl
  applied_case (Some d) a agree = flat_map_within (s33.fault_of_value s a.file d.node.arguments) (s33.fault_of_value t a.file d.node.arguments) a.directive.arguments
      (λ g h. value_case (s33.argument_named d.node.arguments g.name.text) (record { file = a.file; node = g.value })
      (λ q k. agree q (to_flat_map (type_of_given d.node.arguments) a.directive.arguments g q h k)))

-- ---- applied directives

module _ (n : AllNodes) (s t : Schema) (same : (a : Application) → Contains (applied n) a → directive_named s (name_of a) ≡ directive_named t (name_of a)) where
  s29_same : s29.faults n s ≡ s29.faults n t
  s29_same = flat_map_within (s29.faults_of_applied s) (s29.faults_of_applied t) (applied n) (λ a h.
      ap (λ (o : Option (Sited DirectiveDefinition)). if is_some o then [] else fault_at rule.S29 (name_of a) (place_of a)) (same a h))

  s30_same : s30.faults n s ≡ s30.faults n t
  s30_same = flat_map_within (s30.faults_of_applied s) (s30.faults_of_applied t) (applied n) (λ a h. ap (λ o. s30.fault_by o a) (same a h))

  s32_same : s32.faults n s ≡ s32.faults n t
  s32_same = flat_map_within (s32.faults_of_applied s) (s32.faults_of_applied t) (applied n) (λ a h. ap (λ o. s32.faults_by o a) (same a h))

  in_group : (m : Annotations) (a : Application) → Contains (applied_at m ++ []) a → Contains (applied_at m) a
  in_group m a h = elim (Contains-append_cases (applied_at m) [] a h) [ inl l ↦ l | inr r ↦ absurd (none a r) ]

  alone_same : repeated_alone n s ≡ repeated_alone n t
  alone_same = flat_map_within (s31.faults_alone s) (s31.faults_alone t) (annotated n) (λ m h.
      let group = applied_at m ++ [] in
      flat_map_within (s31.fault_in_group s group) (s31.fault_in_group t group) group (λ a k.
      ap (λ (o : Option (Sited DirectiveDefinition)). if nat_lt 1 (count_of (name_of a) (s31.names_of group)) then where_known o
      (λ (d : Sited DirectiveDefinition). if d.node.is_repeatable then [] else fault_at rule.S31 (name_of a) (place_of a)) else [])
      (same a (to_flat_map applied_at (annotated n) m a h (in_group m a k)))))

  types_same : value_types n s ≡ value_types n t
  types_same = flat_map_within (types_of_applied s) (types_of_applied t) (applied n) (λ a h. ap (λ o. types_by o a) (same a h))

  s33_same : ((q : List ℕ) → Contains (value_types n t) q → AgreeAt s t q) → s33.faults n s ≡ s33.faults n t
  s33_same agree = flat_map_within (s33.faults_of_applied s) (s33.faults_of_applied t) (applied n) (λ a h.
      ap (λ o. s33.faults_by s o a) (same a h)
      ∙ applied_case s t (directive_named t (name_of a)) a (λ q k. agree q (to_flat_map (types_of_applied t) (applied n) a q h k)))

  directive_same : ((q : List ℕ) → Contains (value_types n t) q → AgreeAt s t q) → directive_faults n s ≡ directive_faults n t
  directive_same agree = let values = s33_same agree in
      λ k. s29_same k ++ (s30_same k ++ (alone_same k ++ (s32_same k ++ values k)))

-- ---- `@append`

by_definition : Option RootDefinition → Sited TypeDefinition → Bool
by_definition o d = option_map_or (λ (r : RootDefinition). s36.is_same_name r.name (s36.name_of d)) o false

by_extension : Option RootDefinition → Sited TypeExtension → Bool
by_extension o e = option_map_or (λ (r : RootDefinition). bytes_eq r.name.node.text e.node.name.text && same_kind r.kind (kind_of e.node.parts)) o false

is_by_definition : (o : Option SchemaType) (d : Sited TypeDefinition) → s36.is_definition_of o d ≡ by_definition (option_map root_definition o) d
unfolding by_definition
is_by_definition None d = refl
is_by_definition (Some t) d = refl

is_by_extension : (o : Option SchemaType) (e : Sited TypeExtension) → s36.is_extension_of o e ≡ by_extension (option_map root_definition o) e
unfolding by_extension
is_by_extension None e = refl
is_by_extension (Some t) e = refl

module _ (n : AllNodes) (s t : Schema) where
  appends_same : mutation_definition s ≡ mutation_definition t → s36.faults n s ≡ s36.faults n t
  appends_same same =
      let of_types = flat_map_within (s36.faults_of_definition (s36.mutation_root s)) (s36.faults_of_definition (s36.mutation_root t)) n.types (λ d h.
      ap (λ (b : Bool). if b then [] else s36.faults_of_parts d.file d.node.parts)
      (is_by_definition (s36.mutation_root s) d ∙ ap (λ o. by_definition o d) same ∙ sym (is_by_definition (s36.mutation_root t) d))) in
      let of_extensions = flat_map_within (s36.faults_of_extension (s36.mutation_root s)) (s36.faults_of_extension (s36.mutation_root t)) n.type_extensions (λ e h.
      ap (λ (b : Bool). if b then [] else s36.faults_of_parts e.file e.node.parts)
      (is_by_extension (s36.mutation_root s) e ∙ ap (λ o. by_extension o e) same ∙ sym (is_by_extension (s36.mutation_root t) e))) in
      λ k. of_types k ++ of_extensions k

no_append : (n : AllNodes) (s : Schema) → appends n ≡ [] → s36.faults n s ≡ []
no_append n s e =
    let r = both_empty (flat_map (s36.faults_of_definition None) n.types) (flat_map (s36.faults_of_extension None) n.type_extensions) e in
    let of_types = none_left (s36.faults_of_definition (s36.mutation_root s)) (s36.faults_of_definition None)
    (λ d h. less (s36.is_definition_of (s36.mutation_root s) d) (s36.faults_of_parts d.file d.node.parts) h) n.types r.0 in
    let of_extensions = none_left (s36.faults_of_extension (s36.mutation_root s)) (s36.faults_of_extension None)
    (λ x h. less (s36.is_extension_of (s36.mutation_root s) x) (s36.faults_of_parts x.file x.node.parts) h) n.type_extensions r.1 in
    λ k. of_types k ++ of_extensions k
  where
    less : (b : Bool) (fs : List Fault) → fs ≡ [] → (if b then [] else fs) ≡ []
    less true fs h = refl
    less false fs h = h

-- ---- the check

module _ (d : Document) (s t : Schema) (c : FileCheck) (change : SchemaChange) (is : IsCheckOf s d c) (changed : IsChange change s t) where
  abbrev n : AllNodes
  n = nodes_of_file d

  same_directives : (change.directives ≡ false) ⊎ (c.directives.has_directives ≡ false)
      → (a : Application) → Contains (applied n) a → directive_named s (name_of a) ≡ directive_named t (name_of a)
  same_directives (inl e) a h = ap (λ ds. find (λ (x : Sited DirectiveDefinition). bytes_eq (name_of a) x.node.name.text) ds) (changed.directives e)
  same_directives (inr e) a h = absurd (none a (subst (λ xs. Contains xs a) (is.directives.none e) h))

  same_agrees : FitsAsBefore change c.directives → (q : List ℕ) → Contains (value_types n s) q → AgreeAt s t q
  same_agrees (floats, inl e) q h w name = λ m p. changed.inputs floats m (subst (λ xs. is_among xs m ≡ false) (sym e) refl)
  same_agrees (floats, inr (flat, apart)) q h w name =
      agree_flat (in_schema s) (in_schema t) w
      (subst (λ x. is_input_object s x ≡ false) (sym name) (is.directives.flat flat q h))
      (subst (λ x. in_schema s x ≡ in_schema t x) (sym name) (changed.inputs floats q (apart q (is.directives.values q h))))

  same_forms : FitsAsBefore change c.directives → (q : List ℕ) → Contains (value_types n s) q → in_schema s q ≡ in_schema t q
  same_forms (floats, inl e) q h = changed.inputs floats q (subst (λ xs. is_among xs q ≡ false) (sym e) refl)
  same_forms (floats, inr (flat, apart)) q h = changed.inputs floats q (apart q (is.directives.values q h))

  same_appends : (change.mutation_root ≡ false) ⊎ (c.has_appends ≡ false) → s36.faults n s ≡ s36.faults n t
  same_appends (inl e) = appends_same n s t (changed.mutation_root e)
  same_appends (inr e) = no_append n s (is.none_appends e) ∙ sym (no_append n t (is.none_appends e))

  pub kept : (change.directives ≡ false) ⊎ (c.directives.has_directives ≡ false)
      → (change.mutation_root ≡ false) ⊎ (c.has_appends ≡ false)
      → ((q : List ℕ) → contains bytes_eq c.types q ≡ true → is_among change.kinds q ≡ false)
      → FitsAsBefore change c.directives
      → IsCheckOf t d c
  kept directives root types values =
      let kinds = λ (x : Sited Name) (h : Contains (references.references n) x). changed.kinds x.node.text (types x.node.text (is.types x h)) in
      let known = same_directives directives in
      let before = λ (q : List ℕ) (h : Contains (value_types n t) q). subst (λ xs. Contains xs q) (sym (types_same n s t known)) h in
      let of_directives = directive_same n s t known (λ q h. same_agrees values q (before q h)) in
      let of_roles = role_same n s t kinds in
      let of_references = reference_same n s t kinds in
      let of_appends = same_appends root in
      record {
        faults = is.faults ∙ (λ k. all.name_faults n ++ (of_roles k ++ (of_references k ++ (of_directives k ++ (s35.faults n ++ of_appends k)))));
        types = is.types;
        directives = record {
          none = is.directives.none;
          values = λ q h. is.directives.values q (before q h);
          flat = λ no q h. ap is_object_form (sym (same_forms values q (before q h))) ∙ is.directives.flat no q (before q h);
        };
        none_appends = is.none_appends;
        definitions = is.definitions;
      }

  pub kept_if : (directives root types values first second any : Bool)
      → directives ≡ (change.directives && c.directives.has_directives)
      → root ≡ (change.mutation_root && c.has_appends)
      → types ≡ list_any (contains bytes_eq c.types) change.kinds
      → (values ≡ false → FitsAsBefore change c.directives)
      → first ≡ (directives || root) → second ≡ (types || values) → any ≡ (first || second) → not any ≡ true → IsCheckOf t d c
  kept_if directives root types values first second any is_directives is_root is_types fits is_first is_second is_any so =
      let none = neither first second (sym is_any ∙ no_if any so) in
      let left = neither directives root (sym is_first ∙ none.0) in
      let right = neither types values (sym is_second ∙ none.1) in
      kept (one_false change.directives c.directives.has_directives (sym is_directives ∙ left.0))
      (one_false change.mutation_root c.has_appends (sym is_root ∙ left.1))
      (apart (contains bytes_eq c.types) change.kinds (sym is_types ∙ right.0))
      (fits right.1)
