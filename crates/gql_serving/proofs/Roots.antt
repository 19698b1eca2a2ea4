-- Where the schema and an operation have no fault, the root type of the operation is an object type,
-- and the operation is a subscription only where the profile has subscriptions.
use Rattle.std.specs.Prelude.{◌≢◌}
use Rattle.std.proofs.Common.{◌≡◌, ℕ, List, [], ◌∷◌, ◌++◌, Bool, true, false, ◌||◌, Option, Some, None, is_some, flat_map, codes, bytes_eq, if◌then◌else◌, Contains, refl, ap, sym, ◌∙◌, subst, inl, inr, rules}
use Rattle.std.proofs.lemmas.List.Elements.{Contains-append_left, Contains-append_right, Contains-append_cases}
use Rattle.std.proofs.lemmas.Slice.Eq.{bytes_eq-Decides}
use Rattle.std.specs.Option.{option_map, option_map_or}
use denote.Enum.Bare.{same_true}
use Rattle.gql_ast.specs.declared.definition.Definition.{Definition}
use Rattle.gql_ast.specs.declared.definition.Document.{Document}
use Rattle.gql_ast.specs.declared.definition.Tree.{Tree}
use Rattle.gql_ast.specs.declared.definition.Tree.TheVariants as tree
use Rattle.gql_ast.specs.declared.executable.Operation.{Operation}
use Rattle.gql_ast.specs.declared.executable.OperationKind.{OperationKind}
use Rattle.gql_ast.specs.declared.executable.OperationKind.TheVariants as operation
use Rattle.gql_ast.specs.declared.fault.Fault.{Fault}
use Rattle.gql_ast.specs.declared.files.Files.{Files}
use Rattle.gql_ast.specs.declared.rule.Rule.{Rule}
use Rattle.gql_ast.specs.declared.rule.Rule.TheVariants as rule
use Rattle.gql_ast.specs.declared.text.Name.{Name}
use Rattle.gql_ast.specs.declared.type_system.RootOperation.{RootOperation}
use Rattle.gql_ast.specs.declared.type_system.SchemaDefinition.{SchemaDefinition}
use Rattle.gql_ast.specs.declared.type_system.SchemaExtension.{SchemaExtension}
use Rattle.gql_ast.specs.declared.type_system.TypeDefinition.{TypeDefinition}
use Rattle.gql_built_in.specs.BuiltIn.{built_in}
use Rattle.gql_built_in.specs.declared.sited.Sited.{Sited}
use Rattle.gql_facts.specs.Facts.{answer, fact_of}
use Rattle.gql_facts.specs.ListMembers.{Contains-nil, Contains-here, Contains-there, Contains-cases, Contains-map, Contains-flat_map, Contains-flat_map_from, found_in}
use Rattle.gql_facts.specs.Nodes.{root_in}
use Rattle.gql_facts.specs.declared.fact.Fact.TheVariants as fact
use Rattle.gql_facts.specs.declared.key.Key.TheVariants as key
use Rattle.gql_faults.specs.Faults.{fault, fault_of, fault_in, in_file, where_known}
use Rattle.gql_node_rules.specs.Nodes.{schema_of, schema_extension_of, within}
use Rattle.gql_node_rules.specs.P01FloatReferences as p01
use Rattle.gql_node_rules.specs.References.{inputs, interfaces, members, outputs, references, roots, types_in}
use Rattle.gql_node_rules.specs.S20UnknownTypes as s20
use Rattle.gql_rules.specs.LocalFaults as local
use Rattle.gql_rules.specs.LocalFaults.{owner_of, tree_faults}
use Rattle.gql_rules.specs.Faults as own
use Rattle.gql_rules.specs.P03Subscriptions as p03
use Rattle.gql_rules.specs.P05MutationsWithoutARoot as p05
use Rattle.gql_rules.specs.Parts.{name_or_empty}
use Rattle.gql_schema_rules.specs.S23MissingQueryRoot as s23
use Rattle.gql_schema_rules.specs.S24NonObjectRoots as s24
use Rattle.gql_schema_rules.specs.P02SubscriptionRoots as p02
use Rattle.gql_schema_rules.specs.SchemaFaults.{by_p01, by_p02, by_s20, by_s23, by_s24, nodes_in}
use Rattle.gql_serving.specs.Laws.{HasNoFault}
use Rattle.gql_serving.specs.Owned as owned
use Rattle.gql_serving.specs.SoundSchemas.{IsSound}
use Rattle.gql_types.specs.Definitions.{definitions, in_order_of, of_file, of_files, schema_definitions, schema_extensions, schema_in, schema_extension_in, type_definitions, type_extensions, type_in}
use Rattle.gql_types.specs.Kinds.{same_kind, same_operation}
use Rattle.gql_types.specs.Parts.{sited}
use Rattle.gql_types.specs.Roots.{all_implied, defined, entries, implied}
use Rattle.gql_types.specs.Schemas as schemas
use Rattle.gql_types.specs.Schemas.{kind_named, root_of, type_named}
use Rattle.gql_types.specs.Types.{assembled, extensions_of, first_definitions}
use Rattle.gql_types.specs.contracts.kind.TypeKind as of_type
use Rattle.gql_types.specs.declared.kind.TypeKind.{TypeKind}
use Rattle.gql_types.specs.declared.kind.TypeKind.TheVariants as kind
use Rattle.gql_types.specs.declared.roots.Root.{Root}
use Rattle.gql_types.specs.declared.schema.Schema.{Schema}
use Rattle.gql_types.specs.declared.schema_type.SchemaType.{SchemaType}
use Rattle.gql_verdict.specs.Definitions.{all_definitions}
use Rattle.gql_verdict.specs.Faults as faults
use Rattle.gql_serving.proofs.BuiltIns.{IsFree, query_free, mutation_free, subscription_free, no_schema, no_extension, no_type}
use Rattle.gql_serving.proofs.Listed.{Contains-map_from, Contains-filter_from}

-- ---- what stands in a file

-- a node of a file
abbrev IsOfFile : {A : Type 0} → Sited A → Type 0
IsOfFile {A} n = (file : List ℕ) × (n.file ≡ Some file)

placed : (files : List (List ℕ × Document)) (d : Sited Tree) → Contains (of_files files) d → IsOfFile d
placed files d h =
    let r = Contains-flat_map_from (λ (f : List ℕ × Document). in_order_of f.1.definitions) files d h in
    let q = Contains-map_from of_file r.0.1.definitions d r.2 in
    (q.0.file, ap (λ (y : Sited Tree). y.file) (sym q.2))

-- a fault at a name of a file is one
fault_there : (r : Rule) (n : Sited Name) → IsOfFile n → (f : Fault) × Contains (fault_of r n) f
fault_there r n (file, e) =
    let f = fault r n.node.text (in_file file n.node.place ∷ []) in
    (f, subst (λ o. Contains (fault_in r n.node.text o n.node.place) f) (sym e) (Contains-here f []))

-- ---- kinds

same_is : (a b : TypeKind) → same_kind a b ≡ true → a ≡ b
unfolding same_kind
same_is a b h = same_true of_type.the_type (search rules) a b h

-- the test for subscriptions does not depend on the order of the two kinds
same_back : (k : OperationKind) → same_operation operation.Subscription k ≡ true → same_operation k operation.Subscription ≡ true
unfolding same_operation
same_back operation.Subscription e = refl
same_back operation.Query e = e
same_back operation.Mutation e = e

-- ---- the roots of a schema without faults

module _ (files : Files) (sound : IsSound files) where
  abbrev s : Schema
  s = schemas.schema_of files

  abbrev ds : List (Sited Tree)
  ds = definitions files

  -- the definitions of schemas are in files
  record IsNode {A : Type 0} (all : List (Sited A)) (x : Sited A) : Type 0 where
    there : Contains all x
    place : IsOfFile x

  one_schema : (file : Option (List ℕ)) (t : Tree) (x : Sited SchemaDefinition) → Contains (schema_in file t) x
      → Contains (sited file (schema_of t)) x × (x.file ≡ file)
  one_schema file (tree.Schema y) x h = (
    h,
    elim (Contains-cases x (record { file = file; node = y }) [] h) [
      | inl e ↦ ap (λ (z : Sited SchemaDefinition). z.file) e
      | inr i ↦ absurd (Contains-nil x i)
    ],
  )
  one_schema file (tree.Operation y) x h = absurd (Contains-nil x h)
  one_schema file (tree.Fragment y) x h = absurd (Contains-nil x h)
  one_schema file (tree.Type y) x h = absurd (Contains-nil x h)
  one_schema file (tree.Directive y) x h = absurd (Contains-nil x h)
  one_schema file (tree.SchemaExtension y) x h = absurd (Contains-nil x h)
  one_schema file (tree.TypeExtension y) x h = absurd (Contains-nil x h)

  one_extension : (file : Option (List ℕ)) (t : Tree) (x : Sited SchemaExtension) → Contains (schema_extension_in file t) x
      → Contains (sited file (schema_extension_of t)) x × (x.file ≡ file)
  one_extension file (tree.SchemaExtension y) x h = (
    h,
    elim (Contains-cases x (record { file = file; node = y }) [] h) [
      | inl e ↦ ap (λ (z : Sited SchemaExtension). z.file) e
      | inr i ↦ absurd (Contains-nil x i)
    ],
  )
  one_extension file (tree.Operation y) x h = absurd (Contains-nil x h)
  one_extension file (tree.Fragment y) x h = absurd (Contains-nil x h)
  one_extension file (tree.Type y) x h = absurd (Contains-nil x h)
  one_extension file (tree.Directive y) x h = absurd (Contains-nil x h)
  one_extension file (tree.Schema y) x h = absurd (Contains-nil x h)
  one_extension file (tree.TypeExtension y) x h = absurd (Contains-nil x h)

  schema_node : (x : Sited SchemaDefinition) → Contains (schema_definitions ds) x → IsNode (nodes_in files).schemas x
  schema_node x h =
      let r = Contains-flat_map_from (λ (d : Sited Tree). schema_in d.file d.node) ds x h in
      elim (Contains-append_cases (built_in files.profile.floats) (of_files files.schema) r.0 r.1) [
        | inl i ↦ absurd (no_schema files.profile.floats r.0 x i r.2)
        | inr i ↦
            let one = one_schema r.0.file r.0.node x r.2 in
            let place = placed files.schema r.0 i in
            record {
              there = Contains-flat_map (λ (n : Sited Tree). sited n.file (schema_of n.node)) (of_files files.schema) r.0 x i one.0;
              place = (place.0, one.1 ∙ place.1);
            }
      ]

  extension_node : (x : Sited SchemaExtension) → Contains (schema_extensions ds) x → IsNode (nodes_in files).schema_extensions x
  extension_node x h =
      let r = Contains-flat_map_from (λ (d : Sited Tree). schema_extension_in d.file d.node) ds x h in
      elim (Contains-append_cases (built_in files.profile.floats) (of_files files.schema) r.0 r.1) [
        | inl i ↦ absurd (no_extension files.profile.floats r.0 x i r.2)
        | inr i ↦
            let one = one_extension r.0.file r.0.node x r.2 in
            let place = placed files.schema r.0 i in
            record {
              there = Contains-flat_map (λ (n : Sited Tree). sited n.file (schema_extension_of n.node)) (of_files files.schema) r.0 x i one.0;
              place = (place.0, one.1 ∙ place.1);
            }
      ]

  -- ---- the types that entries name are known

  root_refers : (n : Sited Name) → Contains (roots (nodes_in files)) n → Contains (references (nodes_in files)) n
  root_refers n h =
      let all = nodes_in files in
      Contains-append_right (inputs all) (outputs all ++ (interfaces all ++ (members all ++ roots all))) n
      (Contains-append_right (outputs all) (interfaces all ++ (members all ++ roots all)) n
      (Contains-append_right (interfaces all) (members all ++ roots all) n
      (Contains-append_right (members all) (roots all) n h)))

  -- a root stands in a file, and its type is known
  record IsKnown (r : Root) : Type 0 where
    place : IsOfFile r.name
    kind : TypeKind
    is : kind_named s r.name.node.text ≡ Some kind

  kind_there : (name : List ℕ) → is_some (type_named s name) ≡ true → (k : TypeKind) × (kind_named s name ≡ Some k)
  kind_there name h = by (type_named s name) h where
    by : (o : Option SchemaType) → is_some o ≡ true → (k : TypeKind) × (option_map (λ (t : SchemaType). t.kind) o ≡ Some k)
    by None e = absurd (cc e)
    by (Some t) e = (t.kind, refl)

  known_name : (n : Sited Name) → Contains (references (nodes_in files)) n → IsOfFile n → (k : TypeKind) × (kind_named s n.node.text ≡ Some k)
  known_name n h place = by (is_some (type_named s n.node.text)) (p01.is_float n.node.text) refl refl where
    at : Rule → Fault
    at r = (fault_there r n place).0

    by : (b c : Bool) → is_some (type_named s n.node.text) ≡ b → p01.is_float n.node.text ≡ c → (k : TypeKind) × (kind_named s n.node.text ≡ Some k)
    by true c e e' = kind_there n.node.text e
    by false true e e' = absurd (sound (at rule.P01) (by_p01
        (Contains-flat_map (p01.fault_of_name s) (references (nodes_in files)) n (at rule.P01) h
        (subst (λ b. Contains (if b then [] else p01.fault_of_unknown n) (at rule.P01)) (sym e)
        (subst (λ b. Contains (if b then fault_of rule.P01 n else []) (at rule.P01)) (sym e') (fault_there rule.P01 n place).1)))))
    by false false e e' = absurd (sound (at rule.S20) (by_s20
        (Contains-flat_map (s20.fault_of_name s) (references (nodes_in files)) n (at rule.S20) h
        (subst (λ b. Contains (if b then [] else fault_of rule.S20 n) (at rule.S20)) (sym (ap (λ b. b || p01.is_float n.node.text) e ∙ e')) (fault_there rule.S20 n place).1))))

  -- the entries of a definition or an extension of the schema
  entry_known : (file : Option (List ℕ)) (all : List RootOperation) (r : Root) → Contains (entries file all) r
      → (n : List ℕ) × (file ≡ Some n)
      → ((n : Sited Name) → Contains (sited file (types_in all)) n → Contains (roots (nodes_in files)) n) → IsKnown r
  entry_known file all r h place refers =
      let root_at : RootOperation → Root = λ x. record { kind = x.kind; entry = Some x.place; name = record { file = file; node = x.name } } in
      let q = Contains-map_from root_at all r h in
      let name_at : Name → Sited Name = λ x. record { file = file; node = x } in
      let there : Contains (sited file (types_in all)) (name_at q.0.name) =
      Contains-map name_at (types_in all) q.0.name (Contains-map (λ (x : RootOperation). x.name) all q.0 q.1) in
      let same : name_at q.0.name ≡ r.name = ap (λ (x : Root). x.name) q.2 in
      let k = known_name (name_at q.0.name) (root_refers (name_at q.0.name) (refers (name_at q.0.name) there)) place in
      record {
        place = (place.0, ap (λ (x : Sited Name). x.file) (sym same) ∙ place.1);
        kind = k.0;
        is = ap (λ (x : Sited Name). kind_named s x.node.text) (sym same) ∙ k.1;
      }

  schema_known : (x : Sited SchemaDefinition) → Contains (schema_definitions ds) x → (r : Root)
      → Contains (entries x.file x.node.roots) r → IsKnown r
  schema_known x h r i =
      let node = schema_node x h in
      let all = nodes_in files in
      entry_known x.file x.node.roots r i node.place (λ n c.
      Contains-append_left (within (λ (y : SchemaDefinition). types_in y.roots) all.schemas)
      (within (λ (y : SchemaExtension). types_in y.roots) all.schema_extensions) n
      (Contains-flat_map (λ (y : Sited SchemaDefinition). sited y.file (types_in y.node.roots)) all.schemas x n node.there c))

  extension_known : (x : Sited SchemaExtension) → Contains (schema_extensions ds) x → (r : Root)
      → Contains (entries x.file x.node.roots) r → IsKnown r
  extension_known x h r i =
      let node = extension_node x h in
      let all = nodes_in files in
      entry_known x.file x.node.roots r i node.place (λ n c.
      Contains-append_right (within (λ (y : SchemaDefinition). types_in y.roots) all.schemas)
      (within (λ (y : SchemaExtension). types_in y.roots) all.schema_extensions) n
      (Contains-flat_map (λ (y : Sited SchemaExtension). sited y.file (types_in y.node.roots)) all.schema_extensions x n node.there c))

  -- ---- the types that are roots by their names

  first_from : (xs : List (Sited TypeDefinition)) (x : Sited TypeDefinition) → Contains (first_definitions xs) x → Contains xs x
  first_from [] x h = h
  first_from (y ∷ ys) x h = elim (Contains-cases x y _ h) [
    | inl e ↦ subst (λ z. Contains (y ∷ ys) z) (sym e) (Contains-here y ys)
    | inr i ↦ Contains-there x y ys (first_from ys x (Contains-filter_from _ (first_definitions ys) x i))
  ]

  type_place : (file : Option (List ℕ)) (t : Tree) (x : Sited TypeDefinition) → Contains (type_in file t) x → x.file ≡ file
  type_place file (tree.Type y) x h = by _ h where
    by : (b : Bool) → Contains (if b then record { file = file; node = y } ∷ [] else []) x → x.file ≡ file
    by true h = elim (Contains-cases x (record { file = file; node = y }) [] h) [
      | inl e ↦ ap (λ (z : Sited TypeDefinition). z.file) e
      | inr i ↦ absurd (Contains-nil x i)
    ]
    by false h = absurd (Contains-nil x h)
  type_place file (tree.Operation y) x h = absurd (Contains-nil x h)
  type_place file (tree.Fragment y) x h = absurd (Contains-nil x h)
  type_place file (tree.Schema y) x h = absurd (Contains-nil x h)
  type_place file (tree.Directive y) x h = absurd (Contains-nil x h)
  type_place file (tree.SchemaExtension y) x h = absurd (Contains-nil x h)
  type_place file (tree.TypeExtension y) x h = absurd (Contains-nil x h)

  -- a type of a name that no built-in type has stands in a file
  type_of_file : (name : List ℕ) → IsFree name → (t : SchemaType) → Contains s.types t
      → bytes_eq name t.definition.node.name.text ≡ true → IsOfFile t.definition
  type_of_file name free t h e =
      let make : Sited TypeDefinition → SchemaType = λ d. assembled d (extensions_of (type_extensions ds) d) in
      let q = Contains-map_from make (first_definitions (type_definitions ds)) t h in
      let same : q.0 ≡ t.definition = ap (λ (x : SchemaType). x.definition) q.2 in
      let x = t.definition in
      let there : Contains (type_definitions ds) x =
      subst (λ z. Contains (type_definitions ds) z) same (first_from (type_definitions ds) q.0 q.1) in
      let r = Contains-flat_map_from (λ (d : Sited Tree). type_in d.file d.node) ds x there in
      elim (Contains-append_cases (built_in files.profile.floats) (of_files files.schema) r.0 r.1) [
        | inl i ↦ absurd (no_type files.profile.floats name free r.0 x i r.2 e)
        | inr i ↦ let place = placed files.schema r.0 i in (place.0, type_place r.0.file r.0.node x r.2 ∙ place.1)
      ]

  implied_known : (k : OperationKind) (name : List ℕ) → IsFree name → (r : Root) → Contains (implied s.types k name) r → IsKnown r
  implied_known k name free r h = by (type_named s name) refl h where
    root_at : SchemaType → Root
    root_at t = record { kind = k; entry = None; name = record { file = t.definition.file; node = t.definition.node.name } }

    by : (o : Option SchemaType) → type_named s name ≡ o
        → Contains (option_map_or (λ (t : SchemaType). root_at t ∷ []) o []) r → IsKnown r
    by None e h = absurd (Contains-nil r h)
    by (Some t) e h =
        let found = found_in (λ (x : SchemaType). bytes_eq name x.definition.node.name.text) s.types t e in
        let same : r ≡ root_at t = elim (Contains-cases r (root_at t) [] h) [
          | inl i ↦ i
          | inr i ↦ absurd (Contains-nil r i)
        ] in
        let place = type_of_file name free t found.0 found.1 in
        let text : r.name.node.text ≡ name =
        ap (λ (x : Root). x.name.node.text) same ∙ sym ((bytes_eq-Decides name t.definition.node.name.text).0 found.1) in
        record {
          place = (place.0, ap (λ (x : Root). x.name.file) same ∙ place.1);
          kind = t.kind;
          is = ap (kind_named s) text ∙ ap (option_map (λ (x : SchemaType). x.kind)) e;
        }

  all_implied_known : (r : Root) → Contains (all_implied s.types) r → IsKnown r
  all_implied_known r h =
      let query = implied s.types operation.Query (codes "Query") in
      let mutation = implied s.types operation.Mutation (codes "Mutation") in
      let subscription = implied s.types operation.Subscription (codes "Subscription") in
      elim (Contains-append_cases query (mutation ++ subscription) r h) [
        | inl i ↦ implied_known operation.Query (codes "Query") query_free r i
        | inr i ↦ elim (Contains-append_cases mutation subscription r i) [
          | inl j ↦ implied_known operation.Mutation (codes "Mutation") mutation_free r j
          | inr j ↦ implied_known operation.Subscription (codes "Subscription") subscription_free r j
        ]
      ]

  -- ---- all roots

  defined_known : (r : Root) → Contains (defined s.types (schema_definitions ds)) r → IsKnown r
  defined_known r h = by (schema_definitions ds) refl h where
    by : (xs : List (Sited SchemaDefinition)) → schema_definitions ds ≡ xs → Contains (defined s.types xs) r → IsKnown r
    by [] e h = all_implied_known r h
    by (x ∷ xs) e h = schema_known x (subst (λ l. Contains l x) (sym e) (Contains-here x xs)) r h

  root_known : (r : Root) → Contains s.roots r → IsKnown r
  root_known r h =
      let further = λ (e : Sited SchemaExtension). entries e.file e.node.roots in
      elim (Contains-append_cases (defined s.types (schema_definitions ds)) (flat_map further (schema_extensions ds)) r h) [
        | inl i ↦ defined_known r i
        | inr i ↦ let q = Contains-flat_map_from further (schema_extensions ds) r i in extension_known q.0 q.1 r q.2
      ]

  pub root_is_object : (r : Root) → Contains s.roots r → kind_named s r.name.node.text ≡ Some kind.Object
  root_is_object r h = by (same_kind k.kind kind.Object) refl where
    k : IsKnown r
    k = root_known r h

    f : Fault
    f = (fault_there rule.S24 r.name k.place).0

    by : (b : Bool) → same_kind k.kind kind.Object ≡ b → kind_named s r.name.node.text ≡ Some kind.Object
    by true e = k.is ∙ ap Some (same_is k.kind kind.Object e)
    by false e = absurd (sound f (by_s24 (Contains-flat_map (s24.fault_of_root s) s.roots r f h
        (subst (λ o. Contains (where_known o (λ (x : TypeKind). if same_kind x kind.Object then [] else fault_of rule.S24 r.name)) f) (sym k.is)
        (subst (λ b. Contains (if b then [] else fault_of rule.S24 r.name) f) (sym e) (fault_there rule.S24 r.name k.place).1)))))

  -- ---- the root of an operation

  pub record HasRoot (k : OperationKind) : Type 0 where
    pub root : Root
    pub is : root_of s k ≡ Some root
    pub object : kind_named s root.name.node.text ≡ Some kind.Object

  of_root : (k : OperationKind) (root : Root) → root_of s k ≡ Some root → HasRoot k
  of_root k root e = record {
    root = root;
    is = e;
    object = root_is_object root (found_in (λ (r : Root). same_operation k r.kind) s.roots root e).0;
  }

  query_root : HasRoot operation.Query
  query_root = by (root_of s operation.Query) refl where
    by : (o : Option Root) → root_of s operation.Query ≡ o → HasRoot operation.Query
    by (Some root) e = of_root operation.Query root e
    by None e = absurd (sound s23.missing_query_root (by_s23
        (subst (λ o. Contains (if is_some o then [] else s23.missing_query_root ∷ []) s23.missing_query_root) (sym e)
        (Contains-here s23.missing_query_root []))))

  module _ (d : Definition) (o : Operation) (is : d.tree ≡ tree.Operation o) (there : Contains (all_definitions files.documents) d)
      (clean : HasNoFault files d) where
    -- an operation without faults has none of its own
    no_own : (f : Fault) → f.owner ≡ Some (owner_of d) → Contains (local.operation_faults (fact_of files) (owner_of d) o) f → ⊥
    no_own f owner h = clean d f there
        (faults.by_definition (local.of_part (subst (λ t. Contains (tree_faults (fact_of files) (owner_of d) t) f) (sym is) h)))
        (owned.by_operation owner)

    by_kind : (k : OperationKind) → o.kind ≡ k → HasRoot k
    by_kind operation.Query e = query_root
    by_kind operation.Mutation e = by (root_of s operation.Mutation) refl where
      by : (r : Option Root) → root_of s operation.Mutation ≡ r → HasRoot operation.Mutation
      by (Some root) is = of_root operation.Mutation root is
      by None is =
          let f = own.fault_at (owner_of d) rule.P05 (name_or_empty o.name) o.place in
          absurd (no_own f refl (Contains-append_right (p03.faults (fact_of files) (owner_of d) o) _ f
          (Contains-append_left (p05.faults (fact_of files) (owner_of d) o) _ f
          (subst (λ k. Contains (p05.faults_by (owner_of d) o k (root_in (fact_of files (key.RootOf k)))) f) (sym e)
          (subst (λ r. Contains (p05.faults_by (owner_of d) o operation.Mutation (root_in (answer (λ (x : Root). fact.Root x.name.node.text) r))) f) (sym is)
          (Contains-here f []))))))
    by_kind operation.Subscription e = by (root_of s operation.Subscription) refl where
      by : (r : Option Root) → root_of s operation.Subscription ≡ r → HasRoot operation.Subscription
      by (Some root) is = of_root operation.Subscription root is
      by None is =
          let f = own.fault_at (owner_of d) rule.P03 (name_or_empty o.name) o.place in
          absurd (no_own f refl (Contains-append_left (p03.faults (fact_of files) (owner_of d) o) _ f
          (subst (λ k. Contains (p03.faults_by (owner_of d) o k (root_in (fact_of files (key.RootOf k)))) f) (sym e)
          (subst (λ r. Contains (p03.faults_by (owner_of d) o operation.Subscription (root_in (answer (λ (x : Root). fact.Root x.name.node.text) r))) f) (sym is)
          (Contains-here f [])))))

    pub has_root : HasRoot o.kind
    has_root = by_kind o.kind refl

    -- ---- where the profile has no subscriptions, the operation is not one: a subscription root has a
    -- fault by P02, and without one the operation has a fault by P03

    no_subscription_root : files.profile.subscriptions ≡ false → (root : Root) → root_of s operation.Subscription ≡ Some root → ⊥
    no_subscription_root none root e =
        let found = found_in (λ (r : Root). same_operation operation.Subscription r.kind) s.roots root e in
        let x = fault_there rule.P02 root.name (root_known root found.0).place in
        sound x.0 (by_p02 (subst (λ b. Contains (if b then [] else flat_map p02.fault_of_root s.roots) x.0) (sym none)
        (Contains-flat_map p02.fault_of_root s.roots root x.0 found.0
        (subst (λ b. Contains (if b then fault_of rule.P02 root.name else []) x.0) (sym (same_back root.kind found.1)) x.1))))

    pub no_subscription : files.profile.subscriptions ≡ false → o.kind ≢ operation.Subscription
    no_subscription none e = let r = by_kind operation.Subscription e in no_subscription_root none r.root r.is
