-- In a schema without faults no default leads back to itself.
use Rattle.std.proofs.Common.{◌≡◌, ◌≤◌, ℕ, List, [], ◌∷◌, Bool, true, false, true≢false, if◌then◌else◌, map, flat_map, bytes_eq, is_some, length, nat_eq, nat_lt, count_by, Option, Some, None, Contains, refl, ap, sym, subst, ◌∙◌, arith}
use Rattle.std.specs.List.{slice_get}
use Rattle.std.proofs.lemmas.Bool.Decides.{nat_tests}
use Rattle.std.proofs.lemmas.List.Elements.{Contains-append_left, Contains-append_right}
use Rattle.std.proofs.lemmas.Slice.Eq.{bytes_eq-Decides}
use Rattle.gql_text.specs.declared.place.Place.{Place}
use Rattle.gql_ast.specs.declared.fault.Fault.{Fault}
use Rattle.gql_ast.specs.declared.files.Files.{Files}
use Rattle.gql_ast.specs.declared.literal.Literal.{Literal}
use Rattle.gql_ast.specs.declared.rule.Rule.{Rule}
use Rattle.gql_ast.specs.declared.rule.Rule.TheVariants as rule
use Rattle.gql_ast.specs.declared.text.Name.{Name}
use Rattle.gql_ast.specs.declared.type_system.FieldDefinition.{FieldDefinition}
use Rattle.gql_ast.specs.declared.type_system.InputValueDefinition.{InputValueDefinition}
use Rattle.gql_built_in.specs.declared.sited.Sited.{Sited}
use Rattle.gql_coerce.proofs.Fitted.{at_most_one, count_made, no_filtered, empty_right}
use Rattle.gql_cycles.proofs.Members.{Contains-here, Contains-map, Contains-map_from, Contains-flat_map, Contains-flat_map_from}
use Rattle.gql_cycles.specs.Nodes.{Trail}
use Rattle.gql_faults.specs.Directives.{first_directives}
use Rattle.gql_faults.specs.Faults.{in_file, fault, fault_in, fault_of, own_name_of, where_known}
use Rattle.gql_faults.specs.Names.{count_of, repeated, repeated_faults}
use Rattle.gql_iface_rules.specs.S19DefaultValueCycles.{input_objects, all_inputs, default_graph, fault_at_number}
use Rattle.gql_inputs.specs.BadValues.{bad_values, fits, misfits, repeats}
use Rattle.gql_inputs.specs.Lookups.{in_schema}
use Rattle.gql_inputs.specs.Values.{place_of, value_of}
use Rattle.gql_node_rules.specs.ValueFaults.{fault_unless_fit}
use Rattle.gql_schema_rules.specs.S06DuplicateFields as s06
use Rattle.gql_schema_rules.specs.S18BadDefaultValues as s18
use Rattle.gql_schema_rules.specs.SchemaFaults.{by_s06, by_s18, by_s19}
use Rattle.gql_types.specs.Kinds.{same_kind}
use Rattle.gql_types.specs.Schemas.{schema_of}
use Rattle.gql_types.specs.Written.{written}
use Rattle.gql_types.specs.declared.kind.TypeKind.TheVariants as kind
use Rattle.gql_types.specs.declared.schema.Schema.{Schema}
use Rattle.gql_types.specs.declared.schema_type.SchemaType.{SchemaType}
use Rattle.gql_serving.specs.SoundSchemas.{IsSound, NoDefaultCycles}
use Rattle.gql_serving.proofs.InFiles as places
use Rattle.gql_serving.proofs.InFiles.{Contains-filter_from}
use Rattle.gql_serving.proofs.Leading.{no_cycle}
use Rattle.gql_serving.proofs.Needing.{FieldsDiffer}
use Rattle.gql_serving.proofs.Numbering.{contains_at, is_input_object, named_type}

-- what is in a file has its name
pub some_is : {A : Type 0} (o : Option A) → is_some o ≡ true → (x : A) × (o ≡ Some x)
some_is None is = absurd (true≢false (sym is))
some_is (Some x) is = (x, refl)

-- a fault is found at a place that is in a file
pub fault_there : (r : Rule) (about : List ℕ) (file : Option (List ℕ)) (place : Place) → is_some file ≡ true → (f : Fault) × Contains (fault_in r about file place) f
fault_there r about file place is =
    let name = some_is file is in
    let f = fault r about (in_file name.0 place ∷ []) in
    (f, subst (λ o. Contains (fault_in r about o place) f) (sym name.1) (Contains-here f []))

nothing_in : {A : Type 0} (xs : List A) → ((x : A) → Contains xs x → ⊥) → xs ≡ []
nothing_in [] none = refl
nothing_in (x ∷ xs) none = absurd (none x (Contains-here x xs))

empty_length : {A : Type 0} (xs : List A) → nat_eq (length xs) 0 ≡ true → xs ≡ []
empty_length [] is = refl
empty_length (x ∷ xs) is = absurd (grind (arith, nat_tests, is))

module _ (files : Files) (sound : IsSound files) where
  abbrev s : Schema
  s = schema_of files

  -- ---- the type of an input field

  abbrev Home : Sited InputValueDefinition → Type 0
  Home f = (u : SchemaType) × Contains s.types u × (same_kind u.kind kind.InputObject ≡ true) × Contains u.input_fields f

  home_of : (f : Sited InputValueDefinition) → Contains (all_inputs s) f → Home f
  home_of f has =
      let u = Contains-flat_map_from (λ (t : SchemaType). t.input_fields) (input_objects s.types) f has in
      let at = Contains-filter_from (λ (t : SchemaType). same_kind t.kind kind.InputObject) s.types u.0 u.1 in
      (u.0, at.0, at.1, u.2)

  in_a_file : (f : Sited InputValueDefinition) → Contains (all_inputs s) f → is_some f.file ≡ true
  in_a_file f has = let h = home_of f has in places.in_file files h.0 h.1 h.2 f h.3

  -- ---- no field is in its own trail, by S19

  no_trail : (i : ℕ) (f : Sited InputValueDefinition) → slice_get (all_inputs s) i ≡ Some f → Trail (default_graph s) i i → ⊥
  no_trail i f at trail =
      let x = fault_there rule.S19 f.node.name.text f.file f.node.name.place (in_a_file f (contains_at (all_inputs s) i f at)) in
      let found : Contains (fault_at_number (all_inputs s) i) x.0 = subst (λ o. Contains (where_known o (λ (d : Sited InputValueDefinition). fault_of rule.S19 (own_name_of (λ (v : InputValueDefinition). v.name) d))) x.0) (sym at) x.1 in
      sound x.0 (by_s19 (i, trail, found))

  -- ---- the fields of an input object differ in their names, by S06

  abbrev as_name : Sited InputValueDefinition → Sited Name
  as_name = own_name_of (λ (v : InputValueDefinition). v.name)

  none_repeated : (u : SchemaType) → Contains s.types u → same_kind u.kind kind.InputObject ≡ true → repeated (map as_name u.input_fields) ≡ []
  none_repeated u has of_kind = nothing_in (repeated (map as_name u.input_fields)) (λ n there.
      let names = map as_name u.input_fields in
      let at = Contains-filter_from (λ (m : Sited Name). nat_lt 1 (count_of m.node.text names)) names n there in
      let d = Contains-map_from as_name u.input_fields n at.0 in
      let placed : is_some n.file ≡ true = ap (λ (m : Sited Name). is_some m.file) (sym d.2) ∙ places.in_file files u has of_kind d.0 d.1 in
      let x = fault_there rule.S06 n.node.text n.file n.node.place placed in
      let of_names : Contains (repeated_faults rule.S06 names) x.0 = Contains-flat_map (fault_of rule.S06) (repeated names) n x.0 there x.1 in
      let of_type : Contains (s06.faults_of_type u) x.0 = Contains-append_right (repeated_faults rule.S06 (map (own_name_of (λ (f : FieldDefinition). f.name)) u.fields)) (repeated_faults rule.S06 names) x.0 of_names in
      sound x.0 (by_s06 (Contains-flat_map s06.faults_of_type s.types u x.0 has of_type)))

  same : (xs ys : List ℕ) → xs ≡ ys → bytes_eq xs ys ≡ true
  same xs ys e = (bytes_eq-Decides xs ys).1 e

  few : (n : ℕ) → nat_lt 1 n ≡ false → n ≤ 1
  few n e = grind (arith, nat_tests, e)

  fields_differ : FieldsDiffer s
  fields_differ t u is of_kind f g has_f has_g named = at_most_one (λ (d : Sited InputValueDefinition). bytes_eq f.node.name.text d.node.name.text) u.input_fields
      (few (count_by (λ (d : Sited InputValueDefinition). bytes_eq f.node.name.text d.node.name.text) u.input_fields) not_more) f g has_f has_g
      (same f.node.name.text f.node.name.text refl) (same f.node.name.text g.node.name.text named) where
        not_more : nat_lt 1 (count_by (λ (d : Sited InputValueDefinition). bytes_eq f.node.name.text d.node.name.text) u.input_fields) ≡ false
        not_more = ap (nat_lt 1) (sym (count_made as_name (λ (n : Sited Name). bytes_eq f.node.name.text n.node.text) u.input_fields))
            ∙ no_filtered (λ (n : Sited Name). nat_lt 1 (count_of n.node.text (map as_name u.input_fields))) (map as_name u.input_fields)
            (none_repeated u (named_type s t u is) (is_input_object u.kind of_kind)) (as_name f) (Contains-map as_name u.input_fields f has_f)

  -- ---- no object in a default gives a field twice, by S18

  fits_type : (f : Sited InputValueDefinition) → Contains (all_inputs s) f → (x : Literal) → f.node.default ≡ Some x → fits s x (written f.node.of_type) ≡ true
  fits_type f has x is = by (fits s x (written f.node.of_type)) refl where
    h : Home f
    h = home_of f has

    by : (b : Bool) → fits s x (written f.node.of_type) ≡ b → b ≡ true
    by true fit = refl
    by false fit =
        let y = fault_there rule.S18 f.node.name.text f.file (place_of (value_of x)) (in_a_file f has) in
        let of_value : Contains (fault_unless_fit rule.S18 s f.node (record { file = f.file; node = x })) y.0 =
        subst (λ b. Contains (if b then [] else fault_in rule.S18 f.node.name.text f.file (place_of (value_of x))) y.0) (sym fit) y.1 in
        let of_field : Contains (s18.fault_of_input_field s f) y.0 =
        subst (λ o. Contains (where_known o (λ (z : Literal). fault_unless_fit rule.S18 s f.node (record { file = f.file; node = z }))) y.0) (sym is) of_value in
        let of_type : Contains (s18.faults_of_type s h.0) y.0 = Contains-append_left (flat_map (s18.fault_of_input_field s) h.0.input_fields) (flat_map (s18.faults_of_field s) h.0.fields) y.0
        (Contains-flat_map (s18.fault_of_input_field s) h.0.input_fields f y.0 h.3 of_field) in
        absurd (sound y.0 (by_s18 (Contains-append_left (flat_map (s18.faults_of_type s) s.types) (flat_map (s18.faults_of_directive s) (first_directives s.directives)) y.0
        (Contains-flat_map (s18.faults_of_type s) s.types h.0 y.0 h.1 of_type))))

  once : (f : Sited InputValueDefinition) → Contains (all_inputs s) f → (x : Literal) → f.node.default ≡ Some x → repeats (value_of x) ≡ []
  once f has x is = empty_right (misfits (in_schema s) (written f.node.of_type) (value_of x)) (repeats (value_of x)) (empty_length (bad_values s x (written f.node.of_type)) (fits_type f has x is))

pub no_default_cycles : NoDefaultCycles
no_default_cycles files sound = no_cycle (schema_of files) (fields_differ files sound) (once files sound) (no_trail files sound)
