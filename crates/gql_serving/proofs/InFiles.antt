-- Each input field of a schema stands in a file: what is built in has no input object.
use Rattle.std.proofs.Common.{◌≡◌, ◌||◌, inl, inr, ℕ, List, [], ◌∷◌, Bool, true, false, true≢false, not, if◌then◌else◌, map, flat_map, filter, bytes_eq, is_some, Option, Contains, refl, ap, sym, subst, ◌∙◌}
use Rattle.std.specs.List.{list_any}
use Rattle.std.proofs.lemmas.List.Elements.{Contains-append_cases}
use Rattle.gql_ast.specs.declared.definition.Document.{Document}
use Rattle.gql_ast.specs.declared.definition.Tree.{Tree}
use Rattle.gql_ast.specs.declared.definition.Tree.TheVariants as tree
use Rattle.gql_ast.specs.declared.files.Files.{Files}
use Rattle.gql_ast.specs.declared.type_system.InputValueDefinition.{InputValueDefinition}
use Rattle.gql_ast.specs.declared.type_system.TypeDefinition.{TypeDefinition}
use Rattle.gql_ast.specs.declared.type_system.TypeExtension.{TypeExtension}
use Rattle.gql_ast.specs.declared.type_system.TypeParts.{TypeParts}
use Rattle.gql_built_in.specs.BuiltIn.{built_in, scalars, introspection, type_kinds, directive_locations, directives, skip, include, deprecated, specified_by, append}
use Rattle.gql_built_in.specs.BuiltInWords.{type_of, directive, of_no_file}
use Rattle.gql_built_in.specs.declared.sited.Sited.{Sited}
use Rattle.gql_cycles.proofs.Members.{Contains-nil, Contains-there, Contains-here, Contains-cases, Contains-map_from, Contains-flat_map_from}
use Rattle.gql_types.specs.Definitions.{of_file, in_order_of, of_files, definitions, names_a_type, type_in, extension_in, type_definitions, type_extensions}
use Rattle.gql_types.specs.Kinds.{same_kind}
use Rattle.gql_types.specs.Parts.{kind_of, input_fields_of, sited}
use Rattle.gql_types.specs.Schemas.{schema_of}
use Rattle.gql_types.specs.Types.{first_definitions, extends, extensions_of, parts_in, assembled}
use Rattle.gql_types.specs.declared.kind.TypeKind.TheVariants as kind
use Rattle.gql_types.specs.declared.schema_type.SchemaType.{SchemaType}

-- ---- of a filter, and of tests

pub Contains-filter_from : {A : Type 0} (q : A → Bool) (xs : List A) (x : A) → Contains (filter q xs) x → Contains xs x × (q x ≡ true)
Contains-filter_from q [] x has = absurd (Contains-nil x has)
Contains-filter_from q (y ∷ ys) x has = by (λ h. Contains-filter_from q ys x h) (q y) refl has where
  by : (Contains (filter q ys) x → Contains ys x × (q x ≡ true)) → (b : Bool) → q y ≡ b → Contains (if b then y ∷ filter q ys else filter q ys) x → Contains (y ∷ ys) x × (q x ≡ true)
  by rest true is h = elim (Contains-cases x y (filter q ys) h) [
    | inl e ↦ (subst (Contains (y ∷ ys)) (sym e) (Contains-here y ys), ap q e ∙ is)
    | inr later ↦ let r = rest later in (Contains-there x y ys r.0, r.1)
  ]
  by rest false is h = let r = rest h in (Contains-there x y ys r.0, r.1)

either_left : (a b : Bool) → (a || b) ≡ false → a ≡ false
either_left true b is = is
either_left false b is = refl

either_right : (a b : Bool) → (a || b) ≡ false → b ≡ false
either_right true b is = absurd (true≢false is)
either_right false b is = is

none_of : {A : Type 0} (test : A → Bool) (xs : List A) → list_any test xs ≡ false → (x : A) → Contains xs x → test x ≡ false
none_of test [] none x has = absurd (Contains-nil x has)
none_of test (y ∷ ys) none x has = elim (Contains-cases x y ys has) [
  | inl e ↦ ap test e ∙ either_left (test y) (list_any test ys) none
  | inr later ↦ none_of test ys (either_right (test y) (list_any test ys) none) x later
]

-- ---- what is built in

-- an input object, by its parts
abbrev is_object : TypeParts → Bool
is_object parts = same_kind (kind_of parts) kind.InputObject

-- the definition of an input object, or an extension of a type
abbrev is_input : Tree → Bool
is_input (tree.Type definition) = is_object definition.parts
is_input (tree.TypeExtension extension) = true
is_input (tree.Operation operation) = false
is_input (tree.Fragment fragment) = false
is_input (tree.Schema definition) = false
is_input (tree.Directive definition) = false
is_input (tree.SchemaExtension extension) = false

none_built_in : (floats : Bool) → list_any (λ (d : Sited Tree). is_input d.node) (built_in floats) ≡ false
unfolding built_in scalars introspection type_kinds directive_locations directives skip include deprecated specified_by append type_of directive same_kind of_no_file
none_built_in true = refl
none_built_in false = refl

-- ---- definitions and extensions of types

in_type : (file : Option (List ℕ)) (node : Tree) (d : Sited TypeDefinition) → Contains (type_in file node) d → (d.file ≡ file) × (is_input node ≡ is_object d.node.parts)
in_type file (tree.Type definition) d has = by (names_a_type file definition.name.text) has where
  by : (b : Bool) → Contains (if b then record { file = file; node = definition } ∷ [] else []) d → (d.file ≡ file) × (is_object definition.parts ≡ is_object d.node.parts)
  by true h = elim (Contains-cases d (record { file = file; node = definition }) [] h) [
    | inl e ↦ (ap (λ (x : Sited TypeDefinition). x.file) e, sym (ap (λ (x : Sited TypeDefinition). is_object x.node.parts) e))
    | inr none ↦ absurd (Contains-nil d none)
  ]
  by false h = absurd (Contains-nil d h)
in_type file (tree.Operation operation) d has = absurd (Contains-nil d has)
in_type file (tree.Fragment fragment) d has = absurd (Contains-nil d has)
in_type file (tree.Schema definition) d has = absurd (Contains-nil d has)
in_type file (tree.Directive definition) d has = absurd (Contains-nil d has)
in_type file (tree.SchemaExtension extension) d has = absurd (Contains-nil d has)
in_type file (tree.TypeExtension extension) d has = absurd (Contains-nil d has)

in_extension : (file : Option (List ℕ)) (node : Tree) (e : Sited TypeExtension) → Contains (extension_in file node) e → (e.file ≡ file) × (is_input node ≡ true)
in_extension file (tree.TypeExtension extension) e has = elim (Contains-cases e (record { file = file; node = extension }) [] has) [
  | inl same ↦ (ap (λ (x : Sited TypeExtension). x.file) same, refl)
  | inr none ↦ absurd (Contains-nil e none)
]
in_extension file (tree.Operation operation) e has = absurd (Contains-nil e has)
in_extension file (tree.Fragment fragment) e has = absurd (Contains-nil e has)
in_extension file (tree.Schema definition) e has = absurd (Contains-nil e has)
in_extension file (tree.Type definition) e has = absurd (Contains-nil e has)
in_extension file (tree.Directive definition) e has = absurd (Contains-nil e has)
in_extension file (tree.SchemaExtension extension) e has = absurd (Contains-nil e has)

pub of_a_file : (files : List (List ℕ × Document)) (x : Sited Tree) → Contains (of_files files) x → is_some x.file ≡ true
of_a_file files x has =
    let f = Contains-flat_map_from (λ (f : List ℕ × Document). in_order_of f.1.definitions) files x has in
    let d = Contains-map_from of_file f.0.1.definitions x f.2 in
    ap (λ (y : Sited Tree). is_some y.file) (sym d.2)

module _ (files : Files) where
  -- a definition is not that of an input object, or stands in a file
  by_place : (x : Sited Tree) → Contains (definitions files) x → is_input x.node ≡ true → is_some x.file ≡ true
  by_place x has is = elim (Contains-append_cases (built_in files.profile.floats) (of_files files.schema) x has) [
    | inl there ↦ absurd (true≢false (sym is ∙ none_of (λ (d : Sited Tree). is_input d.node) (built_in files.profile.floats) (none_built_in files.profile.floats) x there))
    | inr there ↦ of_a_file files.schema x there
  ]

  type_in_file : (d : Sited TypeDefinition) → Contains (type_definitions (definitions files)) d → is_object d.node.parts ≡ true → is_some d.file ≡ true
  type_in_file d has is =
      let x = Contains-flat_map_from (λ (x : Sited Tree). type_in x.file x.node) (definitions files) d has in
      let at = in_type x.0.file x.0.node d x.2 in
      ap is_some at.0 ∙ by_place x.0 x.1 (at.1 ∙ is)

  extension_in_file : (e : Sited TypeExtension) → Contains (type_extensions (definitions files)) e → is_some e.file ≡ true
  extension_in_file e has =
      let x = Contains-flat_map_from (λ (x : Sited Tree). extension_in x.file x.node) (definitions files) e has in
      let at = in_extension x.0.file x.0.node e x.2 in
      ap is_some at.0 ∙ by_place x.0 x.1 at.1

  -- ---- the input fields of a type

  pub first_of : (ds : List (Sited TypeDefinition)) (d : Sited TypeDefinition) → Contains (first_definitions ds) d → Contains ds d
  first_of [] d has = absurd (Contains-nil d has)
  first_of (x ∷ ds) d has = elim (Contains-cases d x (filter (λ (e : Sited TypeDefinition). not (bytes_eq x.node.name.text e.node.name.text)) (first_definitions ds)) has) [
    | inl e ↦ subst (Contains (x ∷ ds)) (sym e) (Contains-here x ds)
    | inr later ↦ Contains-there d x ds (first_of ds d (Contains-filter_from (λ (e : Sited TypeDefinition). not (bytes_eq x.node.name.text e.node.name.text)) (first_definitions ds) d later).0)
  ]

  part_in_file : (d : Sited TypeDefinition) (es : List (Sited TypeExtension)) → is_some d.file ≡ true → ((e : Sited TypeExtension) → Contains es e → is_some e.file ≡ true)
      → (p : Sited TypeParts) → Contains (parts_in d es) p → is_some p.file ≡ true
  part_in_file d es first rest p has =
      elim (Contains-cases p (record { file = d.file; node = d.node.parts }) (map (λ (e : Sited TypeExtension). record { file = e.file; node = e.node.parts }) es) has) [
        | inl e ↦ ap (λ (x : Sited TypeParts). is_some x.file) e ∙ first
        | inr later ↦
            let e = Contains-map_from (λ (e : Sited TypeExtension). record { file = e.file; node = e.node.parts }) es p later in
            ap (λ (x : Sited TypeParts). is_some x.file) (sym e.2) ∙ rest e.0 e.1
      ]

  field_in_file : (ps : List (Sited TypeParts)) → ((p : Sited TypeParts) → Contains ps p → is_some p.file ≡ true) → (f : Sited InputValueDefinition)
      → Contains (flat_map (λ (p : Sited TypeParts). sited p.file (input_fields_of p.node)) ps) f → is_some f.file ≡ true
  field_in_file ps each f has =
      let p = Contains-flat_map_from (λ (p : Sited TypeParts). sited p.file (input_fields_of p.node)) ps f has in
      let n = Contains-map_from (λ (n : InputValueDefinition). record { file = p.0.file; node = n }) (input_fields_of p.0.node) f p.2 in
      ap (λ (g : Sited InputValueDefinition). is_some g.file) (sym n.2) ∙ each p.0 p.1

  -- of an input object
  pub in_file : (t : SchemaType) → Contains (schema_of files).types t → same_kind t.kind kind.InputObject ≡ true → (f : Sited InputValueDefinition) → Contains t.input_fields f → is_some f.file ≡ true
  in_file t has is f there =
      let defs = type_definitions (definitions files) in
      let extensions = type_extensions (definitions files) in
      let d = Contains-map_from (λ (d : Sited TypeDefinition). assembled d (extensions_of extensions d)) (first_definitions defs) t has in
      let kind_is : is_object d.0.node.parts ≡ true = ap (λ (u : SchemaType). same_kind u.kind kind.InputObject) d.2 ∙ is in
      field_in_file (parts_in d.0 (extensions_of extensions d.0))
      (part_in_file d.0 (extensions_of extensions d.0) (type_in_file d.0 (first_of defs d.0 d.1) kind_is)
      (λ e h. extension_in_file e (Contains-filter_from (extends d.0) extensions e h).0))
      f (subst (λ (u : SchemaType). Contains u.input_fields f) (sym d.2) there)
