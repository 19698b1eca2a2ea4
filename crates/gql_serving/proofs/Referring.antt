-- Where the definitions of a schema are, and what refers to a type there: what is not built in is a
-- node of a schema file.
use Rattle.std.proofs.Common.{◌≡◌, ◌⊎◌, inl, inr, ℕ, List, [], ◌∷◌, Bool, true, false, if◌then◌else◌, map, flat_map, is_some, Option, Contains, refl, ap, sym, subst, ◌∙◌}
use Rattle.std.specs.List.{AllByRecursion}
use Rattle.std.proofs.lemmas.List.Elements.{Contains-append_cases, Contains-append_left, Contains-append_right}
use Rattle.gql_ast.specs.declared.definition.Tree.{Tree}
use Rattle.gql_ast.specs.declared.definition.Tree.TheVariants as tree
use Rattle.gql_ast.specs.declared.files.Files.{Files}
use Rattle.gql_ast.specs.declared.text.Name.{Name}
use Rattle.gql_ast.specs.declared.type_ref.TypeRef.{TypeRef, roll-TypeRef}
use Rattle.gql_ast.specs.declared.type_ref.TypeRef.TheFolds.{ind-TypeRef, map-TypeRef}
use Rattle.gql_ast.specs.declared.type_ref.TypeRef.TheOpen.{TypeRef-F}
use Rattle.gql_ast.specs.declared.type_ref.TypeRef.TheVariants as t
use Rattle.gql_ast.specs.declared.type_system.DirectiveDefinition.{DirectiveDefinition}
use Rattle.gql_ast.specs.declared.type_system.FieldDefinition.{FieldDefinition}
use Rattle.gql_ast.specs.declared.type_system.InputValueDefinition.{InputValueDefinition}
use Rattle.gql_ast.specs.declared.type_system.SchemaDefinition.{SchemaDefinition}
use Rattle.gql_ast.specs.declared.type_system.SchemaExtension.{SchemaExtension}
use Rattle.gql_ast.specs.declared.type_system.TypeDefinition.{TypeDefinition}
use Rattle.gql_ast.specs.declared.type_system.TypeExtension.{TypeExtension}
use Rattle.gql_ast.specs.declared.type_system.TypeParts.{TypeParts}
use Rattle.gql_built_in.specs.BuiltIn.{built_in}
use Rattle.gql_built_in.specs.declared.sited.Sited.{Sited}
use Rattle.gql_cycles.proofs.Members.{Contains-nil, Contains-here, Contains-cases, Contains-map, Contains-map_from, Contains-flat_map, Contains-flat_map_from}
use Rattle.gql_faults.specs.TypeNames as of_ref
use Rattle.gql_intro.specs.References as intro
use Rattle.gql_intro.specs.SchemaNodes.{IsFieldOf, IsInputOf, of_field, of_directive, of_input_object}
use Rattle.gql_intro.proofs.Containing.{each_has}
use Rattle.gql_node_rules.specs.Nodes as nodes
use Rattle.gql_node_rules.specs.Nodes.{each, within}
use Rattle.gql_node_rules.specs.References.{inputs}
use Rattle.gql_schema_rules.specs.SchemaFaults.{nodes_in}
use Rattle.gql_types.specs.Definitions.{definitions, directive_definitions, directive_in, extension_in, names_a_type, of_files, schema_definitions, schema_extension_in, schema_extensions, schema_in, type_definitions, type_extensions, type_in}
use Rattle.gql_types.specs.Parts.{fields_of, input_fields_of, sited}
use Rattle.gql_types.specs.Schemas.{schema_of}
use Rattle.gql_types.specs.Types.{assembled, extends, extensions_of, first_definitions, parts_in}
use Rattle.gql_types.specs.Written.{written, written_list, written_named, written_non_null}
use Rattle.gql_types.specs.declared.schema_type.SchemaType.{SchemaType}
use Rattle.gql_serving.proofs.InFiles.{Contains-filter_from, of_a_file, first_of}
use Rattle.gql_serving.proofs.Known.{KnownField, KnownInput, KnownTree, built_in_known}

-- ---- the name within a type

abbrev SameName : TypeRef → Type 0
SameName x = (of_ref.name_in x).text ≡ intro.name_in (written x)

abbrev Named : Type 0
Named = (x : TypeRef) × SameName x

name_at : (y : TypeRef-F Named) → SameName (roll-TypeRef (map-TypeRef Named TypeRef (λ e. e.0) y))
name_at (TypeRef-F.Named n) = subst SameName (sym (t.rolls-Named n)) (ap (λ (m : Name). m.text) (of_ref.name_in_named n) ∙ ap intro.name_in (sym (written_named n)))
name_at (TypeRef-F.List p e) = subst SameName (sym (t.rolls-List p e.0)) (ap (λ (m : Name). m.text) (of_ref.name_in_list p e.0) ∙ e.1 ∙ ap intro.name_in (sym (written_list p e.0)))
name_at (TypeRef-F.NonNull e) = subst SameName (sym (t.rolls-NonNull e.0)) (ap (λ (m : Name). m.text) (of_ref.name_in_non_null e.0) ∙ e.1 ∙ ap intro.name_in (sym (written_non_null e.0)))

pub same_name : (x : TypeRef) → SameName x
same_name x = ind-TypeRef SameName (λ x y same. subst (λ z. SameName (roll-TypeRef z)) same (name_at y)) x

-- ---- definitions by their forms

type_is : (file : Option (List ℕ)) (node : Tree) (d : Sited TypeDefinition) → Contains (type_in file node) d → (d.file ≡ file) × (node ≡ tree.Type d.node)
type_is file (tree.Type definition) d has = by (names_a_type file definition.name.text) has where
  by : (b : Bool) → Contains (if b then record { file = file; node = definition } ∷ [] else []) d → (d.file ≡ file) × (tree.Type definition ≡ tree.Type d.node)
  by true h = elim (Contains-cases d (record { file = file; node = definition }) [] h) [
    | inl e ↦ (ap (λ (x : Sited TypeDefinition). x.file) e, sym (ap (λ (x : Sited TypeDefinition). tree.Type x.node) e))
    | inr none ↦ absurd (Contains-nil d none)
  ]
  by false h = absurd (Contains-nil d h)
type_is file (tree.Operation operation) d has = absurd (Contains-nil d has)
type_is file (tree.Fragment fragment) d has = absurd (Contains-nil d has)
type_is file (tree.Schema definition) d has = absurd (Contains-nil d has)
type_is file (tree.Directive definition) d has = absurd (Contains-nil d has)
type_is file (tree.SchemaExtension extension) d has = absurd (Contains-nil d has)
type_is file (tree.TypeExtension extension) d has = absurd (Contains-nil d has)

extension_is : (file : Option (List ℕ)) (node : Tree) (d : Sited TypeExtension) → Contains (extension_in file node) d → (d.file ≡ file) × (node ≡ tree.TypeExtension d.node)
extension_is file (tree.TypeExtension extension) d has = elim (Contains-cases d (record { file = file; node = extension }) [] has) [
  | inl e ↦ (ap (λ (x : Sited TypeExtension). x.file) e, sym (ap (λ (x : Sited TypeExtension). tree.TypeExtension x.node) e))
  | inr none ↦ absurd (Contains-nil d none)
]
extension_is file (tree.Operation operation) d has = absurd (Contains-nil d has)
extension_is file (tree.Fragment fragment) d has = absurd (Contains-nil d has)
extension_is file (tree.Schema definition) d has = absurd (Contains-nil d has)
extension_is file (tree.Type definition) d has = absurd (Contains-nil d has)
extension_is file (tree.Directive definition) d has = absurd (Contains-nil d has)
extension_is file (tree.SchemaExtension extension) d has = absurd (Contains-nil d has)

directive_is : (file : Option (List ℕ)) (node : Tree) (d : Sited DirectiveDefinition) → Contains (directive_in file node) d → (d.file ≡ file) × (node ≡ tree.Directive d.node)
directive_is file (tree.Directive definition) d has = elim (Contains-cases d (record { file = file; node = definition }) [] has) [
  | inl e ↦ (ap (λ (x : Sited DirectiveDefinition). x.file) e, sym (ap (λ (x : Sited DirectiveDefinition). tree.Directive x.node) e))
  | inr none ↦ absurd (Contains-nil d none)
]
directive_is file (tree.Operation operation) d has = absurd (Contains-nil d has)
directive_is file (tree.Fragment fragment) d has = absurd (Contains-nil d has)
directive_is file (tree.Schema definition) d has = absurd (Contains-nil d has)
directive_is file (tree.Type definition) d has = absurd (Contains-nil d has)
directive_is file (tree.TypeExtension extension) d has = absurd (Contains-nil d has)
directive_is file (tree.SchemaExtension extension) d has = absurd (Contains-nil d has)

schema_is : (file : Option (List ℕ)) (node : Tree) (d : Sited SchemaDefinition) → Contains (schema_in file node) d → (d.file ≡ file) × (node ≡ tree.Schema d.node)
schema_is file (tree.Schema definition) d has = elim (Contains-cases d (record { file = file; node = definition }) [] has) [
  | inl e ↦ (ap (λ (x : Sited SchemaDefinition). x.file) e, sym (ap (λ (x : Sited SchemaDefinition). tree.Schema x.node) e))
  | inr none ↦ absurd (Contains-nil d none)
]
schema_is file (tree.Operation operation) d has = absurd (Contains-nil d has)
schema_is file (tree.Fragment fragment) d has = absurd (Contains-nil d has)
schema_is file (tree.Directive definition) d has = absurd (Contains-nil d has)
schema_is file (tree.Type definition) d has = absurd (Contains-nil d has)
schema_is file (tree.TypeExtension extension) d has = absurd (Contains-nil d has)
schema_is file (tree.SchemaExtension extension) d has = absurd (Contains-nil d has)

schema_extension_is : (file : Option (List ℕ)) (node : Tree) (d : Sited SchemaExtension) → Contains (schema_extension_in file node) d → (d.file ≡ file) × (node ≡ tree.SchemaExtension d.node)
schema_extension_is file (tree.SchemaExtension extension) d has = elim (Contains-cases d (record { file = file; node = extension }) [] has) [
  | inl e ↦ (ap (λ (x : Sited SchemaExtension). x.file) e, sym (ap (λ (x : Sited SchemaExtension). tree.SchemaExtension x.node) e))
  | inr none ↦ absurd (Contains-nil d none)
]
schema_extension_is file (tree.Operation operation) d has = absurd (Contains-nil d has)
schema_extension_is file (tree.Fragment fragment) d has = absurd (Contains-nil d has)
schema_extension_is file (tree.Directive definition) d has = absurd (Contains-nil d has)
schema_extension_is file (tree.Type definition) d has = absurd (Contains-nil d has)
schema_extension_is file (tree.TypeExtension extension) d has = absurd (Contains-nil d has)
schema_extension_is file (tree.Schema definition) d has = absurd (Contains-nil d has)

-- a node of a definition is one of a list of definitions
held : {A : Type 0} (of : Tree → List A) (ds : List (Sited Tree)) (x : Sited Tree) (a : A) → Contains ds x → Contains (of x.node) a → Contains (within of ds) (record { file = x.file; node = a })
held of ds x a has there = Contains-flat_map (λ (n : Sited Tree). sited n.file (of n.node)) ds x (record { file = x.file; node = a }) has (Contains-map (λ n. record { file = x.file; node = n }) (of x.node) a there)

module _ {A B : Type 0} (part : A → List B) (ns : List (Sited A)) (n : Sited A) (has : Contains ns n) where
  pub held_in : (b : B) → Contains (part n.node) b → Contains (within part ns) (record { file = n.file; node = b })
  held_in b there = Contains-flat_map (λ (m : Sited A). sited m.file (part m.node)) ns n (record { file = n.file; node = b }) has (Contains-map (λ m. record { file = n.file; node = m }) (part n.node) b there)

-- an element of a part, with its file
part_of : {A B : Type 0} (part : A → List B) (ns : List (Sited A)) (b : Sited B) → Contains (flat_map (λ (m : Sited A). sited m.file (part m.node)) ns) b
    → (n : Sited A) × Contains ns n × Contains (part n.node) b.node × (b.file ≡ n.file)
part_of part ns b has =
    let n = Contains-flat_map_from (λ m. sited m.file (part m.node)) ns b has in
    let x = Contains-map_from (λ m. record { file = n.0.file; node = m }) (part n.0.node) b n.2 in
    (n.0, n.1, subst (Contains (part n.0.node)) (ap (λ c. c.node) x.2) x.1, sym (ap (λ c. c.file) x.2))

module _ (files : Files) where
  abbrev pub ds : List (Sited Tree)
  ds = of_files files.schema

  -- where a definition of the schema is: built in, or in a file
  abbrev Where : Sited Tree → Type 0
  Where x = KnownTree files x.node ⊎ (Contains ds x × (is_some x.file ≡ true))

  where_is : (x : Sited Tree) → Contains (definitions files) x → Where x
  where_is x has = elim (Contains-append_cases (built_in files.profile.floats) ds x has) [
    | inl there ↦ inl (each_has (λ (y : Sited Tree). KnownTree files y.node) (built_in files.profile.floats) x (built_in_known files files.profile.floats) there)
    | inr there ↦ inr (there, of_a_file files.schema x there)
  ]

  -- what a definition of a type is, in a file
  type_there : (d : Sited TypeDefinition) → Contains (type_definitions (definitions files)) d
      → KnownTree files (tree.Type d.node) ⊎ (Contains (nodes.types ds) d × (is_some d.file ≡ true))
  type_there d has =
      let x = Contains-flat_map_from (λ (x : Sited Tree). type_in x.file x.node) (definitions files) d has in
      let at = type_is x.0.file x.0.node d x.2 in
      elim (where_is x.0 x.1) [
        | inl known ↦ inl (subst (KnownTree files) at.1 known)
        | inr there ↦ inr (
          subst (λ (file : Option (List ℕ)). Contains (nodes.types ds) (record { file = file; node = d.node })) (sym at.0)
              (held nodes.type_of ds x.0 d.node there.0 (subst (λ (n : Tree). Contains (nodes.type_of n) d.node) (sym at.1) (Contains-here d.node []))),
          ap is_some at.0 ∙ there.1,
        )
      ]

  pub extension_there : (d : Sited TypeExtension) → Contains (type_extensions (definitions files)) d → Contains (nodes.type_extensions ds) d × (is_some d.file ≡ true)
  extension_there d has =
      let x = Contains-flat_map_from (λ (x : Sited Tree). extension_in x.file x.node) (definitions files) d has in
      let at = extension_is x.0.file x.0.node d x.2 in
      elim (where_is x.0 x.1) [
        | inl known ↦ absurd (subst (KnownTree files) at.1 known)
        | inr there ↦ (
          subst (λ (file : Option (List ℕ)). Contains (nodes.type_extensions ds) (record { file = file; node = d.node })) (sym at.0)
              (held nodes.type_extension_of ds x.0 d.node there.0 (subst (λ (n : Tree). Contains (nodes.type_extension_of n) d.node) (sym at.1) (Contains-here d.node []))),
          ap is_some at.0 ∙ there.1,
        )
      ]

  directive_there : (d : Sited DirectiveDefinition) → Contains (directive_definitions (definitions files)) d
      → KnownTree files (tree.Directive d.node) ⊎ (Contains (nodes.directives ds) d × (is_some d.file ≡ true))
  directive_there d has =
      let x = Contains-flat_map_from (λ (x : Sited Tree). directive_in x.file x.node) (definitions files) d has in
      let at = directive_is x.0.file x.0.node d x.2 in
      elim (where_is x.0 x.1) [
        | inl known ↦ inl (subst (KnownTree files) at.1 known)
        | inr there ↦ inr (
          subst (λ (file : Option (List ℕ)). Contains (nodes.directives ds) (record { file = file; node = d.node })) (sym at.0)
              (held nodes.directive_of ds x.0 d.node there.0 (subst (λ (n : Tree). Contains (nodes.directive_of n) d.node) (sym at.1) (Contains-here d.node []))),
          ap is_some at.0 ∙ there.1,
        )
      ]

  pub schema_there : (d : Sited SchemaDefinition) → Contains (schema_definitions (definitions files)) d → Contains (nodes.schemas ds) d × (is_some d.file ≡ true)
  schema_there d has =
      let x = Contains-flat_map_from (λ (x : Sited Tree). schema_in x.file x.node) (definitions files) d has in
      let at = schema_is x.0.file x.0.node d x.2 in
      elim (where_is x.0 x.1) [
        | inl known ↦ absurd (subst (KnownTree files) at.1 known)
        | inr there ↦ (
          subst (λ (file : Option (List ℕ)). Contains (nodes.schemas ds) (record { file = file; node = d.node })) (sym at.0)
              (held nodes.schema_of ds x.0 d.node there.0 (subst (λ (n : Tree). Contains (nodes.schema_of n) d.node) (sym at.1) (Contains-here d.node []))),
          ap is_some at.0 ∙ there.1,
        )
      ]

  pub schema_extension_there : (d : Sited SchemaExtension) → Contains (schema_extensions (definitions files)) d → Contains (nodes.schema_extensions ds) d × (is_some d.file ≡ true)
  schema_extension_there d has =
      let x = Contains-flat_map_from (λ (x : Sited Tree). schema_extension_in x.file x.node) (definitions files) d has in
      let at = schema_extension_is x.0.file x.0.node d x.2 in
      elim (where_is x.0 x.1) [
        | inl known ↦ absurd (subst (KnownTree files) at.1 known)
        | inr there ↦ (
          subst (λ (file : Option (List ℕ)). Contains (nodes.schema_extensions ds) (record { file = file; node = d.node })) (sym at.0)
              (held nodes.schema_extension_of ds x.0 d.node there.0 (subst (λ (n : Tree). Contains (nodes.schema_extension_of n) d.node) (sym at.1) (Contains-here d.node []))),
          ap is_some at.0 ∙ there.1,
        )
      ]

  -- ---- the parts of a type

  abbrev KnownParts : TypeParts → Type 0
  KnownParts p = AllByRecursion (KnownField files) (fields_of p) × AllByRecursion (KnownInput files) (input_fields_of p)

  abbrev PartThere : Sited TypeParts → Type 0
  PartThere p = KnownParts p.node ⊎ (Contains (nodes.parts ds) p × (is_some p.file ≡ true))

  abbrev all_types : List (Sited TypeDefinition)
  all_types = type_definitions (definitions files)

  abbrev all_extensions : List (Sited TypeExtension)
  all_extensions = type_extensions (definitions files)

  part_there : (u : SchemaType) → Contains (schema_of files).types u
      → (d : Sited TypeDefinition) × (u ≡ assembled d (extensions_of all_extensions d)) × ((p : Sited TypeParts) → Contains (parts_in d (extensions_of all_extensions d)) p → PartThere p)
  part_there u has =
      let d = Contains-map_from (λ (d : Sited TypeDefinition). assembled d (extensions_of all_extensions d)) (first_definitions all_types) u has in
      (d.0, sym d.2, λ p there. by d.0 (first_of files all_types d.0 d.1) p there) where
        by : (d : Sited TypeDefinition) → Contains all_types d → (p : Sited TypeParts) → Contains (parts_in d (extensions_of all_extensions d)) p → PartThere p
        by d of_all p there = elim (Contains-cases p (record { file = d.file; node = d.node.parts }) (map (λ (e : Sited TypeExtension). record { file = e.file; node = e.node.parts }) (extensions_of all_extensions d)) there) [
          | inl e ↦ subst PartThere (sym e) (elim (type_there d of_all) [
            | inl known ↦ inl known
            | inr at ↦ inr (
              Contains-append_left (each (λ (x : TypeDefinition). x.parts) (nodes.types ds)) (each (λ (x : TypeExtension). x.parts) (nodes.type_extensions ds)) (record { file = d.file; node = d.node.parts })
                  (Contains-map (λ (n : Sited TypeDefinition). record { file = n.file; node = n.node.parts }) (nodes.types ds) d at.0),
              at.1,
            )
          ])
          | inr later ↦
              let e = Contains-map_from (λ (e : Sited TypeExtension). record { file = e.file; node = e.node.parts }) (extensions_of all_extensions d) p later in
              let at = extension_there e.0 (Contains-filter_from (extends d) all_extensions e.0 e.1).0 in
              subst PartThere e.2 (inr (
                Contains-append_right (each (λ (x : TypeDefinition). x.parts) (nodes.types ds)) (each (λ (x : TypeExtension). x.parts) (nodes.type_extensions ds)) (record { file = e.0.file; node = e.0.node.parts })
                    (Contains-map (λ (n : Sited TypeExtension). record { file = n.file; node = n.node.parts }) (nodes.type_extensions ds) e.0 at.0),
                at.1,
              ))
        ]

  -- a field of the schema
  abbrev pub FieldThere : FieldDefinition → Type 0
  FieldThere f = KnownField files f ⊎ ((g : Sited FieldDefinition) × Contains (nodes.fields ds) g × (g.node ≡ f) × (is_some g.file ≡ true))

  pub field_there : (f : FieldDefinition) → IsFieldOf (schema_of files) f → FieldThere f
  field_there f (u, has, there) =
      let p = part_there u has in
      let g = Contains-map_from (λ (g : Sited FieldDefinition). g.node) u.fields f there in
      let part = part_of fields_of (parts_in p.0 (extensions_of all_extensions p.0)) g.0 (subst (λ (v : SchemaType). Contains v.fields g.0) p.1 g.1) in
      subst FieldThere g.2 (elim (p.2 part.0 part.1) [
        | inl known ↦ inl (each_has (KnownField files) (fields_of part.0.node) g.0.node known.0 part.2)
        | inr at ↦ inr (record { file = part.0.file; node = g.0.node }, held_in fields_of (nodes.parts ds) part.0 at.0 g.0.node part.2, refl, at.1)
      ])

  -- an argument or an input field
  abbrev pub InputThere : InputValueDefinition → Type 0
  InputThere d = KnownInput files d ⊎ ((n : Sited Name) × Contains (inputs (nodes_in files)) n × (n.node ≡ of_ref.name_in d.of_type) × (is_some n.file ≡ true))

  abbrev name_of_input : Sited InputValueDefinition → Sited Name
  name_of_input n = record { file = n.file; node = of_ref.name_in n.node.of_type }

  as_argument : (n : Sited InputValueDefinition) → Contains (nodes.arguments ds) n → is_some n.file ≡ true → InputThere n.node
  as_argument n has placed = inr (
    name_of_input n,
    Contains-append_left (each (λ (a : InputValueDefinition). of_ref.name_in a.of_type) (nodes.arguments ds)) (each (λ (f : InputValueDefinition). of_ref.name_in f.of_type) (nodes.input_fields ds)) (name_of_input n)
        (Contains-map name_of_input (nodes.arguments ds) n has),
    refl,
    placed,
  )

  pub input_there : (d : InputValueDefinition) → IsInputOf (schema_of files) d → InputThere d
  input_there d (of_field f field there) = elim (field_there f field) [
    | inl known ↦ inl (each_has (KnownInput files) f.arguments d known.1 there)
    | inr g ↦ as_argument (record { file = g.0.file; node = d }) (Contains-append_left (within (λ (f : FieldDefinition). f.arguments) (nodes.fields ds)) (within (λ (d : DirectiveDefinition). d.arguments) (nodes.directives ds)) (record { file = g.0.file; node = d })
        (held_in (λ (f : FieldDefinition). f.arguments) (nodes.fields ds) g.0 g.1 d (subst (λ (h : FieldDefinition). Contains h.arguments d) (sym g.2) there))) g.3
  ]
  input_there d (of_directive x has there) =
      let y = Contains-map_from (λ (y : Sited DirectiveDefinition). y.node) (schema_of files).directives x has in
      let at_y = subst (λ (z : DirectiveDefinition). Contains z.arguments d) (sym y.2) there in
      elim (directive_there y.0 y.1) [
        | inl known ↦ inl (each_has (KnownInput files) y.0.node.arguments d known at_y)
        | inr at ↦ as_argument (record { file = y.0.file; node = d }) (Contains-append_right (within (λ (f : FieldDefinition). f.arguments) (nodes.fields ds)) (within (λ (d : DirectiveDefinition). d.arguments) (nodes.directives ds)) (record { file = y.0.file; node = d })
            (held_in (λ (d : DirectiveDefinition). d.arguments) (nodes.directives ds) y.0 at.0 d at_y)) at.1
      ]
  input_there d (of_input_object u has there) =
      let p = part_there u has in
      let g = Contains-map_from (λ (g : Sited InputValueDefinition). g.node) u.input_fields d there in
      let part = part_of input_fields_of (parts_in p.0 (extensions_of all_extensions p.0)) g.0 (subst (λ (v : SchemaType). Contains v.input_fields g.0) p.1 g.1) in
      subst InputThere g.2 (elim (p.2 part.0 part.1) [
        | inl known ↦ inl (each_has (KnownInput files) (input_fields_of part.0.node) g.0.node known.1 part.2)
        | inr at ↦
            let n : Sited InputValueDefinition = record { file = part.0.file; node = g.0.node } in
            inr (
              name_of_input n,
              Contains-append_right (each (λ (a : InputValueDefinition). of_ref.name_in a.of_type) (nodes.arguments ds)) (each (λ (f : InputValueDefinition). of_ref.name_in f.of_type) (nodes.input_fields ds)) (name_of_input n)
                  (Contains-map name_of_input (nodes.input_fields ds) n (held_in input_fields_of (nodes.parts ds) part.0 at.0 g.0.node part.2)),
              refl,
              at.1,
            )
      ])
