-- What may differ between the schemas before and after an edit, of what the rules on nodes ask.
use Rattle.std.specs.Prelude.{◌≡◌, ℕ, List, Bool, true, false, not, Option, Some, None, bytes_eq, find, is_some, option_map}
use Rattle.gql_ast.specs.declared.text.Name.{Name}
use Rattle.gql_built_in.specs.declared.sited.Sited.{Sited}
use Rattle.gql_inputs.specs.InputTypes.{is_open}
use Rattle.gql_inputs.specs.Lookups.{in_schema}
use Rattle.gql_types.specs.Kinds.{same_kind}
use Rattle.gql_types.specs.Parts.{kind_of}
use Rattle.gql_types.specs.Schemas.{kind_named}
use Rattle.gql_types.specs.declared.kind.TypeKind.{TypeKind}
use Rattle.gql_types.specs.declared.schema.Schema.{Schema}
use Rattle.gql_types.specs.declared.schema_type.SchemaType.{SchemaType}
use Rattle.gql_node_rules.specs.S36MisplacedAppends.{mutation_root, name_of}
use Rattle.gql_node_rules.specs.declared.schema_change.SchemaChange.{SchemaChange}

-- whether a name is among these
abbrev pub is_among : List (List ℕ) → List ℕ → Bool
is_among names name = is_some (find (bytes_eq name) names)

-- what S36 asks of the mutation root type: the name of its first definition, at its place, and its
-- kind
pub record RootDefinition : Type 0 where
  pub name : Sited Name
  pub kind : TypeKind

-- the definition of a type, as S36 asks for it
abbrev pub root_definition : SchemaType → RootDefinition
root_definition t =
    record { name = name_of t.definition; kind = kind_of t.definition.node.parts }

-- the definition of the mutation root type, if there is one and it is an object
abbrev pub mutation_definition : Schema → Option RootDefinition
mutation_definition s = option_map root_definition (mutation_root s)

-- whether the kinds of two types are the same, or neither type is known
abbrev pub same_known : Option TypeKind → Option TypeKind → Bool
same_known None None = true
same_known None (Some other) = false
same_known (Some kind) None = false
same_known (Some kind) (Some other) = same_kind kind other

-- whether a name has another kind in the second schema
abbrev pub has_other_kind : Schema → Schema → List ℕ → Bool
has_other_kind s t name = not (same_known (kind_named s name) (kind_named t name))

-- a name among these that is not the same as an input type in both schemas is among the found ones,
-- where Float is a type in both or in neither
abbrev pub NamesInputs : Schema → Schema → List (List ℕ) → List (List ℕ) → Type 0
NamesInputs s t names found = (q : List ℕ) → is_among names q ≡ true → is_among found q ≡ false
    → is_open s ≡ is_open t → in_schema s q ≡ in_schema t q

-- two schemas differ in nothing else, of what the rules on nodes ask
pub record IsChange (c : SchemaChange) (s t : Schema) : Type 0 where
  -- each other name has the same kind in both
  pub kinds : (name : List ℕ) → is_among c.kinds name ≡ false
      → kind_named s name ≡ kind_named t name
  -- each other name is the same as an input type in both, unless Float is a type in one of them alone
  pub inputs : c.floats ≡ false → (name : List ℕ) → is_among c.inputs name ≡ false
      → in_schema s name ≡ in_schema t name
  -- the directives are the same, unless they are named as changed
  pub directives : c.directives ≡ false → s.directives ≡ t.directives
  -- so is the definition of the mutation root type
  pub mutation_root : c.mutation_root ≡ false → mutation_definition s ≡ mutation_definition t
