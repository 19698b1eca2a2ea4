-- Helper definitions for private contracts: the types of definitions, by the extensions of each name,
-- and the schema before an edit.
use Rattle.std.specs.Prelude.{◌≡◌, ℕ, List, [], IsTrue, bytes_eq, filter, map}
use Rattle.std.specs.HashMap as hash
use Rattle.std.specs.List.{AllZip}
use Rattle.std.specs.Option.{option_map_or}
use Rattle.gql_ast.specs.declared.type_system.TypeDefinition.{TypeDefinition}
use Rattle.gql_ast.specs.declared.type_system.TypeExtension.{TypeExtension}
use Rattle.gql_built_in.specs.declared.sited.Sited.{Sited}
use Rattle.gql_types.specs.Edits.{KeepsTypes}
use Rattle.gql_types.specs.Kinds.{same_kind}
use Rattle.gql_types.specs.KeptTypes.{IsConcreteAt, known_place}
use Rattle.gql_types.specs.Names.{AreOnce, are_among}
use Rattle.gql_types.specs.Parts.{kind_of}
use Rattle.gql_types.specs.Possible.{name_of}
use Rattle.gql_types.specs.Prints.{print_of}
use Rattle.gql_types.specs.Roles.{role_of}
use Rattle.gql_types.specs.Types.{assembled, types_of}
use Rattle.gql_types.specs.declared.edited_types.EditedTypes.{EditedTypes}
use Rattle.gql_types.specs.declared.edited_types.TypeEdit.{TypeEdit}
use Rattle.gql_types.specs.declared.schema_type.SchemaType.{SchemaType}
use Rattle.gql_types.specs.declared.type_list.TypeList.{TypeList}

-- the type of a definition, by the extensions of each name
abbrev pub type_by : (List ℕ → List (Sited TypeExtension)) → Sited TypeDefinition → SchemaType
type_by at d = assembled d (filter
    (λ (e : Sited TypeExtension). same_kind (kind_of d.node.parts) (kind_of e.node.parts))
    (at d.node.name.text))

-- the first definition of a type
abbrev pub definition_of : SchemaType → Sited TypeDefinition
definition_of t = t.definition

-- the name of the type that a definition defines
abbrev pub defined_name : Sited TypeDefinition → List ℕ
defined_name d = d.node.name.text

-- it is told of each type before the edit whether its name is among the edited ones
abbrev pub AreEdited : TypeEdit → Type 0
AreEdited edit =
    edit.are_edited.items ≡ are_among edit.edited.now (map name_of edit.schema.now.types)

-- the extensions of a name after the edit
abbrev pub extensions_at : TypeEdit → List ℕ → List (Sited TypeExtension)
extensions_at edit q =
    option_map_or (λ group. map (λ x. x.now) group.items) (hash.get_by_text edit.extensions q) []

-- the extensions of each name are those among these
abbrev pub AreExtensions : TypeEdit → List (Sited TypeExtension) → Type 0
AreExtensions edit extensions = (q : List ℕ) → extensions_at edit q
    ≡ filter (λ (e : Sited TypeExtension). bytes_eq q e.node.name.text) extensions

-- The types of these definitions after the edit, if it changes no types but those of edited names;
-- with their names, the prints of these, the roles, and where types stood that are kept.
pub record AreMade (edit : TypeEdit) (sites : List (Sited TypeDefinition)) (list : TypeList) : Type 0
  where
    pub types : KeepsTypes edit.edited.now edit.schema.now (map (type_by (extensions_at edit)) sites)
        → list.types ≡ map (type_by (extensions_at edit)) sites
    pub names : map name_of list.types ≡ map defined_name sites
    pub prints : list.prints.items ≡ map print_of (map defined_name sites)
    pub roles : list.roles.items ≡ map role_of list.types
    pub places : AllZip (IsConcreteAt edit.schema.now.types) list.places.items list.types
    pub exact : list.places.items
        ≡ map (known_place edit.edited.now edit.schema.now.types) list.types

-- The types of these definitions after the edit, each taken for the first of its name, if it changes
-- no types but those of edited names; with where types stood that are kept. And where it is said that
-- each type is defined once, it is.
pub record AreTypesAfter (edit : TypeEdit) (sites : List (Sited TypeDefinition))
    (after : EditedTypes) : Type 0 where
  pub types : (extensions : List (Sited TypeExtension)) → AreExtensions edit extensions
      → KeepsTypes edit.edited.now edit.schema.now (types_of sites extensions)
      → after.types ≡ types_of sites extensions
  pub places : AllZip (IsConcreteAt edit.schema.now.types) after.places.items after.types
  pub exact : after.places.items
      ≡ map (known_place edit.edited.now edit.schema.now.types) after.types
  pub once : IsTrue after.are_once → AreOnce (map defined_name sites)
