-- The plan of selections (GraphQL 4.1, 4.2, 6.3.2, 6.4 and 6.4.1): for each type that an object may
-- have, their groups, each with the arguments and the type of its first field.
use Rattle.std.specs.Prelude.{◌≡◌, ◌||◌, ℕ, List, [], ◌∷◌, ◌++◌, Bool, true, false, bytes_eq, codes, map, filter, is_some, option_and_then, Option, Some, None, if◌then◌else◌}
use Rattle.std.specs.List.{list_any}
use Rattle.std.specs.Option.{option_map_or}
use Rattle.gql_ast.specs.declared.type_system.EnumValueDefinition.{EnumValueDefinition}
use Rattle.gql_ast.specs.declared.type_system.FieldDefinition.{FieldDefinition}
use Rattle.gql_built_in.specs.declared.sited.Sited.{Sited}
use Rattle.gql_coerce.specs.Comes.{Outcome}
use Rattle.gql_coerce.specs.Comes as comes
use Rattle.gql_coerce.specs.Paths.{path_text}
use Rattle.gql_coerce.specs.Refusals.{text}
use Rattle.gql_coerce.specs.Requests.{ArgumentsCome}
use Rattle.gql_coerce.specs.declared.refusal.Reason.{Reason}
use Rattle.gql_coerce.specs.declared.refusal.Segment.{Segment}
use Rattle.gql_collect.specs.Collection.{Collects, selections_below}
use Rattle.gql_collect.specs.Groups.{Group, response_name}
use Rattle.gql_collect.specs.Nodes.{FileSelection, FieldNode}
use Rattle.gql_collect.specs.Unfolding.{Given}
use Rattle.gql_inputs.specs.InputTypes.{name_in}
use Rattle.gql_intro.specs.Introspection as intro
use Rattle.gql_intro.specs.MetaFields.{meta_field}
use Rattle.gql_intro.specs.Nodes as intro_nodes
use Rattle.gql_intro.specs.declared.made.IntroSchema.{IntroSchema}
use Rattle.gql_types.specs.Schemas.{enum_named, field_named, kind_named, possible_named}
use Rattle.gql_types.specs.Written.{written}
use Rattle.gql_types.specs.declared.kind.TypeKind.{TypeKind}
use Rattle.gql_types.specs.declared.kind.TypeKind.TheVariants as kind
use Rattle.gql_types.specs.declared.schema.Schema.{Schema}
use Rattle.serde_json.specs.Data.{Data}
use Rattle.serde_json.specs.Find.{as_bool, as_str, get}
use Rattle.gql_steps.specs.Execution.{Arguments, given, refused, PlannedField, Plan, plan, Fields, no_fields, field, Types}
use Rattle.gql_steps.specs.declared.planning.Source.{Source}
use Rattle.gql_steps.specs.declared.planning.Source.TheVariants as source

-- what fields are executed with: what selections are collected with, and what introspection makes
-- once of the schema
pub record Basis : Type 0 where
  pub given : Given
  pub made : IntroSchema

-- ---- types

-- the possible types of a type
abbrev pub possible_in : Schema → List ℕ → List (List ℕ)
possible_in s n = option_map_or (λ (names : List (List ℕ)). names) (possible_named s n) []

-- the names of the values of an enum
abbrev pub values_in : Schema → List ℕ → List (List ℕ)
values_in s n = option_map_or (map (λ (v : Sited EnumValueDefinition). v.node.name.text))
    (enum_named s n) []

-- the arguments that fields of introspection take
abbrev pub intro_arguments : Data → intro.Given
intro_arguments arguments = record {
  name = option_and_then as_str (get (codes "name") arguments);
  include_deprecated = option_and_then as_bool (get (codes "includeDeprecated") arguments);
}

-- what a field of a node resolves to, with these arguments; `None` if the node has no such field
abbrev pub introspect_in : Basis → intro_nodes.Node → List ℕ → Data → Option intro_nodes.Answer
introspect_in g n name arguments =
    intro.resolve g.given.schema g.made (intro_arguments arguments) n name

-- what execution needs to know of a schema
abbrev pub types_of : Basis → Types
types_of g = record {
  kind = kind_named g.given.schema;
  possible = possible_in g.given.schema;
  values = values_in g.given.schema;
  introspect = introspect_in g;
}

-- whether t is a possible type of the abstract type of this name and kind
abbrev pub is_possible_by : Types → List ℕ → List ℕ → Option TypeKind → Bool
is_possible_by types t name (Some kind.Interface) = list_any (bytes_eq t) (types.possible name)
is_possible_by types t name (Some kind.Union) = list_any (bytes_eq t) (types.possible name)
is_possible_by types t name _ = false

-- whether an object of the type t may occur where the type of this name and kind is expected: t is
-- that type, or one of its possible types
abbrev pub is_met_by : Types → List ℕ → List ℕ → Option TypeKind → Bool
is_met_by types t name k = bytes_eq t name || is_possible_by types t name k

-- whether an object of the type t may occur where the type of this name is expected
abbrev pub is_met : Basis → List ℕ → List ℕ → Bool
is_met g t name = is_met_by (types_of g) t name (kind_named g.given.schema name)

-- ---- arguments

-- the message of a refusal, after the text for what was refused
abbrev pub refusal_text : List ℕ → Reason → List Segment → List ℕ
refusal_text what why path = what ++ (path_text path ++ (codes ": " ++ text why))

-- what a field is called with
abbrev pub arguments_of : Outcome Data → Arguments
arguments_of (comes.value d) = given d
arguments_of (comes.refused why path) = refused (refusal_text (codes "argument ") why path)

-- ---- fields

-- the definition of a field of a type, and where objects of the type have its value
pub record FieldOf : Type 0 where
  pub definition : FieldDefinition
  pub source : Source

-- Where objects of the type t have the value of a field that no type lists: every type has
-- `__typename`, and the query root has `__schema` and `__type`.
abbrev pub meta_source : Schema → List ℕ → List ℕ → Option Source
meta_source s t name =
    if bytes_eq name (codes "__typename") then Some (source.TypeName t)
    else if option_map_or (bytes_eq t) (intro.root_name s) false then Some source.Root
    else None

-- the field of this definition, if there is one and objects have its value
abbrev pub with_source : Option Source → Option FieldDefinition → Option FieldOf
with_source (Some place) (Some d) = Some (record { definition = d; source = place })
with_source _ _ = None

-- the field of this name that no type lists, if the type t has it
abbrev pub meta_field_of : Basis → List ℕ → List ℕ → Option FieldOf
meta_field_of g t name =
    with_source (meta_source g.given.schema t name) (meta_field g.made.meta name)

-- the field that the type lists, or else the other one
abbrev pub listed_or : Option (Sited FieldDefinition) → Option FieldOf → Option FieldOf
listed_or (Some d) other = Some (record { definition = d.node; source = source.Stored })
listed_or None other = other

-- the field of this name of the type t
abbrev pub field_of : Basis → List ℕ → List ℕ → Option FieldOf
field_of g t name = listed_or (field_named g.given.schema t name) (meta_field_of g t name)

-- the field of a group with the first node n, if that is the field f and its arguments come to this
abbrev pub planned : Group → FieldNode → FieldOf → Outcome Data → PlannedField
planned group n f arguments = record {
  response_name = group.key;
  place = (response_name n.field).place;
  name = n.field.name.text;
  source = f.source;
  arguments = arguments_of arguments;
  of_type = written f.definition.of_type;
}

-- f is the field of a group, for objects of the type t
pub record IsPlanned (g : Basis) (t : List ℕ) (group : Group) (f : PlannedField) : Type 0 where
  pub first : FieldNode
  pub others : List FieldNode
  pub nodes : group.nodes ≡ first ∷ others
  pub field : FieldOf
  -- the groups whose field the type has; others are left out (6.3)
  pub defined : field_of g t first.field.name.text ≡ Some field
  pub arguments : Outcome Data
  pub comes : ArgumentsCome g.given.schema field.definition.arguments first.field.arguments
      g.given.values arguments
  pub is : f ≡ planned group first field arguments

-- the field of a group, by its first node
abbrev pub field_of_nodes : Basis → List ℕ → List FieldNode → Option FieldOf
field_of_nodes g t [] = None
field_of_nodes g t (first ∷ others) = field_of g t first.field.name.text

-- the groups of fields that objects of the type have; others are left out (6.3)
abbrev pub defined : Basis → List ℕ → List Group → List Group
defined g t groups = filter (λ (group : Group). is_some (field_of_nodes g t group.nodes)) groups

-- the plan of selections, and the fields of groups
abbrev mutual
  -- x is the plan of selections on what a field of the type of this name gives
  pub IsPlan : Basis → List ℕ → List FileSelection → Plan → Type 0
  IsPlan g name xs (plan by_type) = (t : List ℕ) → is_met g t name ≡ true
      → (groups : List Group) × Collects g.given t xs groups
      × ArePlanned g t (defined g t groups) (by_type t)

  -- the fields of the groups, one by one, each with the plan of what it selects
  pub ArePlanned : Basis → List ℕ → List Group → Fields → Type 0
  ArePlanned g t [] no_fields = Unit {0}
  ArePlanned g t (group ∷ groups) (field f below rest) = IsPlanned g t group f
      × IsPlan g (name_in f.of_type) (selections_below group.nodes) below
      × ArePlanned g t groups rest
  ArePlanned g t _ _ = ⊥
