-- The objects that answers may hold since an operation asks for an interface or a union of them: no
-- operation need name them.
use Rattle.std.specs.Prelude.{ℕ, List, [], Bool, true, false, not, ◌&&◌, ◌||◌, ◌==◌, flat_map, length, bytes_eq, if◌then◌else◌}
use Rattle.std.specs.List.{list_any}
use Rattle.std.specs.Option.{option_map_or}
use Rattle.gql_facts.specs.declared.key.Key.{Key}
use Rattle.gql_facts.specs.declared.key.Key.TheVariants as key
use Rattle.gql_types.specs.Schemas.{possible_named}
use Rattle.gql_types.specs.declared.kind.TypeKind.{TypeKind}
use Rattle.gql_types.specs.declared.kind.TypeKind.TheVariants as kind
use Rattle.gql_types.specs.declared.schema.Schema.{Schema}
use Rattle.gql_types.specs.declared.schema_type.SchemaType.{SchemaType}
use Rattle.gql_verdict.specs.Shelves.{readers_of}
use Rattle.gql_verdict.specs.Verdicts.{Judgement}

-- whether no verdict observes the answer to a key
abbrev pub is_unasked : List Judgement → Key → Bool
is_unasked shelf k = length (readers_of k shelf) == 0

-- whether a value of a type of this kind is an object of another type
abbrev pub is_abstract : TypeKind → Bool
is_abstract kind.Interface = true
is_abstract kind.Union = true
is_abstract kind.Scalar = false
is_abstract kind.Object = false
is_abstract kind.Enum = false
is_abstract kind.InputObject = false

-- whether this is an interface or a union that a verdict asks for
abbrev pub is_abstract_asked : List Judgement → SchemaType → Bool
is_abstract_asked shelf t =
    is_abstract t.kind && not (is_unasked shelf (key.KindOf t.definition.node.name.text))

-- the objects that an answer may hold as values of this type: none, unless it is an interface or a
-- union that a verdict asks for
abbrev pub answered_by : Schema → List Judgement → SchemaType → List (List ℕ)
answered_by s shelf t = if is_abstract_asked shelf t
    then option_map_or (λ (names : List (List ℕ)). names)
    (possible_named s t.definition.node.name.text) []
    else []

-- the objects that an answer may hold since an interface or a union of them is asked for
abbrev pub answered : Schema → List Judgement → List (List ℕ)
answered s shelf = flat_map (answered_by s shelf) s.types

-- whether operations may get or send values of the type of this name, and need not name it: an answer
-- may hold objects of it, or what a verdict asks for leads to it
abbrev pub is_answered : Schema → List Judgement → List ℕ → Bool
is_answered s shelf name =
    list_any (bytes_eq name) (answered s shelf) || not (is_unasked shelf (key.KindOf name))
