-- Which types of a schema are those of the schema before an edit of a schema file.
use Rattle.std.specs.Prelude.{◌≡◌, ℕ, List, ◌||◌, false, Option, None, Some, bytes_eq, find, if◌then◌else◌, is_some, slice_get}
use Rattle.std.specs.List.{AllZip, position_from}
use Rattle.gql_types.specs.Kinds.{is_abstract}
use Rattle.gql_types.specs.Possible.{name_of}
use Rattle.gql_types.specs.Schemas.{possible_named}
use Rattle.gql_types.specs.declared.schema.Schema.{Schema}
use Rattle.gql_types.specs.declared.schema_type.SchemaType.{SchemaType}

-- Where a type stood before an edit that changed types of these names alone, if that is known to be
-- the same type, with the same possible types: the edit does not change types of its name, and it is
-- neither an interface nor a union, whose possible types change with other types.
abbrev pub known_place : List (List ℕ) → List SchemaType → SchemaType → Option ℕ
known_place edited before t =
    if is_some (find (bytes_eq (name_of t)) edited) || is_abstract t.kind then None
    else position_from (λ (u : SchemaType). bytes_eq (name_of t) (name_of u)) 0 before

-- If a place is given, the type stood there before the edit, and it is neither an interface nor a
-- union.
abbrev pub IsConcreteAt : List SchemaType → Option ℕ → SchemaType → Type 0
IsConcreteAt before None t = Unit {0}
IsConcreteAt before (Some place) t =
    (slice_get before place ≡ Some t) × (is_abstract t.kind ≡ false)

-- If a place is given, the type stood there before the edit, and it has the same possible types.
abbrev pub IsKeptAt : Schema → Schema → Option ℕ → SchemaType → Type 0
IsKeptAt before after None t = Unit {0}
IsKeptAt before after (Some place) t = (slice_get before.types place ≡ Some t)
    × (possible_named after (name_of t) ≡ possible_named before (name_of t))

-- Each type after the edit for which a place is given stood there before it, and has the same
-- possible types.
abbrev pub AreKeptAt : Schema → Schema → List (Option ℕ) → Type 0
AreKeptAt before after places = AllZip (IsKeptAt before after) places after.types
