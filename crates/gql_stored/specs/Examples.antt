-- Worked examples of the definitions.
use Rattle.std.specs.Prelude.{◌≡◌, ◌∷◌, [], ℕ, List, codes, refl, Some, None}
use Rattle.serde_json.specs.Data as json
use Rattle.serde_json.specs.Data.{Data, Items, no_items, item, no_members, member}
use Rattle.gql_stored.specs.Effects.{Effect, list_named, appended, after}

-- data whose member `query` has a list of this name
abbrev with_list : List ℕ → Items → Data
with_list name ds = json.object
    (member (codes "query")
    (json.object (member name (json.array ds) no_members)) no_members)

-- a text that is added to a list of this name
abbrev text_to : List ℕ → List ℕ → Effect
text_to name text = record { to = name; value = json.string text }

-- to an empty list
empty_list : appended (text_to (codes "notes") (codes "new")) (with_list (codes "notes") no_items)
    ≡ with_list (codes "notes") (item (json.string (codes "new")) no_items)
empty_list = refl

-- to a list that has an item: the new one comes last
one_item : appended (text_to (codes "notes") (codes "new"))
    (with_list (codes "notes") (item json.null no_items))
    ≡ with_list (codes "notes") (item json.null (item (json.string (codes "new")) no_items))
one_item = refl

-- to a list that the data do not have
other_name : appended (text_to (codes "users") (codes "new")) (with_list (codes "notes") no_items)
    ≡ with_list (codes "notes") no_items
other_name = refl

-- to a name at which there is an object
at_object : appended (text_to (codes "notes") (codes "new"))
    (json.object (member (codes "query")
    (json.object (member (codes "notes") (json.object no_members) no_members)) no_members))
    ≡ json.object (member (codes "query")
    (json.object (member (codes "notes") (json.object no_members) no_members)) no_members)
at_object = refl

-- two effects: the first comes first
two_effects : after (text_to (codes "notes") (codes "a") ∷ text_to (codes "notes") (codes "b") ∷ [])
    (with_list (codes "notes") no_items)
    ≡ with_list (codes "notes")
    (item (json.string (codes "a")) (item (json.string (codes "b")) no_items))
two_effects = refl

-- data without `query`
no_query : appended (text_to (codes "notes") (codes "new"))
    (json.object (member (codes "notes") (json.array no_items) no_members))
    ≡ json.object (member (codes "notes") (json.array no_items) no_members)
no_query = refl

-- data that are not an object
no_object : appended (text_to (codes "notes") (codes "new")) json.null ≡ json.null
no_object = refl

-- the list of a name
named : list_named (codes "notes") (with_list (codes "notes") (item json.null no_items))
    ≡ Some (item json.null no_items)
named = refl

-- no list of a name
not_named : list_named (codes "users") (with_list (codes "notes") no_items) ≡ None
not_named = refl
