-- The operations of a manifest, as its JSON lists them: a list `operations` of objects, or an object
-- of texts by their ids.
use Rattle.std.specs.Prelude.{ℕ, ◌≡◌, List, [], ◌∷◌, Option, Some, None, Vec, codes, map, option_and_then, option_map}
use Rattle.std.specs.Str.{IsUtf8}
use Rattle.std.specs.declared.alloc.Global.{Global}
use Rattle.serde_json.specs.Data.{Data, Items, no_items, item, Members, no_members, member}
use Rattle.serde_json.specs.Find.{as_array, as_object, as_str, get}
use Rattle.serde_json.specs.Read.{read}
use Rattle.gql_manifest.specs.declared.entries.Entry.{Entry}

-- an operation that a manifest lists: its id, and its text
pub record Listing : Type 0 where
  pub id : List ℕ
  pub body : List ℕ

-- what the code has of it
abbrev pub listing_of : Entry → Listing
listing_of entry = record { id = entry.id.now; body = entry.body.now }

-- what the code has of all, if it has them
abbrev pub listings_found : Option (Vec Entry Global) → Option (List Listing)
listings_found = option_map (λ (found : Vec Entry Global). map listing_of found.items)

-- the listing with this id and text, if both are there
abbrev pub listing_from : Option (List ℕ) → Option (List ℕ) → Option Listing
listing_from None body = None
listing_from (Some id) None = None
listing_from (Some id) (Some body) = Some (record { id = id; body = body })

-- the text under a key
abbrev pub text_at : List ℕ → Data → Option (List ℕ)
text_at key value = option_and_then as_str (get key value)

-- the first text, or if there is none the second
abbrev pub or_other : Option (List ℕ) → Option (List ℕ) → Option (List ℕ)
or_other None other = other
or_other (Some text) other = Some text

-- the listing of an object: its text is under `body`, and its id under `id`, or else under `name`
abbrev pub listing_in : Data → Option Listing
listing_in value =
    listing_from (or_other (text_at (codes "id") value) (text_at (codes "name") value))
    (text_at (codes "body") value)

-- a listing before others, if all are there
abbrev pub before : Option Listing → Option (List Listing) → Option (List Listing)
before None others = None
before (Some first) others = option_map (λ (rest : List Listing). first ∷ rest) others

-- the listings of a list of objects, if each has one
abbrev pub listings_in : Items → Option (List Listing)
listings_in no_items = Some []
listings_in (item value rest) = before (listing_in value) (listings_in rest)

-- the listings of texts by their ids, if each is a text
abbrev pub texts_by_id : Members → Option (List Listing)
texts_by_id no_members = Some []
texts_by_id (member id value rest) = before (listing_from (Some id) (as_str value)) (texts_by_id rest)

-- the list under a key
abbrev pub list_at : List ℕ → Data → Option Items
list_at key value = option_and_then as_array (get key value)

-- the listings of this list, or if there is none those of these texts by their ids
abbrev pub listings_from : Option Items → Members → Option (List Listing)
listings_from None texts = texts_by_id texts
listings_from (Some items) texts = listings_in items

-- the listings of a manifest, an object: of its list `operations`, or if it has none its texts by
-- their ids
abbrev pub listings_of : Data → Option (List Listing)
listings_of value =
    option_and_then (listings_from (list_at (codes "operations") value)) (as_object value)

-- the bytes are the JSON of this value
abbrev pub IsJson : List ℕ → Data → Type 0
IsJson bytes value = IsUtf8 bytes × (read bytes ≡ Some value)

-- the bytes are no JSON, or not UTF-8
abbrev pub IsNoJson : List ℕ → Type 0
IsNoJson bytes = (value : Data) → IsJson bytes value → ⊥
