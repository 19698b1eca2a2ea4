-- The listings of a manifest, one after the other.
use Rattle.std.proofs.Common.{◌≡◌, ◌∙◌, [], ◌∷◌, ◌++◌, ◌+◌, ◌<◌, ℕ, List, Option, Some, None, String, codes, string_bytes, append_assoc, drop, get_or, length, map, option_map, option_and_then, refl, sym, ap}
use Rattle.std.proofs.lemmas.List.{drop_more, map-append}
use Rattle.std.specs.declared.alloc.Global.{Global}
use Rattle.serde_json.specs.Data.{Data}
use Rattle.serde_json.specs.Find.{as_object, as_str}
use Rattle.serde_json.specs.View.{items_view, members_view, view}
use Rattle.serde_json.specs.declared.value.Value.{Value}
use Rattle.gql_manifest.specs.Entries.{Listing, before, listing_from, listing_in, listing_of, listings_from, listings_in, listings_of, list_at, texts_by_id}
use Rattle.gql_manifest.specs.declared.entries.Entry.{Entry}

-- these listings before others, if those are there
abbrev pub after : List Listing → Option (List Listing) → Option (List Listing)
after done others = option_map (λ (rest : List Listing). done ++ rest) others

-- one more listing that is there
pub after_more : (done : List Listing) (l : Listing) (first : Option Listing) (others : Option (List Listing)) → first ≡ Some l → after (done ++ l ∷ []) others ≡ after done (before first others)
after_more done l first None is = sym (ap (λ f. after done (before f None)) is)
after_more done l first (Some rest) is = ap (λ r. Some r) (append_assoc done (l ∷ []) rest) ∙ sym (ap (λ f. after done (before f (Some rest))) is)

-- one that is not there
pub after_none : (done : List Listing) (first : Option Listing) (others : Option (List Listing)) → first ≡ None → after done (before first others) ≡ None
after_none done first others is = ap (λ f. after done (before f others)) is

-- nothing is done
pub after_nothing : (others : Option (List Listing)) → after [] others ≡ others
after_nothing None = refl
after_nothing (Some rest) = refl

-- an operation is in the list
pub in_list : (operations : List Value) (i : ℕ) (v : Value) → i < length operations → v ≡ get_or operations i v
    → listings_in (items_view (drop i operations)) ≡ before (listing_in (view v)) (listings_in (items_view (drop (i + 1) operations)))
in_list operations i v within is =
    ap (λ vs. listings_in (items_view vs)) (drop_more operations i v within) ∙ ap (λ w. before (listing_in (view w)) (listings_in (items_view (drop (i + 1) operations)))) (sym is)

-- a text is under an id
pub in_texts : (entries rest : List (String Global × Value)) (id : String Global) (value : Value) → entries ≡ (id, value) ∷ rest
    → texts_by_id (members_view entries) ≡ before (listing_from (Some (string_bytes id)) (as_str (view value))) (texts_by_id (members_view rest))
in_texts entries rest id value is = ap (λ es. texts_by_id (members_view es)) is

-- one more text
pub text_more : (entries rest : List (String Global × Value)) (id : String Global) (value : Value) (body : List ℕ) (done new : List Entry) (e : Entry) (all : Option (List Listing))
    → entries ≡ (id, value) ∷ rest → Some body ≡ as_str (view value) → new ≡ done ++ e ∷ [] → listing_of e ≡ record { id = string_bytes id; body = body }
    → after (map listing_of done) (texts_by_id (members_view entries)) ≡ all → after (map listing_of new) (texts_by_id (members_view rest)) ≡ all
text_more entries rest id value body done new e all is text added same old =
    let first : listing_from (Some (string_bytes id)) (as_str (view value)) ≡ Some (listing_of e) = ap (λ t. listing_from (Some (string_bytes id)) t) (sym text) ∙ ap (λ (l : Listing). Some l) (sym same) in
    ap (λ es. after (map listing_of es) (texts_by_id (members_view rest))) added
    ∙ ap (λ ls. after ls (texts_by_id (members_view rest))) (map-append listing_of done (e ∷ []))
    ∙ after_more (map listing_of done) (listing_of e) (listing_from (Some (string_bytes id)) (as_str (view value))) (texts_by_id (members_view rest)) first
    ∙ ap (after (map listing_of done)) (sym (in_texts entries rest id value is))
    ∙ old

-- what is no object has no listings
pub no_object : (value : Data) → as_object value ≡ None → listings_of value ≡ None
no_object value is = ap (option_and_then (listings_from (list_at (codes "operations") value))) is
