-- What a field takes of a member by its arguments.
use Rattle.std.proofs.Common.{◌≡◌, ◌⊎◌, inl, inr, Bool, true, false, ℕ, ◌<◌, List, [], ◌∷◌, map, filter, find, length, String, Global, None, Some, refl, ap, ◌∙◌, arith, unwrap_or}
use Rattle.gql_types.specs.Written.{Written}
use Rattle.serde_json.specs.Data as json
use Rattle.serde_json.specs.Data.{Data, Items, Members}
use Rattle.serde_json.specs.Find.{as_array, as_object, get}
use Rattle.serde_json.specs.View.{items_of, items_view, members_view, view}
use Rattle.serde_json.specs.declared.value.Value.{Value}
use Rattle.gql_steps.specs.Resolution.{filtered, first_or_null, list_of, meets, members_in, resolved, taken}

pub listed : (ds : List Data) → list_of (items_of ds) ≡ ds
listed [] = refl
listed (d ∷ ds) = ap (λ xs. d ∷ xs) (listed ds)

pub no_arguments : (t : Written) (ms : List (String Global × Value)) (d : Data) → ms ≡ [] → filtered t (members_view ms) d ≡ d
no_arguments t [] d e = none d where
  none : (d : Data) → filtered t json.no_members d ≡ d
  none d = refl
no_arguments t (m ∷ ms) d e = cc

pub some_arguments : (t : Written) (ms : List (String Global × Value)) (vs : List Value) (d : Data) → 0 < length ms → d ≡ json.array (items_view vs)
    → filtered t (members_view ms) d ≡ taken t (filter (meets (members_view ms)) (map view vs))
some_arguments t [] vs d h e = absurd (omega (arith, h))
some_arguments t (m ∷ ms) vs d h e = ap (filtered t (members_view (m ∷ ms))) e
    ∙ ap (λ ds. taken t (filter (meets (members_view (m ∷ ms))) ds)) (listed (map view vs))

-- a member that is no list is taken as it is
pub no_list : (t : Written) (ms : Members) (d : Data) → as_array d ≡ None → filtered t ms d ≡ d
no_list t json.no_members d e = refl
no_list t (json.member k v ms) json.null e = refl
no_list t (json.member k v ms) (json.boolean b) e = refl
no_list t (json.member k v ms) (json.number n) e = refl
no_list t (json.member k v ms) (json.string s) e = refl
no_list t (json.member k v ms) (json.array ds) e = cc
no_list t (json.member k v ms) (json.object ns) e = refl

pub null_taken : (t : Written) (ms : Members) → filtered t ms json.null ≡ json.null
null_taken t json.no_members = refl
null_taken t (json.member k v ms) = refl

pub no_member : (name : List ℕ) (t : Written) (a d : Data) → get name d ≡ None → resolved name t a d ≡ json.null
no_member name t a d e = ap (λ o. filtered t (members_in a) (unwrap_or o json.null)) e ∙ null_taken t (members_in a)

pub is_array : (d : Data) (ds : Items) → as_array d ≡ Some ds → d ≡ json.array ds
is_array json.null ds e = cc
is_array (json.boolean b) ds e = cc
is_array (json.number n) ds e = cc
is_array (json.string s) ds e = cc
is_array (json.array xs) ds e = ap json.array (some_is xs ds e) where
  some_is : (xs ys : Items) → Some xs ≡ Some ys → xs ≡ ys
  some_is xs ys e = cc
is_array (json.object ms) ds e = cc

pub members_are : (d : Data) (ms : Members) → as_object d ≡ Some ms → members_in d ≡ ms
members_are json.null ms e = cc
members_are (json.boolean b) ms e = cc
members_are (json.number n) ms e = cc
members_are (json.string s) ms e = cc
members_are (json.array xs) ms e = cc
members_are (json.object xs) ms e = cc

pub no_members_are : (d : Data) → as_object d ≡ None → members_in d ≡ json.no_members
no_members_are json.null e = refl
no_members_are (json.boolean b) e = refl
no_members_are (json.number n) e = refl
no_members_are (json.string s) e = refl
no_members_are (json.array xs) e = refl
no_members_are (json.object xs) e = cc

-- the first that is kept
pub first_found : (p : Data → Bool) (ds : List Data) → first_or_null (filter p ds) ≡ unwrap_or (find p ds) json.null
first_found p [] = refl
first_found p (d ∷ ds) = elim (tells (p d)) [
  | inl h ↦ rw h refl
  | inr h ↦ rw h (first_found p ds)
] where
  tells : (b : Bool) → (b ≡ true) ⊎ (b ≡ false)
  tells true = inl refl
  tells false = inr refl
