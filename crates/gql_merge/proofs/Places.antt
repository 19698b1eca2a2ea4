-- Places of texts among texts.
use Rattle.std.specs.Prelude.{◌≡◌, ◌+◌, ◌<◌, ℕ, suc, List, [], ◌∷◌, ◌++◌, map, length, take, drop, bytes_eq, cond, Bool, true, false, refl, Option, Some, None, option_map}
use Rattle.std.specs.Map.{update}
use Rattle.std.proofs.Common.{ap, sym, ◌∙◌, subst, inl, inr, get_or, true≢false}
use Rattle.std.proofs.lemmas.List.{take_more, take-append-drop}
use Rattle.std.proofs.lemmas.Slice.Eq.{bytes_eq-Decides}
use Rattle.gql_facts.specs.ListMembers.{either}
use Rattle.gql_merge.proofs.Drawing.{map_end}
use Rattle.gql_merge.specs.Numbers.{AddsText, IsIndexed, place_in}

abbrev Text : Type 0
Text = List ℕ

itself : (t : Text) → bytes_eq t t ≡ true
itself t = (bytes_eq-Decides t t).1 refl

apart : (t q : Text) → bytes_eq t q ≡ false → bytes_eq q t ≡ false
apart t q n = elim (either (bytes_eq q t)) [
  | inl y ↦ absurd (true≢false (sym ((bytes_eq-Decides t q).1 (sym ((bytes_eq-Decides q t).0 y))) ∙ n))
  | inr m ↦ m
]

-- a place stays with more texts after it
step_kept : (b : Bool) (o o' : Option ℕ) (n : ℕ) → ((m : ℕ) → o ≡ Some m → o' ≡ Some m) → cond b (Some 0) (option_map suc o) ≡ Some n → cond b (Some 0) (option_map suc o') ≡ Some n
step_kept true o o' n h e = e
step_kept false None o' n h e = absurd (let k : None ≡ Some n = e in cc)
step_kept false (Some m) o' n h e = ap (option_map suc) (h m refl) ∙ e

pub place_kept : (t : Text) (xs ys : List Text) (n : ℕ) → place_in t xs ≡ Some n → place_in t (xs ++ ys) ≡ Some n
place_kept t [] ys n e = absurd (let k : None ≡ Some n = e in cc)
place_kept t (x ∷ xs) ys n e = step_kept (bytes_eq t x) (place_in t xs) (place_in t (xs ++ ys)) n (λ m h. place_kept t xs ys m h) e

-- a text that was not there is at the end
step_new : (b : Bool) (o o' : Option ℕ) (n : ℕ) → (o ≡ None → o' ≡ Some n) → cond b (Some 0) (option_map suc o) ≡ None → cond b (Some 0) (option_map suc o') ≡ Some (suc n)
step_new true o o' n h e = absurd (let k : Some 0 ≡ None = e in cc)
step_new false None o' n h e = ap (option_map suc) (h refl)
step_new false (Some m) o' n h e = absurd (let k : Some (suc m) ≡ None = e in cc)

place_new : (t : Text) (xs : List Text) → place_in t xs ≡ None → place_in t (xs ++ t ∷ []) ≡ Some (length xs)
place_new t [] e = ap (λ b. cond b (Some 0) None) (itself t)
place_new t (x ∷ xs) e = step_new (bytes_eq t x) (place_in t xs) (place_in t (xs ++ t ∷ [])) (length xs) (place_new t xs) e

-- another text changes nothing
place_other : (q t : Text) (xs : List Text) → bytes_eq q t ≡ false → place_in q (xs ++ t ∷ []) ≡ place_in q xs
place_other q t [] n = ap (λ b. cond b (Some 0) None) n
place_other q t (x ∷ xs) n = ap (λ o. cond (bytes_eq q x) (Some 0) (option_map suc o)) (place_other q t xs n)

-- a text that has a number
pub known_added : (number : Text → Option ℕ) (t : Text) (place n : ℕ) → Some n ≡ number t → AddsText number t place number n
known_added number t place n is texts index at =
    let there : place_in t texts ≡ Some n = sym (index t) ∙ sym is in
    let kept : place_in t (texts ++ t ∷ []) ≡ Some n = place_kept t texts (t ∷ []) n there in (
      λ q. elim (either (bytes_eq q t)) [
        | inl y ↦ let e : q ≡ t = (bytes_eq-Decides q t).0 y in subst (λ z. number z ≡ place_in z (texts ++ t ∷ [])) (sym e) (sym is ∙ sym kept)
        | inr m ↦ index q ∙ sym (place_other q t texts m)
      ],
      kept,
    )

-- and one that gets its number
pub new_added : (number after : Text → Option ℕ) (t : Text) (place : ℕ) → number t ≡ None → ((q : Text) → after q ≡ update bytes_eq number t (Some place) q)
    → AddsText number t place after place
new_added number after t place none is texts index at =
    let last : place_in t (texts ++ t ∷ []) ≡ Some place = place_new t texts (sym (index t) ∙ none) ∙ ap Some (sym at) in (
      λ q. elim (either (bytes_eq t q)) [
        | inl y ↦ is q ∙ ap (λ b. cond b (Some place) (number q)) y
            ∙ subst (λ z. Some place ≡ place_in z (texts ++ t ∷ [])) ((bytes_eq-Decides t q).0 y) (sym last)
        | inr m ↦ is q ∙ ap (λ b. cond b (Some place) (number q)) m ∙ index q ∙ sym (place_other q t texts (apart t q m))
      ],
      last,
    )

-- one text more
pub numbered_more : (all : List Text) (i : ℕ) (t : Text) (number after : Text → Option ℕ) (n : ℕ) (old new : List ℕ)
    → i < length all → get_or all i t ≡ t → i ≡ length (take i all) → IsIndexed number (take i all) → AddsText number t i after n
    → map Some old ≡ map (λ x. place_in x all) (take i all) → new ≡ old ++ n ∷ []
    → IsIndexed after (take (i + 1) all) × (map Some new ≡ map (λ x. place_in x all) (take (i + 1) all))
numbered_more all i t number after n old new within item at index added before pushed =
    let taken : take (i + 1) all ≡ take i all ++ t ∷ [] = take_more all i t within ∙ ap (λ y. take i all ++ y ∷ []) item in
    let r = added (take i all) index at in
    let here : place_in t all ≡ Some n = ap (λ l. place_in t l) (sym (take-append-drop (i + 1) all)) ∙ place_kept t (take (i + 1) all) (drop (i + 1) all) n (ap (place_in t) taken ∙ r.1) in (
      subst (IsIndexed after) (sym taken) r.0,
      ap (map Some) pushed ∙ map_end Some old n ∙ ap (λ l. l ++ Some n ∷ []) before ∙ ap (λ o. map (λ x. place_in x all) (take i all) ++ o ∷ []) (sym here)
          ∙ sym (ap (map (λ x. place_in x all)) taken ∙ map_end (λ x. place_in x all) (take i all) t),
    )
