-- One more step is filled in.
use Rattle.std.proofs.Common.{◌≡◌, ℕ, ◌+◌, ◌<◌, ◌≤◌, ◌≢◌, List, [], ◌∷◌, ◌++◌, length, map, take, drop, get_or, sym, ◌∙◌, ap, subst, arith, append_assoc}
use Rattle.std.proofs.Math.ListN.{set}
use Rattle.std.proofs.lemmas.List.{map-append, take_more, drop_more, set_at, length-map, length-take-le, get_or_at, get_or-set_other}
use Rattle.gql_verdict.specs.Slots.{resolve, IsApart}
use Rattle.gql_verdict.specs.declared.slot.Slot.{Slot}
use Rattle.gql_verdict.specs.declared.slot.Slot.TheVariants.{At}

-- what the steps are once those below i are filled in
abbrev pub filled : List Slot → List Slot → ℕ → List Slot
filled kept steps i = map (resolve kept) (take i steps) ++ drop i steps

module _ (kept steps : List Slot) (i : ℕ) (l : i < length steps) where
  front_length : length (map (resolve kept) (take i steps)) ≡ i
  front_length = length-map (take i steps) (resolve kept) ∙ length-take-le i steps (omega arith)

  rest_is : (d : Slot) → drop i steps ≡ get_or steps i d ∷ drop (i + 1) steps
  rest_is d = drop_more steps i d l

  -- the element at i is still the one that it was
  pub at_turn : (d : Slot) → get_or (filled kept steps i) i d ≡ get_or steps i d
  at_turn d = ap (λ r. get_or (map (resolve kept) (take i steps) ++ r) i d) (rest_is d) ∙ get_or_at (map (resolve kept) (take i steps)) (get_or steps i d) (drop (i + 1) steps) d i front_length

  -- writing what comes there fills in one more
  pub filled_more : (now : List Slot) (x : Slot) → now ≡ filled kept steps i → x ≡ resolve kept (get_or steps i x) → set now i x ≡ filled kept steps (i + 1)
  filled_more now x e q =
      ap (λ (n : List Slot). set n i x) (e ∙ ap (λ r. map (resolve kept) (take i steps) ++ r) (rest_is x))
      ∙ (set_at (map (resolve kept) (take i steps)) (get_or steps i x) (drop (i + 1) steps) x i front_length
      ∙ (ap (λ (y : Slot). map (resolve kept) (take i steps) ++ y ∷ drop (i + 1) steps) q
      ∙ (sym (append_assoc (map (resolve kept) (take i steps)) (resolve kept (get_or steps i x) ∷ []) (drop (i + 1) steps))
      ∙ ap (λ (f : List Slot). f ++ drop (i + 1) steps) (sym (map-append (resolve kept) (take i steps) (get_or steps i x ∷ [])) ∙ ap (map (resolve kept)) (sym (take_more steps i x l))))))

-- a verdict that is fetched later still lies where it was
pub still_there : (kept steps now : List Slot) (i j : ℕ) (x : Slot) → IsApart steps → i < length steps → get_or steps i (At j) ≡ At j
    → ((k m : ℕ) → i ≤ k → k < length steps → get_or steps k (At m) ≡ At m → get_or now m (At m) ≡ get_or kept m (At m))
    → (k m : ℕ) → i + 1 ≤ k → k < length steps → get_or steps k (At m) ≡ At m → get_or (set now j x) m (At m) ≡ get_or kept m (At m)
still_there kept steps now i j x apart l at still k m le lt e =
    let ne : m ≢ j = λ q. absurd (let s : k ≡ i = apart k i j lt l (subst (λ (n : ℕ). get_or steps k (At n) ≡ At n) q e) at in omega (arith, s)) in
    get_or-set_other now j m x (At m) ne ∙ still k m (omega arith) lt e
