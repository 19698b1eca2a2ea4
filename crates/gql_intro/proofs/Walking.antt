-- The walk over the runs of sorted names: from each run on, what is to come is the rest.
use Rattle.std.proofs.Common.{◌≡◌, ◌∙◌, ◌++◌, ◌+◌, ◌-◌, ◌<◌, ◌≤◌, inl, inr, ℕ, suc, List, Bool, filter, take, drop, get_or, length, Contains, sym, ap, append_assoc, subst, arith, add-one}
use Rattle.std.proofs.Math.Seq.{drop-cons}
use Rattle.std.proofs.lemmas.Grind.{flat_map-append}
use Rattle.std.proofs.lemmas.List.{drop_all, length-drop, take-append-drop, take_all}
use Rattle.std.proofs.lemmas.List.Elements.{Contains-append_left, Contains-append_right}
use Rattle.gql_types.specs.Possible.{in_order}
use Rattle.gql_intro.specs.Runs.{names_of}
use Rattle.gql_intro.specs.SortedNames.{AreBefore, AreSorted}
use Rattle.gql_intro.specs.declared.runs.Run.{Run}
use Rattle.gql_intro.proofs.Sorting.{in_either, in_order_already, last_sorted, not_both, step}

-- the names from a run on are sorted
rest_sorted : (runs : List Run) (i : ℕ) → AreSorted (names_of runs) → AreSorted (names_of (drop i runs))
rest_sorted runs i sorted = last_sorted (names_of (take i runs)) (names_of (drop i runs))
    (subst AreSorted (ap names_of (sym (take-append-drop i runs)) ∙ flat_map-append (λ (r : Run). r.names) (take i runs) (drop i runs)) sorted)

module _ (runs : List Run) (i : ℕ) (r : Run) (h : i < length runs) (is : r ≡ get_or runs i r) where
  -- the runs after this one, as the code cuts them off
  abbrev later : List Run
  later = take (length runs - (i + 1)) (drop (i + 1) runs)

  later_is : later ≡ drop (i + 1) runs
  later_is = take_all (length runs - (i + 1)) (drop (i + 1) runs) (omega (arith, length-drop (i + 1) runs))

  names_are : names_of (drop i runs) ≡ r.names ++ names_of later
  names_are =
      ap names_of (drop-cons runs i r h)
      ∙ ap (λ (z : Run). z.names ++ names_of (drop (suc i) runs)) (sym is)
      ∙ ap (λ k. r.names ++ names_of (drop k runs)) (sym (add-one i))
      ∙ ap (λ l. r.names ++ names_of l) (sym later_is)

  pub in_turn : AreSorted (names_of runs) → AreSorted (r.names ++ names_of later)
  in_turn sorted = subst AreSorted names_are (rest_sorted runs i sorted)

  module _ (went gone : List (List ℕ)) (k : ℕ) (all : (n : List ℕ) → Contains (names_of (drop i runs)) n → Contains gone n → Contains went n) where
    -- a name of this run that is gone is among those up to it
    pub gone_here : AreBefore r.names (drop k went) → (n : List ℕ) → Contains r.names n → Contains gone n → Contains (take k went) n
    gone_here left n a b =
        let from : Contains (names_of (drop i runs)) n = subst (λ l. Contains l n) (sym names_are) (Contains-append_left r.names (names_of later) n a) in
        elim (in_either k went n (all n from b)) [
          | inl t ↦ t
          | inr d ↦ absurd (not_both r.names (drop k went) left n a d)
        ]

    -- a name of a later run that is gone is among the others
    pub gone_later : AreBefore (take k went) (names_of later) → (n : List ℕ) → Contains (names_of (drop (i + 1) runs)) n → Contains gone n → Contains (drop k went) n
    gone_later taken n a b =
        let among : Contains (names_of later) n = subst (λ l. Contains (names_of l) n) (sym later_is) a in
        let from : Contains (names_of (drop i runs)) n = subst (λ l. Contains l n) (sym names_are) (Contains-append_right r.names (names_of later) n among) in
        elim (in_either k went n (all n from b)) [
          | inl t ↦ absurd (not_both (take k went) (names_of later) taken n t among)
          | inr d ↦ d
        ]

  pub whole_later : (p : List ℕ → Bool) (came made whole : List (List ℕ)) (k : ℕ) → AreSorted (names_of runs) → AreSorted came
      → AreBefore (take k came) (names_of later) → AreBefore r.names (drop k came)
      → whole ≡ made ++ in_order (filter p (names_of (drop i runs)) ++ came)
      → whole ≡ (made ++ in_order (filter p r.names ++ take k came)) ++ in_order (filter p (names_of (drop (i + 1) runs)) ++ drop k came)
  whole_later p came made whole k sorted came_sorted taken left e =
      e ∙ ap (λ l. made ++ in_order (filter p l ++ came)) names_are
      ∙ ap (λ l. made ++ l) (step p r.names (names_of later) came k (in_turn sorted) came_sorted taken left)
      ∙ sym (append_assoc made (in_order (filter p r.names ++ take k came)) (in_order (filter p (names_of later) ++ drop k came)))
      ∙ ap (λ l. (made ++ in_order (filter p r.names ++ take k came)) ++ in_order (filter p (names_of l) ++ drop k came)) later_is

-- after the last run, what is left of those that came is added
pub whole_at_end : (p : List ℕ → Bool) (runs : List Run) (came made whole : List (List ℕ)) (i : ℕ) → length runs ≤ i → AreSorted came
    → whole ≡ made ++ in_order (filter p (names_of (drop i runs)) ++ came) → made ++ came ≡ whole
whole_at_end p runs came made whole i h sorted e =
    sym (e ∙ ap (λ l. made ++ in_order (filter p (names_of l) ++ came)) (drop_all i runs h) ∙ ap (λ l. made ++ l) (in_order_already came sorted))
