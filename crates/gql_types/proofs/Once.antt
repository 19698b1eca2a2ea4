-- Things each of which has another name.
use Rattle.std.proofs.Common.{◌≡◌, inl, inr, ◌||◌, ◌++◌, ◌+◌, ◌-◌, ◌<◌, ◌≤◌, ℕ, zero, suc, List, [], ◌∷◌, Bool, true, false, Option, Some, None, map, find, bytes_eq, drop, take, length, get_or, slice_get, refl, sym, ap, ap₂, ◌∙◌, subst, arith}
use Rattle.std.specs.Prelude.{is_some, option_map}
use Rattle.std.specs.List.{position_from}
use Rattle.std.proofs.lemmas.List.{drop_more, map-append, take_more}
use Rattle.std.proofs.lemmas.Slice.Eq.{bytes_eq-Decides}
use Rattle.gql_types.specs.Marks.{with_mark}
use Rattle.gql_types.specs.Names.{AreOnce, are_among}
use Rattle.gql_types.proofs.Filtering.{either}

pub itself : (a : List ℕ) → bytes_eq a a ≡ true
itself a = (bytes_eq-Decides a a).1 refl

-- one place further to the back
shifted : {X : Type 0} (test : X → Bool) (p : ℕ) (xs : List X) → position_from test (p + 1) xs ≡ option_map suc (position_from test p xs)
shifted test p [] = refl
shifted test p (x ∷ xs) = elim (either (test x)) [
  | inl h ↦ rw h (ap Some (omega arith))
  | inr h ↦ rw h (shifted test (p + 1) xs)
]

module _ {X : Type 0} (name : X → List ℕ) where
  abbrev named : List ℕ → X → Bool
  named q x = bytes_eq q (name x)

  -- a name that is not among those of some things is the name of none of them
  of_none : (q : List ℕ) (xs : List X) (i : ℕ) (x : X) → is_some (find (bytes_eq q) (map name xs)) ≡ false
      → slice_get xs i ≡ Some x → bytes_eq q (name x) ≡ false
  of_none q [] i x lacks is = absurd (cc is)
  of_none q (y ∷ ys) i x lacks is = elim (either (bytes_eq q (name y))) [
    | inl h ↦ absurd (cc (sym (rw h at lacks)))
    | inr h ↦ by i is h (λ k. of_none q ys k x (rw h at lacks))
  ]
    where
      by : (i : ℕ) → slice_get (y ∷ ys) i ≡ Some x → bytes_eq q (name y) ≡ false
          → ((k : ℕ) → slice_get ys k ≡ Some x → bytes_eq q (name x) ≡ false) → bytes_eq q (name x) ≡ false
      by zero is h rest = let e : y ≡ x = cc is in subst (λ z. bytes_eq q (name z) ≡ false) e h
      by (suc k) is h rest = rest k is

  -- each of them is the one that is found by its name
  pub once_found : (xs : List X) (i : ℕ) (x : X) → AreOnce (map name xs) → slice_get xs i ≡ Some x
      → find (named (name x)) xs ≡ Some x
  once_found [] i x once is = absurd (cc is)
  once_found (y ∷ ys) zero x once is =
      let e : y ≡ x = cc is in subst (λ z. find (named (name x)) (z ∷ ys) ≡ Some x) (sym e) (rw (itself (name x)) refl)
  once_found (y ∷ ys) (suc k) x once is = elim (either (bytes_eq (name x) (name y))) [
    | inl h ↦
        let same : name x ≡ name y = (bytes_eq-Decides (name x) (name y)).0 h in
        let none : bytes_eq (name y) (name x) ≡ false = of_none (name y) ys k x once.0 is in
        absurd (cc (sym (itself (name y)) ∙ ap (bytes_eq (name y)) (sym same) ∙ none))
    | inr h ↦ rw h (once_found ys k x once.1 is)
  ]

  -- each of them stands where it is found by its name
  pub once_placed : (xs : List X) (i : ℕ) (x : X) → AreOnce (map name xs) → slice_get xs i ≡ Some x
      → position_from (named (name x)) 0 xs ≡ Some i
  once_placed [] i x once is = absurd (cc is)
  once_placed (y ∷ ys) zero x once is =
      let e : y ≡ x = cc is in subst (λ z. position_from (named (name x)) 0 (z ∷ ys) ≡ Some 0) (sym e) (rw (itself (name x)) refl)
  once_placed (y ∷ ys) (suc k) x once is = elim (either (bytes_eq (name x) (name y))) [
    | inl h ↦
        let same : name x ≡ name y = (bytes_eq-Decides (name x) (name y)).0 h in
        let none : bytes_eq (name y) (name x) ≡ false = of_none (name y) ys k x once.0 is in
        absurd (cc (sym (itself (name y)) ∙ ap (bytes_eq (name y)) (sym same) ∙ none))
    | inr h ↦ rw h (shifted (named (name x)) 0 ys ∙ ap (option_map suc) (once_placed ys k x once.1 is))
  ]

  -- a name without a place is not among the names
  unplaced : (q : List ℕ) (p : ℕ) (xs : List X) → position_from (named q) p xs ≡ None → is_some (find (bytes_eq q) (map name xs)) ≡ false
  unplaced q p [] is = refl
  unplaced q p (x ∷ xs) is = elim (either (bytes_eq q (name x))) [
    | inl h ↦ absurd (cc (rw h at is))
    | inr h ↦ rw h (unplaced q (p + 1) xs (rw h at is))
  ]

  -- one thing more at the front
  pub once_more : (xs : List X) (p : ℕ) (x : X) → 0 < p → p ≤ length xs → get_or xs (p - 1) x ≡ x
      → position_from (named (name x)) p (drop p xs) ≡ None → AreOnce (map name (drop p xs)) → AreOnce (map name (drop (p - 1) xs))
  once_more xs p x some within there absent once =
      let next : p - 1 + 1 ≡ p = omega arith in
      rw (drop_more xs (p - 1) x (omega arith), there, next) (unplaced (name x) p (drop p xs) absent, once)

-- ---- marks

module _ {X : Type 0} (name : X → List ℕ) where
  -- whether a name is among these and one more
  among_more : (n q : List ℕ) (names : List (List ℕ)) → is_some (find (bytes_eq n) (names ++ q ∷ [])) ≡ is_some (find (bytes_eq n) names) || bytes_eq n q
  among_more n q [] = elim (either (bytes_eq n q)) [ inl h ↦ rw h refl | inr h ↦ rw h refl ]
  among_more n q (m ∷ names) = elim (either (bytes_eq n m)) [
    | inl h ↦ rw h refl
    | inr h ↦ rw h (among_more n q names)
  ]

  apart : (a b : List ℕ) → bytes_eq a b ≡ false → bytes_eq b a ≡ false
  apart a b e = elim (either (bytes_eq b a)) [
    | inl h ↦ absurd (cc (sym (subst (λ x. bytes_eq a x ≡ true) (sym ((bytes_eq-Decides b a).0 h)) (itself a)) ∙ e))
    | inr h ↦ h
  ]

  or_false : (b : Bool) → b || false ≡ b
  or_false true = refl
  or_false false = refl

  or_true : (b : Bool) → b || true ≡ true
  or_true true = refl
  or_true false = refl

  -- a name that none of them has marks none
  none_marked : (q : List ℕ) (names : List (List ℕ)) (xs : List X) → is_some (find (bytes_eq q) (map name xs)) ≡ false
      → are_among (names ++ q ∷ []) (map name xs) ≡ are_among names (map name xs)
  none_marked q names [] lacks = refl
  none_marked q names (x ∷ xs) lacks = elim (either (bytes_eq q (name x))) [
    | inl h ↦ absurd (cc (sym (rw h at lacks)))
    | inr h ↦ ap₂ ◌∷◌ (among_more (name x) q names ∙ ap (λ b. is_some (find (bytes_eq (name x)) names) || b) (apart q (name x) h) ∙ or_false (is_some (find (bytes_eq (name x)) names)))
        (none_marked q names xs (rw h at lacks))
  ]

  -- one thing more was asked
  pub asked_step : (names : List (List ℕ)) (xs : List X) (i : ℕ) (x : X) (old new : List Bool) → i < length xs → get_or xs i x ≡ x
      → old ≡ are_among names (map name (take i xs)) → new ≡ old ++ is_some (find (bytes_eq (name x)) names) ∷ []
      → new ≡ are_among names (map name (take (i + 1) xs))
  asked_step names xs i x old new within item before after =
      rw (take_more xs i x within, item, map-append name (take i xs) (x ∷ []), map-append (λ n. is_some (find (bytes_eq n) names)) (map name (take i xs)) (name x ∷ []))
      (after ∙ ap (λ ms. ms ++ is_some (find (bytes_eq (name x)) names) ∷ []) before)

  marked_behind : (m : Bool) (marks : List Bool) (o : Option ℕ) → with_mark (option_map suc o) (m ∷ marks) ≡ m ∷ with_mark o marks
  marked_behind m marks None = refl
  marked_behind m marks (Some i) = refl

  -- the thing of a name is marked where it stands
  pub marked_more : (q : List ℕ) (names : List (List ℕ)) (xs : List X) → AreOnce (map name xs)
      → with_mark (position_from (λ x. bytes_eq q (name x)) 0 xs) (are_among names (map name xs)) ≡ are_among (names ++ q ∷ []) (map name xs)
  marked_more q names [] once = refl
  marked_more q names (x ∷ xs) once = elim (either (bytes_eq q (name x))) [
    | inl h ↦
        let same : q ≡ name x = (bytes_eq-Decides q (name x)).0 h in
        rw h (sym (ap₂ ◌∷◌ (among_more (name x) q names ∙ ap (λ b. is_some (find (bytes_eq (name x)) names) || b) (ap (bytes_eq (name x)) same ∙ itself (name x)) ∙ or_true (is_some (find (bytes_eq (name x)) names)))
        (none_marked q names xs (subst (λ n. is_some (find (bytes_eq n) (map name xs)) ≡ false) (sym same) once.0))))
    | inr h ↦
        rw h (ap (λ o. with_mark o (are_among names (name x ∷ map name xs))) (shifted (λ y. bytes_eq q (name y)) 0 xs)
        ∙ marked_behind (is_some (find (bytes_eq (name x)) names)) (are_among names (map name xs)) (position_from (λ y. bytes_eq q (name y)) 0 xs)
        ∙ ap₂ ◌∷◌ (sym (among_more (name x) q names ∙ ap (λ b. is_some (find (bytes_eq (name x)) names) || b) (apart q (name x) h) ∙ or_false (is_some (find (bytes_eq (name x)) names))))
        (marked_more q names xs once.1))
  ]

  -- one name more was marked, where it was found
  pub marked_step : (names : List (List ℕ)) (xs : List X) (i : ℕ) (q asked : List ℕ) (found : Option ℕ) (old new : List Bool) → AreOnce (map name xs) → i < length names → get_or names i q ≡ q
      → old ≡ are_among (take i names) (map name xs) → new ≡ with_mark found old
      → found ≡ position_from (λ x. bytes_eq asked (name x)) 0 xs → asked ≡ q
      → new ≡ are_among (take (i + 1) names) (map name xs)
  marked_step names xs i q asked found old new once within item before after is same =
      rw (take_more names i q within, item) (after ∙ ap (with_mark found) before
      ∙ ap (λ o. with_mark o (are_among (take i names) (map name xs))) (is ∙ ap (λ n. position_from (λ x. bytes_eq n (name x)) 0 xs) same)
      ∙ marked_more q (take i names) xs once)
