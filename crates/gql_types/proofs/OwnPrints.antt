-- What prints say of names.
use Rattle.std.proofs.Common.{◌≡◌, inl, inr, ◌+◌, ◌-◌, ◌<◌, ◌≤◌, ℕ, zero, suc, List, [], ◌∷◌, Bool, true, false, cond, Option, Some, None, map, find, bytes_eq, drop, length, get_or, slice_get, refl, sym, ap, ◌∙◌, arith, option_and_then}
use Rattle.std.specs.Prelude.{is_some, nat_eq, option_map, unwrap_or}
use Rattle.std.specs.List.{position_from}
use Rattle.std.proofs.lemmas.Bool.{eq-eqb, eqb-true}
use Rattle.std.proofs.lemmas.List.{drop_more}
use Rattle.std.proofs.lemmas.Option.{slice_get-map}
use Rattle.std.proofs.lemmas.Slice.Eq.{bytes_eq-Decides}
use Rattle.gql_types.specs.Names.{AreOnce}
use Rattle.gql_types.specs.Prints.{AreDistinct, HaveOwnPrints, has_print, print_of}
use Rattle.gql_types.proofs.Filtering.{either}
use Rattle.gql_types.proofs.Places.{by_names, found_there}

-- the same names have the same print
same_print : (q n : List ℕ) → bytes_eq q n ≡ true → has_print (print_of q) n ≡ true
same_print q n same = eq-eqb (print_of q) (print_of n) (ap print_of ((bytes_eq-Decides q n).0 same))

-- a name of another print is another name
other_print : (q n : List ℕ) → has_print (print_of q) n ≡ false → bytes_eq q n ≡ false
other_print q n other = elim (either (bytes_eq q n)) [
  | inl h ↦ absurd (cc (sym (same_print q n h) ∙ other))
  | inr h ↦ h
]

-- a name whose print none of them has has no place
unnamed : (q : List ℕ) (p : ℕ) (ns : List (List ℕ)) → is_some (find (has_print (print_of q)) ns) ≡ false
    → position_from (bytes_eq q) p ns ≡ None
unnamed q p [] none = refl
unnamed q p (n ∷ ns) none = elim (either (has_print (print_of q) n)) [
  | inl h ↦ absurd (cc (sym (rw h at none)))
  | inr h ↦ rw (other_print q n h) (unnamed q (p + 1) ns (rw h at none))
]

-- a name whose print none of them has is not found
unfound : (q : List ℕ) (ns : List (List ℕ)) → is_some (find (has_print (print_of q)) ns) ≡ false
    → is_some (find (bytes_eq q) ns) ≡ false
unfound q [] none = refl
unfound q (n ∷ ns) none = elim (either (has_print (print_of q) n)) [
  | inl h ↦ absurd (cc (sym (rw h at none)))
  | inr h ↦ rw (other_print q n h) (unfound q ns (rw h at none))
]

-- names no two of which have one print occur once each
pub own_once : (ns : List (List ℕ)) → HaveOwnPrints ns → AreOnce ns
own_once [] own = tt
own_once (n ∷ ns) own = (unfound n ns own.0, own_once ns own.1)

-- the first name of the print of q is the first that is q, or none is
found_print : (q : List ℕ) (p : ℕ) (ns : List (List ℕ)) → HaveOwnPrints ns
    → cond (unwrap_or (option_map (bytes_eq q) (find (has_print (print_of q)) ns)) false) (position_from (has_print (print_of q)) p ns) None
    ≡ position_from (bytes_eq q) p ns
found_print q p [] own = refl
found_print q p (n ∷ ns) own = elim (either (bytes_eq q n)) [
  | inl h ↦ rw (same_print q n h, h) refl
  | inr h ↦ elim (either (has_print (print_of q) n)) [
    | inl k ↦
        let same : print_of q ≡ print_of n = eqb-true (print_of q) (print_of n) k in
        let none : is_some (find (has_print (print_of q)) ns) ≡ false = rw same own.0 in
        rw (k, h) (sym (unnamed q (p + 1) ns none))
    | inr k ↦ rw (k, h) (found_print q (p + 1) ns own.1)
  ]
]

-- a test that nothing passes, by places, finds none
unfound_place : {X : Type 0} (test : X → Bool) (p : ℕ) (ns : List X) → position_from test p ns ≡ None → is_some (find test ns) ≡ false
unfound_place test p [] none = refl
unfound_place test p (n ∷ ns) none = elim (either (test n)) [
  | inl h ↦ absurd (cc (rw h at none))
  | inr h ↦ rw h (unfound_place test (p + 1) ns (rw h at none))
]

-- a name whose print has no place has none
pub placed_none : (q : List ℕ) (ns : List (List ℕ)) → position_from (has_print (print_of q)) 0 ns ≡ None
    → position_from (bytes_eq q) 0 ns ≡ None
placed_none q ns none = unnamed q 0 ns (unfound_place (has_print (print_of q)) 0 ns none)

-- the place of a name is that of its print, if the name there is the same; else it has none
placed : (q : List ℕ) (ns : List (List ℕ)) (i : ℕ) → HaveOwnPrints ns → position_from (has_print (print_of q)) 0 ns ≡ Some i
    → cond (unwrap_or (option_map (bytes_eq q) (slice_get ns i)) false) (Some i) None ≡ position_from (bytes_eq q) 0 ns
placed q ns i own is =
    let there : slice_get ns i ≡ find (has_print (print_of q)) ns
    = ap (λ o. option_and_then (λ k. slice_get ns k) o) (sym is) ∙ found_there (has_print (print_of q)) ns in
    rw there (rw (← is) (found_print q 0 ns own))

-- the same, of things of these names
pub placed_thing : {X : Type 0} (name : X → List ℕ) (q : List ℕ) (xs : List X) (i : ℕ) (is_named : Bool) → HaveOwnPrints (map name xs)
    → position_from (has_print (print_of q)) 0 (map name xs) ≡ Some i
    → unwrap_or (option_map (λ x. bytes_eq q (name x)) (slice_get xs i)) false ≡ is_named
    → cond is_named (Some i) None ≡ position_from (λ x. bytes_eq q (name x)) 0 xs
placed_thing {X = X} name q xs i is_named own is there =
    let named : unwrap_or (option_map (bytes_eq q) (slice_get (map name xs) i)) false ≡ is_named
    = rw (slice_get-map name xs i) (mapped (slice_get xs i) ∙ there) in
    ap (λ b. cond b (Some i) None) (sym named) ∙ placed q (map name xs) i own is ∙ sym (by_names name (bytes_eq q) 0 xs)
  where
    mapped : (o : Option X) → unwrap_or (option_map (bytes_eq q) (option_map name o)) false ≡ unwrap_or (option_map (λ x. bytes_eq q (name x)) o) false
    mapped None = refl
    mapped (Some x) = refl

-- a test that finds nothing has no place
unplaced : {X : Type 0} (test : X → Bool) (p : ℕ) (ns : List X) → is_some (find test ns) ≡ false → position_from test p ns ≡ None
unplaced test p [] none = refl
unplaced test p (n ∷ ns) none = elim (either (test n)) [
  | inl h ↦ absurd (cc (sym (rw h at none)))
  | inr h ↦ rw h (unplaced test (p + 1) ns (rw h at none))
]

-- one print more at the front, which no other is
pub distinct_more : (ps : List ℕ) (i p : ℕ) → 0 < i → i ≤ length ps → get_or ps (i - 1) 0 ≡ p
    → position_from (nat_eq p) i (drop i ps) ≡ None → AreDistinct (drop i ps) → AreDistinct (drop (i - 1) ps)
distinct_more ps i p some within there absent distinct =
    let next : i - 1 + 1 ≡ i = omega arith in
    rw (drop_more ps (i - 1) 0 (omega arith), there, next) (unfound_place (nat_eq p) i (drop i ps) absent, distinct)

-- two numbers are the same in either order
either_way : (p q : ℕ) → nat_eq p q ≡ nat_eq q p
either_way p q = elim (either (nat_eq p q)) [
  | inl h ↦ h ∙ sym (eq-eqb q p (sym (eqb-true p q h)))
  | inr h ↦ elim (either (nat_eq q p)) [
    | inl k ↦ absurd (cc (sym (eq-eqb p q (sym (eqb-true q p k))) ∙ h))
    | inr k ↦ h ∙ sym k
  ]
]

-- one place further to the front
pub first_before : (ps : List ℕ) (i p q : ℕ) → 0 < i → i ≤ length ps → get_or ps (i - 1) 0 ≡ p
    → cond (nat_eq p q) (Some (i - 1)) (position_from (nat_eq q) i (drop i ps)) ≡ position_from (nat_eq q) (i - 1) (drop (i - 1) ps)
first_before ps i p q some within there =
    let next : i - 1 + 1 ≡ i = omega arith in
    rw (drop_more ps (i - 1) 0 (omega arith), there, next, either_way p q) refl

-- distinct prints, without the first of them
distinct_drop : (k : ℕ) (ps : List ℕ) → AreDistinct ps → AreDistinct (drop k ps)
distinct_drop zero ps distinct = distinct
distinct_drop (suc k) [] distinct = distinct
distinct_drop (suc k) (p ∷ ps) distinct = distinct_drop k ps distinct.1

-- a print that a later one is
pub not_distinct : (ps : List ℕ) (i p : ℕ) (later : Option ℕ) → 0 < i → i ≤ length ps → get_or ps (i - 1) 0 ≡ p
    → position_from (nat_eq p) i (drop i ps) ≡ later → is_some later ≡ true → AreDistinct ps → ⊥
not_distinct ps i p later some within there again is distinct =
    let next : i - 1 + 1 ≡ i = omega arith in
    let rest : AreDistinct (drop (i - 1) ps) = distinct_drop (i - 1) ps distinct in
    let here : AreDistinct (p ∷ drop i ps) = rw (drop_more ps (i - 1) 0 (omega arith), there, next) at rest in
    absurd (cc (sym is ∙ ap is_some (sym again ∙ unplaced (nat_eq p) i (drop i ps) here.0)))

-- a print is among those of names where one of them has it
found_print_of : (p : ℕ) (ns : List (List ℕ)) → is_some (find (nat_eq p) (map print_of ns)) ≡ is_some (find (has_print p) ns)
found_print_of p [] = refl
found_print_of p (n ∷ ns) = elim (either (nat_eq p (print_of n))) [
  | inl h ↦ rw h refl
  | inr h ↦ rw h (found_print_of p ns)
]

-- names whose prints are distinct have their own prints
pub own_of_distinct : (ns : List (List ℕ)) → AreDistinct (map print_of ns) → HaveOwnPrints ns
own_of_distinct [] distinct = tt
own_of_distinct (n ∷ ns) distinct = (sym (found_print_of (print_of n) ns) ∙ distinct.0, own_of_distinct ns distinct.1)

-- the prints of names that have their own are distinct
pub distinct_of_own : (ns : List (List ℕ)) → HaveOwnPrints ns → AreDistinct (map print_of ns)
distinct_of_own [] own = tt
distinct_of_own (n ∷ ns) own = (found_print_of (print_of n) ns ∙ own.0, distinct_of_own ns own.1)
