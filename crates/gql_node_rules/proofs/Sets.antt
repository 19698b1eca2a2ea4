-- Sets of names.
use Rattle.std.proofs.Common.{◌≡◌, ◌⊎◌, inl, inr, ◌||◌, ◌∷◌, ◌+◌, ◌<◌, ℕ, List, [], Bool, true, false, cond, bytes_eq, map, take, length, get_or, refl, sym, ap, subst, ◌∙◌, arith, Contains}
use Rattle.std.specs.Prelude.{◌&&◌, ◌==◌, not}
use Rattle.std.specs.HashSet.{contains}
use Rattle.std.specs.List.{list_any}
use Rattle.std.proofs.lemmas.Bool.Decides.{nat_tests}
use Rattle.std.proofs.lemmas.List.{take_more, nil_from_length}
use Rattle.std.proofs.lemmas.List.Folds.{list_any-append}
use Rattle.std.proofs.lemmas.Slice.Eq.{bytes_eq-Decides}
use Rattle.std.proofs.lemmas.Grind.{common_steps}
use Rattle.gql_types.proofs.Members.{none, cases}
use Rattle.gql_node_rules.specs.DirectiveUses.{FitsAsBefore}
use Rattle.gql_node_rules.specs.SchemaChanges.{is_among}
use Rattle.gql_node_rules.specs.declared.directive_use.DirectiveUse.{DirectiveUse}
use Rattle.gql_node_rules.specs.declared.schema_change.SchemaChange.{SchemaChange}

pub itself : (a : List ℕ) → bytes_eq a a ≡ true
itself a = (bytes_eq-Decides a a).1 refl

pub same : (a b : List ℕ) → bytes_eq a b ≡ true → a ≡ b
same a b e = (bytes_eq-Decides a b).0 e

-- equality of names goes both ways
flipped_by : (a b : List ℕ) (t u : Bool) → bytes_eq a b ≡ t → bytes_eq b a ≡ u → t ≡ u
flipped_by a b true true e f = refl
flipped_by a b false false e f = refl
flipped_by a b true false e f = sym (subst (λ x. bytes_eq b x ≡ true) (sym (same a b e)) (itself b)) ∙ f
flipped_by a b false true e f = sym e ∙ subst (λ x. bytes_eq a x ≡ true) (sym (same b a f)) (itself a)

pub flipped : (a b : List ℕ) → bytes_eq a b ≡ bytes_eq b a
flipped a b = flipped_by a b (bytes_eq a b) (bytes_eq b a) refl refl

by_or : (t b : Bool) → cond t true b ≡ (b || t)
by_or true true = refl
by_or true false = refl
by_or false true = refl
by_or false false = refl

-- one name more was put into a set
pub one_more : {X : Type 0} (name : X → List ℕ) (q k : List ℕ) (xs : List X) (i : ℕ) (x : X) (base old new : Bool) → i < length xs → get_or xs i x ≡ x
    → k ≡ name x
    → old ≡ (base || list_any (λ y. bytes_eq q (name y)) (take i xs))
    → new ≡ cond (bytes_eq k q) true old
    → new ≡ (base || list_any (λ y. bytes_eq q (name y)) (take (i + 1) xs))
one_more name q k xs i x base old new within item is before after =
    let one : bytes_eq k q ≡ bytes_eq q (name x) = flipped k q ∙ ap (bytes_eq q) is in
    let now : new ≡ (old || bytes_eq q (name x)) = after ∙ by_or (bytes_eq k q) old ∙ ap (λ b. old || b) one in
    rw (take_more xs i x within, item, list_any-append (λ y. bytes_eq q (name y)) (take i xs) (x ∷ []), now, before) (grind (arith, common_steps))

-- whether one of those passes that a list is made to
pub any_map : {X Y : Type 0} (p : X → Bool) (h : Y → X) (ys : List Y) → list_any p (map h ys) ≡ list_any (λ y. p (h y)) ys
any_map p h [] = refl
any_map p h (y ∷ ys) = grind (arith, common_steps, any_map p h ys)

-- where a member passes, one does
pub is_one : {X : Type 0} (p : X → Bool) (xs : List X) (x : X) → Contains xs x → p x ≡ true → list_any p xs ≡ true
is_one p [] x h e = absurd (none x h)
is_one p (y ∷ ys) x h e = elim (cases x y ys h) [
  | inl is ↦ let one : p y ≡ true = subst (λ z. p z ≡ true) is e in rw one (grind (arith, common_steps))
  | inr t ↦ rw (is_one p ys x t e) (grind (arith, common_steps))
]

no_one_by : {X : Type 0} (p : X → Bool) (xs : List X) (x : X) (b : Bool) → p x ≡ b → list_any p xs ≡ false → Contains xs x → b ≡ false
no_one_by p xs x false is e h = refl
no_one_by p xs x true is e h = sym (is_one p xs x h is) ∙ e

-- where none passes, no member does
pub no_one : {X : Type 0} (p : X → Bool) (xs : List X) (x : X) → list_any p xs ≡ false → Contains xs x → p x ≡ false
no_one p xs x e h = no_one_by p xs x (p x) refl e h

pub either : (b : Bool) → (b ≡ true) ⊎ (b ≡ false)
either true = inl refl
either false = inr refl

pub neither : (a b : Bool) → (a || b) ≡ false → (a ≡ false) × (b ≡ false)
neither true b e = cc
neither false b e = (refl, e)

-- a name that passes is not among names of which none passes
pub apart : (p : List ℕ → Bool) (names : List (List ℕ)) → list_any p names ≡ false → (q : List ℕ) → p q ≡ true → is_among names q ≡ false
apart p [] e q h = refl
apart p (x ∷ xs) e q h =
    let no = neither (p x) (list_any p xs) e in
    elim (either (bytes_eq q x)) [
      | inl is ↦ absurd (cc (sym (subst (λ y. p y ≡ true) (same q x is) h) ∙ no.0))
      | inr other ↦ rw other (apart p xs no.1 q h)
    ]

pub no_if : (b : Bool) → not b ≡ true → b ≡ false
no_if true e = cc
no_if false e = refl

pub one_false : (a b : Bool) → (a && b) ≡ false → (a ≡ false) ⊎ (b ≡ false)
one_false true b e = inr e
one_false false b e = inl refl

-- no input type changed, or none of those of the values did and none is an input object
unchanged : (changed : List (List ℕ)) (u : DirectiveUse) (empty one : Bool) → empty ≡ (length changed == 0)
    → one ≡ list_any (contains bytes_eq u.values) changed → (not empty && (u.has_input_objects || one)) ≡ false
    → (changed ≡ []) ⊎ ((u.has_input_objects ≡ false) × ((q : List ℕ) → contains bytes_eq u.values q ≡ true → is_among changed q ≡ false))
unchanged changed u true one is_empty is_one e = inl (nil_from_length changed (grind (arith, nat_tests, is_empty)))
unchanged changed u false one is_empty is_one e =
    let r = neither u.has_input_objects one e in
    inr (r.0, apart (contains bytes_eq u.values) changed (sym is_one ∙ r.1))

-- values fit as before if Float is a type as before, and no input type of theirs changed
pub fits : (c : SchemaChange) (u : DirectiveUse) (empty one : Bool) → empty ≡ (length c.inputs == 0)
    → one ≡ list_any (contains bytes_eq u.values) c.inputs → (c.floats || (not empty && (u.has_input_objects || one))) ≡ false → FitsAsBefore c u
fits c u empty one is_empty is_one e =
    let r = neither c.floats (not empty && (u.has_input_objects || one)) e in
    (r.0, unchanged c.inputs u empty one is_empty is_one r.1)

or_five : (a b c d e : Bool) → ((((a || b) || c) || d) || e) ≡ (a || (b || (c || (d || e))))
or_five true b c d e = refl
or_five false true c d e = refl
or_five false false true d e = refl
or_five false false false true e = refl
or_five false false false false e = refl

-- five lists of names were put into a set
pub five_put : (none one two three four five a b c d e : Bool) → none ≡ false → one ≡ (none || a) → two ≡ (one || b) → three ≡ (two || c)
    → four ≡ (three || d) → five ≡ (four || e) → five ≡ (a || (b || (c || (d || e))))
five_put none one two three four five a b c d e is_none is_one is_two is_three is_four is_five =
    rw (is_five, is_four, is_three, is_two, is_one, is_none) (or_five a b c d e)
