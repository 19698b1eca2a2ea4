-- Sets of owners, with one owner more.
use Rattle.std.proofs.Common.{◌≡◌, ◌↔◌, ◌+◌, ◌<◌, ℕ, List, [], ◌∷◌, ◌++◌, Bool, true, false, Option, Some, None, length, get_or, take, map, refl, sym, ap, subst, ◌∙◌, Contains, IsTrue, cond, inl, inr}
use Rattle.std.specs.Prelude.{◌||◌}
use Rattle.std.specs.List.{list_any}
use Rattle.std.proofs.lemmas.List.{take_more}
use Rattle.std.proofs.lemmas.List.Folds.{list_any-append}
use Rattle.gql_ast.specs.declared.fault.Fault.{Fault}
use Rattle.gql_ast.specs.declared.fault.FilePlace.{FilePlace}
use Rattle.gql_serving.specs.Owners.{is_owner, owned_at, same_place}
use Rattle.gql_serving.specs.SamePlaces.{same_place_equiv}

or_false : (b : Bool) → b || false ≡ b
or_false true = refl
or_false false = refl

or_true : (b : Bool) → b || true ≡ true
or_true true = refl
or_true false = refl

-- one element more that may pass a test
pub any_more : {A : Type 0} (test : A → Bool) (xs : List A) (i : ℕ) (x : A) → i < length xs → x ≡ get_or xs i x
    → list_any test (take (i + 1) xs) ≡ list_any test (take i xs) || test x
any_more test xs i x inside item =
    ap (list_any test) (take_more xs i x inside) ∙ list_any-append test (take i xs) (get_or xs i x ∷ [])
    ∙ ap (λ b. list_any test (take i xs) || b) (or_false (test (get_or xs i x)) ∙ ap test (sym item))

-- a set that has one place more
pub put : (hit old new before after : Bool) → new ≡ cond hit true old → old ≡ before → after ≡ before || hit → new ≡ after
put true old new before after is same more = is ∙ sym (more ∙ or_true before)
put false old new before after is same more = is ∙ same ∙ sym (more ∙ or_false before)

-- one owner more
pub one_place_more : (places : List FilePlace) (i : ℕ) (x p : FilePlace) (old new : Bool) → i < length places → x ≡ get_or places i x
    → new ≡ cond (same_place x p) true old → old ≡ list_any (same_place p) (take i places)
    → new ≡ list_any (same_place p) (take (i + 1) places)
one_place_more places i x p old new inside item is before =
    put (same_place x p) old new (list_any (same_place p) (take i places)) _ is before
    (any_more (same_place p) places i x inside item ∙ ap (λ b. list_any (same_place p) (take i places) || b) (same_place_equiv.symm p x))

-- the owner of one fault more
pub one_fault_more : (faults : List Fault) (i : ℕ) (f : Fault) (p : FilePlace) (old new : Bool) → i < length faults → f ≡ get_or faults i f
    → new ≡ is_owner p f || old → old ≡ list_any (is_owner p) (take i faults)
    → new ≡ list_any (is_owner p) (take (i + 1) faults)
one_fault_more faults i f p old new inside item is before =
    is ∙ turned (is_owner p f) old ∙ ap (λ b. b || is_owner p f) before ∙ sym (any_more (is_owner p) faults i f inside item)
  where
    turned : (a b : Bool) → a || b ≡ b || a
    turned true b = sym (or_true b)
    turned false b = sym (or_false b)

-- the owner of a fault that has one
pub put_owner : (f : Fault) (q p : FilePlace) (old new : Bool) → f.owner ≡ Some q → new ≡ cond (same_place q p) true old → new ≡ is_owner p f || old
put_owner f q p old new owner is =
    is ∙ by (same_place q p) ∙ ap (λ b. b || old) (sym (ap (owned_at p) owner ∙ same_place_equiv.symm p q))
  where
    by : (hit : Bool) → cond hit true old ≡ hit || old
    by true = refl
    by false = refl

-- a fault that has no owner
pub put_none : (f : Fault) (p : FilePlace) (old : Bool) → f.owner ≡ None → old ≡ is_owner p f || old
put_none f p old none = ap (λ b. b || old) (sym (ap (owned_at p) none))
