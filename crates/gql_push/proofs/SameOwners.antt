-- Lists of owners that are the same, one owner after the other.
use Rattle.std.proofs.Common.{ℕ, zero, suc, ◌+◌, ◌<◌, ◌≡◌, ◌≢◌, ◌∙◌, List, [], ◌∷◌, Bool, true, false, ◌&&◌, refl, sym, ap, length, drop, get_or, slice_get, arith}
use Rattle.gql_push.specs.Unserved.{are_same, is_same, is_same_if_some}
use Rattle.gql_push.specs.declared.report.FaultOwner.{FaultOwner}

and_false : (b : Bool) → b && false ≡ false
and_false true = refl
and_false false = refl

-- lists of two lengths
pub not_same : (these those : List FaultOwner) → length these ≢ length those → are_same these those ≡ false
not_same [] [] differ = absurd (differ refl)
not_same [] (p ∷ those) differ = refl
not_same (o ∷ these) [] differ = refl
not_same (o ∷ these) (p ∷ those) differ =
    ap (λ b. is_same o p && b) (not_same these those (λ e. differ (ap (λ n. suc n) e))) ∙ and_false (is_same o p)

-- the owners at an index, and those after it
at_index : (these those : List FaultOwner) (i : ℕ) (o : FaultOwner) → length these ≡ length those → i < length these → o ≡ get_or these i o
    → are_same (drop i these) (drop i those) ≡ is_same_if_some o (slice_get those i) && are_same (drop (i + 1) these) (drop (i + 1) those)
at_index [] those i o long within is = absurd (omega arith)
at_index (x ∷ these) [] i o long within is = absurd (omega arith)
at_index (x ∷ these) (y ∷ those) zero o long within is = ap (λ z. is_same z y && are_same these those) (sym is)
at_index (x ∷ these) (y ∷ those) (suc i) o long within is =
    let one : suc i + 1 ≡ suc (i + 1) = omega arith in
    at_index these those i o (omega arith) (omega arith) is
    ∙ ap (λ n. is_same_if_some o (slice_get those i) && are_same (drop n (x ∷ these)) (drop n (y ∷ those))) (sym one)

-- one owner more that is the same
pub same_more : (these those : List FaultOwner) (i : ℕ) (o : FaultOwner) → length these ≡ length those → i < length these → o ≡ get_or these i o
    → true ≡ is_same_if_some o (slice_get those i) → are_same these those ≡ are_same (drop i these) (drop i those) → are_same these those ≡ are_same (drop (i + 1) these) (drop (i + 1) those)
same_more these those i o long within is same before =
    before ∙ at_index these those i o long within is ∙ ap (λ b. b && are_same (drop (i + 1) these) (drop (i + 1) those)) (sym same)

-- an owner that is another one
pub not_same_at : (these those : List FaultOwner) (i : ℕ) (o : FaultOwner) → length these ≡ length those → i < length these → o ≡ get_or these i o
    → false ≡ is_same_if_some o (slice_get those i) → are_same these those ≡ are_same (drop i these) (drop i those) → are_same these those ≡ false
not_same_at these those i o long within is other before =
    before ∙ at_index these those i o long within is ∙ ap (λ b. b && are_same (drop (i + 1) these) (drop (i + 1) those)) (sym other)

same_ends : (these those : List FaultOwner) → length these ≡ length those → are_same (drop (length these) these) (drop (length these) those) ≡ true
same_ends [] [] long = refl
same_ends [] (p ∷ those) long = absurd (omega arith)
same_ends (o ∷ these) [] long = absurd (omega arith)
same_ends (o ∷ these) (p ∷ those) long = same_ends these those (omega arith)

-- no owner is left
pub all_same : (these those : List FaultOwner) (i : ℕ) → length these ≡ length those → i ≡ length these → are_same these those ≡ are_same (drop i these) (drop i those) → are_same these those ≡ true
all_same these those i long end before = before ∙ ap (λ n. are_same (drop n these) (drop n those)) end ∙ same_ends these those long
