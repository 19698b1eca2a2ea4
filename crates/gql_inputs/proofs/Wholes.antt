-- Parsing succeeds at just the whole numbers in range.
use Rattle.std.proofs.Common.{true≢false, Some, None, if◌then◌else◌, ◌≡◌, ◌^◌, ◌<◌, ◌≤◌, ◌==◌, ◌&&◌, ℕ, ℤ, List, length, drop, Bool, true, false, refl, sym, ap, ◌∙◌, arith, Ok, Err, Result, nat_lt, nat_le, slice_index}
use Rattle.std.specs.Int.{Width}
use mir.Val.{hbits}
use Rattle.std.specs.Result.{OkIff, is_ok, result_ok}
use Rattle.std.specs.Str.{all_ascii_digits}
use Rattle.std.specs.Str.Parse.{digits_value, ParsesSigned}
use Rattle.std.proofs.lemmas.Bool.Decides.{nat_tests}
use Rattle.std.proofs.lemmas.Str.Parse.{IsNumeralModel, numerals_by_value, tells_all_ascii_digits, parse_signed_minus, parse_signed_plain, parse_signed_plus}
use Rattle.gql_inputs.specs.Numbers.{is_whole}

own : IsNumeralModel (λ ds. all_ascii_digits ds ≡ true) (digits_value 10)
own = numerals_by_value _ tells_all_ascii_digits

decided : {E : Type 0} (r : Result ℤ E) (Q : Type 0) (x : ℤ) (b : Bool) → OkIff r Q x → (Q → b ≡ true) → (b ≡ true → Q) → is_ok r ≡ b
decided (Ok v) Q x b h to from = sym (to h.0)
decided (Err e) Q x true h to from = absurd (h (from refl))
decided (Err e) Q x false h to from = refl

-- a numeral up to a bound, or below it
at_most : (a : Bool) (n v most : ℕ) → (a ≡ true) × (0 < n) × (v ≤ most) → nat_lt 0 n && (a && nat_le v most) ≡ true
at_most a n v most h = grind (arith, nat_tests)

at_most_back : (a : Bool) (n v most : ℕ) → nat_lt 0 n && (a && nat_le v most) ≡ true → (a ≡ true) × (0 < n) × (v ≤ most)
at_most_back a n v most h = grind (arith, nat_tests)

below : (a : Bool) (n v most : ℕ) → (a ≡ true) × (0 < n) × (v < most) → nat_lt 0 n && (a && nat_lt v most) ≡ true
below a n v most h = grind (arith, nat_tests)

below_back : (a : Bool) (n v most : ℕ) → nat_lt 0 n && (a && nat_lt v most) ≡ true → (a ≡ true) × (0 < n) × (v < most)
below_back a n v most h = grind (arith, nat_tests)

module _ {E : Type 0} (w : Width) (bs : List ℕ) (r : Result ℤ E) (h : ParsesSigned w 10 bs r) where
  minus : slice_index bs 0 ≡ 45 → is_ok r ≡ is_whole (hbits w) bs
  minus e = decided r _ _ (is_whole (hbits w) bs) (parse_signed_minus own w bs r h e)
      (λ q. is ∙ at_most _ _ _ _ q) (λ t. at_most_back _ _ _ _ (sym is ∙ t)) where
        is : is_whole (hbits w) bs ≡ nat_lt 0 (length (drop 1 bs)) && (all_ascii_digits (drop 1 bs) && nat_le (digits_value 10 (drop 1 bs)) (2 ^ hbits w))
        is = rw e refl

  plus : slice_index bs 0 ≡ 43 → is_ok r ≡ is_whole (hbits w) bs
  plus e = decided r _ _ (is_whole (hbits w) bs) (parse_signed_plus own w bs r h e)
      (λ q. is ∙ below _ _ _ _ q) (λ t. below_back _ _ _ _ (sym is ∙ t)) where
        is : is_whole (hbits w) bs ≡ nat_lt 0 (length (drop 1 bs)) && (all_ascii_digits (drop 1 bs) && nat_lt (digits_value 10 (drop 1 bs)) (2 ^ hbits w))
        is = rw e refl

  plain : (slice_index bs 0 == 43) ≡ false → (slice_index bs 0 == 45) ≡ false → is_ok r ≡ is_whole (hbits w) bs
  plain e f = decided r _ _ (is_whole (hbits w) bs) (parse_signed_plain own w bs r h (grind (arith, nat_tests)) (grind (arith, nat_tests)))
      (λ q. is ∙ below _ _ _ _ q) (λ t. below_back _ _ _ _ (sym is ∙ t)) where
        is : is_whole (hbits w) bs ≡ nat_lt 0 (length bs) && (all_ascii_digits bs && nat_lt (digits_value 10 bs) (2 ^ hbits w))
        is = rw (e, f) refl

  by_sign : (m p : Bool) → (slice_index bs 0 == 45) ≡ m → (slice_index bs 0 == 43) ≡ p → is_ok r ≡ is_whole (hbits w) bs
  by_sign true p e f = minus (grind (arith, nat_tests))
  by_sign false true e f = plus (grind (arith, nat_tests))
  by_sign false false e f = plain f e

  pub whole : is_ok r ≡ is_whole (hbits w) bs
  whole = by_sign (slice_index bs 0 == 45) (slice_index bs 0 == 43) refl refl

-- what is read, where it is in range
pub read : {E : Type 0} (r : Result ℤ E) (Q : Type 0) (x : ℤ) (b : Bool) → OkIff r Q x → is_ok r ≡ b → result_ok r ≡ (if b then Some x else None)
read (Ok z) Q x true h is = ap Some h.1
read (Ok z) Q x false h is = absurd (true≢false is)
read (Err e) Q x true h is = absurd (true≢false (sym is))
read (Err e) Q x false h is = refl
