use Rattle.std.proofs.Common.{◌≡◌, ◌*◌, ◌^◌, arith, ap, ◌∙◌, subst, IfOk}
use Rattle.gql_numbers.specs.Decimals.{AreDigitsOf, value}
use Rattle.gql_numbers.proofs.OfTexts.{large_shift, small_shift}
use Rattle.gql_numbers.proofs.exact.exact_digits.Goals as goal

pub returns-then-parts-lt1074 : goal.returns-then-parts-lt1074
returns-then-parts-lt1074 c = subst (λ n. IfOk c.with_zeros.result (λ digits. AreDigitsOf n digits.items))
    (ap (λ xs. value xs * 10 ^ c.args.parts.shift) c.as_slice.ensures.value
    ∙ small_shift 1074 c.args.parts.significand c.args.parts.shift (value c.in_ok-digits.digits.items) (value c.in_ok-digits-2.digits.items) (omega (arith, c.if-parts-lt1074.true))
    c.in_ok-digits.ensures.number c.in_ok-digits-2.ensures.number) c.with_zeros.ensures

pub returns : goal.returns
returns c = subst (λ n. IfOk c.with_zeros-2.result (λ digits. AreDigitsOf n digits.items))
    (ap (λ xs. value xs * 10 ^ 1074) c.as_slice-2.ensures.value
    ∙ large_shift 1074 c.args.parts.significand c.args.parts.shift (value c.in_ok-digits.digits.items) (value c.in_ok-digits-3.digits.items) (omega (arith, c.if-parts-lt1074.false))
    c.in_ok-digits.ensures.number c.in_ok-digits-3.ensures.number) c.with_zeros-2.ensures
