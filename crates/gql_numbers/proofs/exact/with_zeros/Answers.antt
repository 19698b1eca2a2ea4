use Rattle.std.proofs.Common.{◌≡◌, ◌++◌, ◌*◌, ◌^◌, arith, ap, ◌∙◌, sym, subst, replicate}
use Rattle.gql_numbers.specs.Decimals.{AreDigitsOf, value}
use Rattle.gql_numbers.proofs.OfTexts.{zeros_digits}
use Rattle.gql_numbers.proofs.exact.with_zeros.Goals as goal

pub returns : goal.returns
returns c =
    let all : c.loop.counter ≡ c.args.count = omega (arith, c.loop-test.false, c.loop.auto.counter-end) in
    subst (AreDigitsOf (value c.args.digits.now * 10 ^ c.args.count))
    (sym (c.in_ok-extend_from_slice.ensures.items ∙ ap (λ xs. xs ++ c.args.digits.now) (c.loop.invariant ∙ ap (λ n. replicate n 0) all)))
    (zeros_digits c.args.digits.now c.args.count c.requires.digits)
