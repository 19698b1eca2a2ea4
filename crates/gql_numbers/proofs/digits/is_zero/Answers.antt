use Rattle.std.proofs.Common.{◌≡◌, ◌+◌, ◌*◌, ◌^◌, arith, refl, ap, sym, ◌∙◌, rules, take, get_or, true≢false}
use Rattle.gql_numbers.specs.Decimals.{value}
use Rattle.gql_numbers.proofs.Values.{some_digit, value_more}
use Rattle.gql_numbers.proofs.digits.is_zero.Goals as goal

pub returns-then-digits-i-ne0 : goal.returns-then-digits-i-ne0
returns-then-digits-i-ne0 c = record {
  none = λ h. absurd (true≢false (sym h));
  some = λ h. some_digit c.args.digits.now c.loop-i.i (omega (arith, c.if-digits-i-ne0.true));
}

pub loop-i-preserved : goal.loop-i-preserved
loop-i-preserved c = record {
  count = refl;
  zero = value_more c.args.digits.now c.loop-i.i (omega (arith, c.loop-i-test.true, c.loop-i.invariant.count))
      ∙ ap (λ d. value (take c.loop-i.i c.args.digits.now) + 10 ^ c.loop-i.i * d) (search rules)
      ∙ ap (λ v. v + 10 ^ c.loop-i.i * 0) c.loop-i.invariant.zero ∙ omega arith;
}
