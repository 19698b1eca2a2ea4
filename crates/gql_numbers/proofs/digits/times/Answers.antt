use Rattle.std.proofs.Common.{◌≡◌, ◌≤◌, ◌+◌, ◌*◌, ◌^◌, ◌%◌, ◌/◌, arith, refl, ap, sym, ◌∙◌, subst, rules, length, take, get_or}
use Rattle.std.specs.Int.Digits.{AllBelowBase}
use Rattle.gql_numbers.specs.Decimals.{value}
use Rattle.gql_numbers.proofs.Values.{below_end, carried_less, digit_less, length_end, multiplied, product_high, whole}
use Rattle.gql_numbers.proofs.digits.times.Goals as goal

pub loop-i-preserved : goal.loop-i-preserved
loop-i-preserved c =
    let ps = c.loop-i.product.items in
    let ds = c.args.digits.now in
    let i = c.loop-i.i in
    let inv = c.loop-i.invariant in
    let is = c.in_ok-push.ensures.items in
    let sum = get_or ds i 0 * c.args.factor + c.loop-i.carry in
    record {
      count = refl;
      long = ap length is ∙ length_end ps (sum % 10) ∙ omega (arith, inv.long);
      below = subst (AllBelowBase 10) (sym is) (below_end ps (sum % 10) inv.below (omega arith));
      same = ap (λ xs. value xs + 10 ^ (i + 1) * (sum / 10)) is
          ∙ multiplied ps ds i c.args.factor c.loop-i.carry inv.long (omega (arith, c.loop-i-test.true, inv.count)) inv.same;
      carry = carried_less (get_or ds i 0) c.args.factor c.loop-i.carry (digit_less ds i c.requires.digits.below (omega (arith, c.loop-i-test.true, inv.count))) inv.carry;
    }

pub returns : goal.returns
returns c =
    let ps = c.loop-i.product.items in
    let ds = c.args.digits.now in
    let inv = c.loop-i.invariant in
    let done : value ps + 10 ^ length ps * c.loop-i.carry ≡ value ds * c.args.factor =
    whole ps ds c.loop-i.i c.args.factor c.loop-i.carry inv.long (omega (arith, c.loop-i-test.false, inv.count)) inv.same in
    record {
      below = c.in_ok-add_digits.ensures.below;
      number = c.in_ok-add_digits.ensures.value ∙ done;
      highest = product_high ps ds c.add_digits.new.digits.items c.args.factor c.loop-i.carry (omega (arith, inv.long, inv.count, c.loop-i.auto.i-end)) c.requires.factor.0 c.requires.digits.highest done
          c.in_ok-add_digits.ensures.highest c.in_ok-add_digits.ensures.none;
    }
