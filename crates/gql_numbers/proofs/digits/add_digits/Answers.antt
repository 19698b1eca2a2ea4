use Rattle.std.proofs.Common.{◌≡◌, ◌≤◌, ◌+◌, ◌*◌, ◌^◌, ◌%◌, ◌/◌, ap, sym, ◌∙◌, subst, arith, length, inl, inr, refl, rules}
use Rattle.std.specs.Int.Digits.{AllBelowBase}
use Rattle.gql_numbers.specs.Decimals.{value}
use Rattle.gql_numbers.proofs.Values.{below_end, not_high, pushed, pushed_bound, pushed_high}
use Rattle.gql_numbers.proofs.digits.add_digits.Goals as goal

pub loop-rest-preserved : goal.loop-rest-preserved
loop-rest-preserved c =
    let ds = c.loop-rest.digits.items in
    let rest = c.loop-rest.rest in
    let inv = c.loop-rest.invariant in
    let is = c.in_ok-push.ensures.items in
    record {
      below = subst (AllBelowBase 10) (sym is) (below_end ds (rest % 10) inv.below (omega arith));
      same = ap (λ xs. value xs + 10 ^ length xs * (rest / 10)) is ∙ pushed ds rest ∙ inv.same;
      bound = subst (λ xs. 10 ^ length xs * (rest / 10) ≤ 10 ^ length c.args.digits.now.items * c.args.number) (sym is)
          (pushed_bound ds rest (10 ^ length c.args.digits.now.items * c.args.number) inv.bound);
      high = inr (subst (λ xs. 10 ^ length xs ≤ 10 * (10 ^ length c.args.digits.now.items * c.args.number)) (sym is)
          (pushed_high ds rest (10 ^ length c.args.digits.now.items * c.args.number) (search rules) inv.bound));
    }

pub returns-clause-none : goal.returns-clause-none
returns-clause-none c none = not_high (10 ^ length c.args.digits.now.items) c.args.number c.loop-rest.digits.items none c.loop-rest.invariant.high
