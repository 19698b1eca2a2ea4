use Rattle.std.proofs.Common.{ℕ, List, Contains, get_or, subst}
use Rattle.std.proofs.lemmas.List.{get_or_default, take_all}
use Rattle.gql_clashes.proofs.Members.{take_kept}
use Rattle.gql_merge.proofs.CleanNames.{numbers_in}
use Rattle.gql_merge.proofs.searching.set_of.Goals as goal

pub loop-number-preserved : goal.loop-number-preserved
loop-number-preserved c =
    let u : ℕ = get_or c.args.numbers.now c.loop-number.number-index 0 in
    let is = get_or_default c.args.numbers.now c.loop-number.number-index u 0 c.loop-number-test.true in
    numbers_in c.loop-number.set.keys c.insert.new.self.keys _ u c.in_ok-insert.ensures.keys c.loop-number.invariant _
    (λ n h. take_kept c.args.numbers.now c.loop-number.number-index u n c.loop-number-test.true is h)

pub returns : goal.returns
returns c = λ n h. subst (λ (l : List ℕ). Contains l n) (take_all c.loop-number.number-index c.args.numbers.now c.loop-number-test.false) (c.loop-number.invariant n h)
