use Rattle.std.proofs.Common.{get_or, ◌∙◌, arith}
use Rattle.gql_cycles.specs.declared.walk.State.TheVariants.{New}
use Rattle.gql_cycles.proofs.Closed.{between_none, between_more, between_all}
use Rattle.gql_cycles.proofs.walk.close.Goals as goal

pub loop-i-init : goal.loop-i-init
loop-i-init c = λ v. between_none c.args.start c.args.mark (get_or c.args.states.now v New)

pub loop-i-preserved : goal.loop-i-preserved
loop-i-preserved c = between_more c.args.states.now c.loop-i.states c.args.path.now c.args.start c.loop-i.i c.args.mark c.loop-i.auto.i c.loop-i-test.true c.loop-i.auto.states
    c.requires.there (c.requires.placed c.loop-i.i c.loop-i-test.true) c.loop-i.invariant

pub returns : goal.returns
returns c = λ v. c.loop-i.invariant v ∙ between_all c.args.start c.args.mark c.loop-i.i (get_or c.args.states.now v New) (λ i e. omega (arith, (c.requires.there v i e).0, c.loop-i-test.false))
