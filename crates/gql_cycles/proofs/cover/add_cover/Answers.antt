use Rattle.std.proofs.Common.{rules}
use Rattle.gql_cycles.proofs.Covering.{covering_more, covering_all}
use Rattle.gql_cycles.proofs.cover.add_cover.Goals as goal

pub levels-preserved : goal.levels-preserved
levels-preserved c = covering_more c.args.count c.args.segments.now.items _ _ c.levels.segments.items c.add_if_odd.new.segments.items c.add_if_odd-in-levels.new.segments.items c.levels.left c.levels.right
    c.levels-test.true c.levels.invariant (search rules) (search rules)

pub returns-clause-above : goal.returns-clause-above
returns-clause-above c = covering_all c.args.count c.args.segments.now.items c.levels.segments.items c.args.range.now c.levels.left c.levels.right c.levels-test.false
    (rw (← c.min.ensures, ← c.min-2.ensures) c.levels.invariant)
