use Rattle.std.proofs.Common.{subst, ◌<◌, ◌↔◌, arith}
use Rattle.std.proofs.lemmas.List.{take_all}
use Rattle.gql_cycles.specs.Cover.{IsAbove, IsWithinAny}
use Rattle.gql_cycles.proofs.Covering.{within_more, above_more}
use Rattle.gql_cycles.proofs.cover.cover.Goals as goal

pub loop-range-preserved : goal.loop-range-preserved
loop-range-preserved c = record {
  within = within_more c.args.count c.loop-range.segments.items c.add_cover.new.segments.items
      c.loop-range.invariant.within c.in_ok-add_cover.ensures.within;
  above = above_more c.args.count c.args.ranges.now c.loop-range.range-index _ c.loop-range-test.true c.loop-range.segments.items c.add_cover.new.segments.items
      c.loop-range.invariant.above c.in_ok-add_cover.ensures.above;
}

pub returns-clause-above : goal.returns-clause-above
returns-clause-above c = λ p. subst (λ rs. IsAbove c.args.count c.loop-range.segments.items p ↔ ((p < c.args.count) × IsWithinAny rs p))
    (take_all c.loop-range.range-index c.args.ranges.now (omega (arith, c.loop-range-test.false))) (c.loop-range.invariant.above p)
