use Rattle.std.proofs.Common.{arith, ◌∙◌}
use Rattle.std.specs.Prelude.{◌==◌}
use Rattle.gql_text.proofs.LineEnds.{count_more, count_rest}
use Rattle.gql_text.proofs.ends.count_of.Goals as goal

pub stretches-preserved : goal.stretches-preserved
stretches-preserved c = record {
  within = omega arith;
  short = omega arith;
  count = count_more (λ b. b == c.args.wanted) c.args.source.now c.stretches.start 192 _ _ c.stretches.invariant.count (c.from-total.ensures ∙ c.count_in.ensures);
}

pub returns : goal.returns
returns c = count_rest (λ b. b == c.args.wanted) c.args.source.now c.stretches.start _ _ c.stretches.invariant.count (c.from.ensures ∙ c.count_in-2.ensures)
