use Rattle.std.proofs.Common.{◌∙◌, inl, inr, subst, sym, List, Contains}
use Rattle.std.proofs.lemmas.List.{take_all}
use Rattle.gql_facts.specs.Worlds.{Facts}
use Rattle.gql_readers.specs.Indexes.{Reading}
use Rattle.gql_verdict.specs.Marks.{AreBroken, IsDoubtCompared}
use Rattle.gql_verdict.proofs.Marking.{keep_doubted, unmarked_doubted}
use Rattle.gql_verdict.proofs.Seen.{seen_more}
use Rattle.gql_verdict.proofs.marks.compare_all.Goals as goal

pub loop-entry-preserved : goal.loop-entry-preserved
loop-entry-preserved g c =
    let F = g.W.World.facts c.args.world.now in
    let S = c.args.slots.now in
    let D = c.args.doubt.now in
    let same = c.loop-entry.invariant.same_facts in
    let after = c.compare_doubted.new.marks in
    record {
      same_facts = c.compare_doubted.ensures.facts ∙ same;
      same_names = c.compare_doubted.ensures.names ∙ c.loop-entry.invariant.same_names;
      same_lent = c.compare_doubted.ensures.lent ∙ c.loop-entry.invariant.same_lent;
      broken = subst (λ (G : Facts). AreBroken G S after) same c.compare_doubted.ensures.broken;
      compared = λ e m. elim (seen_more c.entries-entry-items.result.now c.loop-entry.entry-index c.entry-item.result c.loop-entry-test.true c.entry-item.is e m) [
        | inl o ↦ keep_doubted F D S c.loop-entry.marks after e c.compare_doubted.ensures.kept (c.loop-entry.invariant.compared e o)
        | inr q ↦ subst (λ (z : Reading). IsDoubtCompared F D S after z) (c.get.ensures ∙ q) (subst (λ (G : Facts). IsDoubtCompared G D S after c.get.result.now) same c.in_ok-compare_doubted.ensures.compared)
      ];
    }

pub returns-clause-marks : goal.returns-clause-marks
returns-clause-marks g c = λ touched same.
    let all = take_all _ _ c.loop-entry-test.false ∙ c.entries-entry-items.ensures in
    record {
      broken = c.loop-entry.invariant.broken;
      hold = unmarked_doubted (g.W.World.facts c.args.world.now) c.args.slots.now c.args.index.now c.requires.shelved touched c.args.doubt.now same c.loop-entry.marks
          (λ e m. c.loop-entry.invariant.compared e (subst (λ (es : List Reading). Contains es e) (sym all) m));
    }
