use Rattle.std.proofs.Common.{◌≡◌, ◌∙◌, List, rules, subst, sym}
use Rattle.gql_facts.specs.Worlds.{Facts}
use Rattle.gql_reads.specs.Observations.{Hold, IsBroken, observed_in}
use Rattle.gql_reads.specs.declared.observation.Answer.{Answer}
use Rattle.gql_pairs.specs.Doubts.{HoldUndoubted}
use Rattle.gql_pairs.proofs.Doubting.{held_part}
use Rattle.gql_pairs.proofs.Holding.{part_broken, part_more, parts_all}
use Rattle.gql_pairs.proofs.holds.parts_hold.Goals as goal

pub answers_still_hold-requires : goal.answers_still_hold-requires
answers_still_hold-requires g c =
    let F = g.W.World.facts c.args.world.now in
    let p = c.part-item.result in
    let seen : c.answers.result.now ≡ p.seen = search rules in
    subst (λ (G : Facts). HoldUndoubted G c.args.doubt.now (observed_in c.answers.result.now)) (sym c.loop-part.invariant.same_facts)
    (subst (λ (xs : List Answer). HoldUndoubted F c.args.doubt.now (observed_in xs)) (sym seen)
    (held_part F c.args.doubt.now c.args.parts.now p (c.loop-part.part-index, c.loop-part-test.true, sym c.part-item.is) c.requires))

pub returns-then-not-hold-clause-answer : goal.returns-then-not-hold-clause-answer
returns-then-not-hold-clause-answer g c =
    let F = g.W.World.facts c.args.world.now in
    let p = c.part-item.result in
    let seen : c.answers.result.now ≡ p.seen = search rules in
    let broken : IsBroken (g.W.World.facts c.loop-part.world) (observed_in c.answers.result.now) = search rules in
    part_broken F c.args.parts.now c.loop-part.part-index p c.loop-part-test.true c.part-item.is
    (subst (λ (G : Facts). IsBroken G (observed_in p.seen)) c.loop-part.invariant.same_facts (subst (λ (xs : List Answer). IsBroken (g.W.World.facts c.loop-part.world) (observed_in xs)) seen broken))

pub loop-part-preserved : goal.loop-part-preserved
loop-part-preserved g c =
    let F = g.W.World.facts c.args.world.now in
    let p = c.part-item.result in
    let same = c.loop-part.invariant.same_facts in
    let seen : c.answers.result.now ≡ p.seen = search rules in
    let hold : Hold (g.W.World.facts c.loop-part.world) (observed_in c.answers.result.now) = search rules in
    record {
      same_facts = c.answers_still_hold.ensures.facts ∙ same;
      same_names = c.answers_still_hold.ensures.names ∙ c.loop-part.invariant.same_names;
      same_lent = c.answers_still_hold.ensures.lent ∙ c.loop-part.invariant.same_lent;
      so_far = part_more F c.args.parts.now c.loop-part.part-index p c.loop-part-test.true c.part-item.is c.loop-part.invariant.so_far
          (subst (λ (G : Facts). Hold G (observed_in p.seen)) same (subst (λ (xs : List Answer). Hold (g.W.World.facts c.loop-part.world) (observed_in xs)) seen hold));
    }

pub returns-clause-answer : goal.returns-clause-answer
returns-clause-answer g c = parts_all (g.W.World.facts c.args.world.now) c.args.parts.now c.loop-part.part-index c.loop-part-test.false c.loop-part.invariant.so_far
