use Rattle.std.specs.Prelude.{MatchBool}
use Rattle.std.proofs.Common.{◌∙◌, Bool, List, subst}
use Rattle.std.proofs.lemmas.List.{take_all}
use Rattle.gql_facts.specs.Worlds.{Facts}
use Rattle.gql_reads.specs.Observations.{Hold, IsBroken, about, about_all}
use Rattle.gql_reads.specs.declared.observation.TypeAnswers.{TypeAnswers}
use Rattle.gql_reads.proofs.Held.{broken_one, held_more}
use Rattle.gql_reads.proofs.holds.types_hold.Goals as goal

pub returns-then-not-is_same-clause-answer : goal.returns-then-not-is_same-clause-answer
returns-then-not-is_same-clause-answer g c =
    let F = g.W.World.facts c.args.world.now in
    let G = g.W.World.facts c.loop-of_type.world in
    let x = c.of_type-item.result in
    let broken : IsBroken G (about c.get.result.now) = subst (λ (b : Bool). MatchBool b (Hold G (about c.get.result.now)) (IsBroken G (about c.get.result.now))) c.if-not-is_same.true c.in_ok-is_same.ensures.answer in
    broken_one about F c.args.types.now c.loop-of_type.of_type-index x c.loop-of_type-test.true c.of_type-item.is
    (subst (λ (t : TypeAnswers). IsBroken F (about t)) c.get.ensures (subst (λ (H : Facts). IsBroken H (about c.get.result.now)) c.loop-of_type.invariant.same_facts broken))

pub loop-of_type-preserved : goal.loop-of_type-preserved
loop-of_type-preserved g c =
    let F = g.W.World.facts c.args.world.now in
    let G = g.W.World.facts c.loop-of_type.world in
    let x = c.of_type-item.result in
    let same = c.loop-of_type.invariant.same_facts in
    let hold : Hold G (about c.get.result.now) = subst (λ (b : Bool). MatchBool b (Hold G (about c.get.result.now)) (IsBroken G (about c.get.result.now))) c.if-not-is_same.false c.in_ok-is_same.ensures.answer in
    record {
      same_facts = c.type_holds.ensures.facts ∙ same;
      same_names = c.type_holds.ensures.names ∙ c.loop-of_type.invariant.same_names;
      same_lent = c.type_holds.ensures.lent ∙ c.loop-of_type.invariant.same_lent;
      so_far = held_more about F c.args.types.now c.loop-of_type.of_type-index x c.loop-of_type-test.true c.of_type-item.is c.loop-of_type.invariant.so_far
          (subst (λ (t : TypeAnswers). Hold F (about t)) c.get.ensures (subst (λ (H : Facts). Hold H (about c.get.result.now)) same hold));
    }

pub returns-clause-answer : goal.returns-clause-answer
returns-clause-answer g c = subst (λ (xs : List TypeAnswers). Hold (g.W.World.facts c.args.world.now) (about_all xs)) (take_all _ _ c.loop-of_type-test.false) c.loop-of_type.invariant.so_far
