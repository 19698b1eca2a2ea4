use Rattle.std.proofs.Common.{◌≡◌, ◌∙◌, List, rules, subst}
use Rattle.std.proofs.lemmas.List.{take_all}
use Rattle.gql_facts.specs.Worlds.{Facts}
use Rattle.gql_reads.specs.Leading.{AreTypes}
use Rattle.gql_reads.specs.Observations.{Hold, about, about_all}
use Rattle.gql_reads.specs.declared.observation.TypeAnswers.{TypeAnswers}
use Rattle.gql_reads.proofs.Held.{held_more}
use Rattle.gql_reads.proofs.leading.types_still_hold.Goals as goal

pub loop-of_type-preserved : goal.loop-of_type-preserved
loop-of_type-preserved g c =
    let F = g.W.World.facts c.args.world.now in
    let x = c.of_type-item.result in
    let same = c.loop-of_type.invariant.same_facts in
    let is : c.in_ok-now.now ≡ x = search rules in
    record {
      same_facts = c.type_answers.ensures.facts ∙ same;
      same_names = c.type_answers.ensures.names ∙ c.loop-of_type.invariant.same_names;
      same_lent = c.type_answers.ensures.lent ∙ c.loop-of_type.invariant.same_lent;
      known = subst (λ (G : Facts). AreTypes G c.type_answers.new.known.entries) same c.type_answers.ensures.known;
      so_far = held_more about F c.args.types.now c.loop-of_type.of_type-index x c.loop-of_type-test.true c.of_type-item.is c.loop-of_type.invariant.so_far
          (subst (λ (t : TypeAnswers). Hold F (about t)) is (subst (λ (G : Facts). Hold G (about c.in_ok-now.now)) same c.in_ok-now.ensures.hold));
    }

pub returns-clause-hold : goal.returns-clause-hold
returns-clause-hold g c = λ yes. subst (λ (xs : List TypeAnswers). Hold (g.W.World.facts c.args.world.now) (about_all xs)) (take_all _ _ c.loop-of_type-test.false) c.loop-of_type.invariant.so_far
