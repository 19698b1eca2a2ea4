use Rattle.std.specs.Prelude.{MatchBool}
use Rattle.std.proofs.Common.{◌≡◌, ◌∙◌, Bool, List, rules, subst, sym, true}
use Rattle.std.proofs.lemmas.List.{take_all}
use Rattle.gql_facts.specs.Worlds.{Facts}
use Rattle.gql_reads.specs.Observations.{Hold, IsBroken, observed, observed_in}
use Rattle.gql_reads.specs.declared.observation.Answer.{Answer}
use Rattle.gql_reads.proofs.Held.{broken_one, held_more}
use Rattle.gql_pairs.specs.Doubts.{HoldUndoubted}
use Rattle.gql_pairs.proofs.Doubting.{held_answer, undoubted_holds}
use Rattle.gql_pairs.proofs.holds.answers_still_hold.Goals as goal

pub answer_still_holds-requires : goal.answer_still_holds-requires
answer_still_holds-requires g c =
    let F = g.W.World.facts c.args.world.now in
    let x = c.answer-item.result in
    subst (λ (G : Facts). HoldUndoubted G c.args.doubt.now (observed c.get.result.now)) (sym c.loop-answer.invariant.same_facts)
    (subst (λ (a : Answer). HoldUndoubted F c.args.doubt.now (observed a)) (sym c.get.ensures)
    (held_answer F c.args.doubt.now c.args.answers.now x (c.loop-answer.answer-index, c.loop-answer-test.true, sym c.answer-item.is) c.requires))

pub returns-then-not-hold-clause-answer : goal.returns-then-not-hold-clause-answer
returns-then-not-hold-clause-answer g c =
    let F = g.W.World.facts c.args.world.now in
    let G = g.W.World.facts c.loop-answer.world in
    let x = c.answer-item.result in
    let broken : IsBroken G (observed c.get.result.now) = subst (λ (b : Bool). MatchBool b (Hold G (observed c.get.result.now)) (IsBroken G (observed c.get.result.now))) c.if-not-hold.true c.in_ok-hold.ensures.answer in
    broken_one observed F c.args.answers.now c.loop-answer.answer-index x c.loop-answer-test.true c.answer-item.is
    (subst (λ (t : Answer). IsBroken F (observed t)) c.get.ensures (subst (λ (H : Facts). IsBroken H (observed c.get.result.now)) c.loop-answer.invariant.same_facts broken))

pub loop-answer-preserved : goal.loop-answer-preserved
loop-answer-preserved g c =
    let F = g.W.World.facts c.args.world.now in
    let G = g.W.World.facts c.loop-answer.world in
    let x = c.answer-item.result in
    let same = c.loop-answer.invariant.same_facts in
    let held : Hold G (observed c.get.result.now) = subst (λ (b : Bool). MatchBool b (Hold G (observed c.get.result.now)) (IsBroken G (observed c.get.result.now))) c.if-not-hold.false c.in_ok-hold.ensures.answer in
    record {
      same_facts = c.answer_still_holds.ensures.facts ∙ same;
      same_names = c.answer_still_holds.ensures.names ∙ c.loop-answer.invariant.same_names;
      same_lent = c.answer_still_holds.ensures.lent ∙ c.loop-answer.invariant.same_lent;
      so_far = held_more observed F c.args.answers.now c.loop-answer.answer-index x c.loop-answer-test.true c.answer-item.is c.loop-answer.invariant.so_far
          (subst (λ (t : Answer). Hold F (observed t)) c.get.ensures (subst (λ (H : Facts). Hold H (observed c.get.result.now)) same held));
    }

pub returns-clause-answer : goal.returns-clause-answer
returns-clause-answer g c = subst (λ (xs : List Answer). Hold (g.W.World.facts c.args.world.now) (observed_in xs)) (take_all _ _ c.loop-answer-test.false) c.loop-answer.invariant.so_far

pub returns-then-is_of_none-clause-answer : goal.returns-then-is_of_none-clause-answer
returns-then-is_of_none-clause-answer g c =
    let none : c.is_of_none.result ≡ true = search rules in
    undoubted_holds (g.W.World.facts c.args.world.now) c.args.doubt.now (observed_in c.args.answers.now) c.requires (c.is_of_none.ensures none)
