use Rattle.std.proofs.Common.{◌≡◌, Some, rules, subst, sym}
use Rattle.gql_reads.specs.Tables.{AllHold, Entries, IsAnswer, answer_at}
use Rattle.gql_reads.specs.declared.observation.Answer.{Answer}
use Rattle.gql_reads.proofs.Meeting.{answer_added}
use Rattle.gql_reads.proofs.table.ReadTable.answer.Goals as goal

pub returns-in-Some-clause-answer : goal.returns-in-Some-clause-answer
returns-in-Some-clause-answer g c =
    let there : answer_at c.args.self.now c.args.key ≡ Some c.in-Some.known = search rules in
    c.requires.holds.answers c.args.key c.in-Some.known there

pub returns-in_err-add_answer-clause-holds : goal.returns-in_err-add_answer-clause-holds
returns-in_err-add_answer-clause-holds g c = subst (λ (es : Entries). AllHold (g.W.World.facts c.args.world.now) es) (sym c.in_err-add_answer.ensures.err) c.kept_or_new.ensures.holds

pub returns-clause-holds : goal.returns-clause-holds
returns-clause-holds g c =
    let F = g.W.World.facts c.args.world.now in
    let is : IsAnswer F c.args.key c.in_ok-answer.answer = subst (λ k. IsAnswer F k c.in_ok-answer.answer) c.in_ok-copy.ensures c.in_ok-answer.ensures.answer in
    let same : c.in_ok-answer.answer ≡ c.in_ok-clone.field-0 = search rules in
    answer_added F c.kept_or_new.new.self c.add_answer.new.self c.args.key c.in_ok-clone.field-0 c.in_ok-add_answer.ensures.here c.in_ok-add_answer.ensures.others
    c.add_answer.ensures.parts c.add_answer.ensures.types (subst (λ (a : Answer). IsAnswer F c.args.key a) same is) c.kept_or_new.ensures.holds
