use Rattle.std.proofs.Common.{◌≡◌, rules, subst, sym}
use Rattle.gql_reads.specs.Leading.{IsLed}
use Rattle.gql_reads.specs.Tables.{IsAnswer}
use Rattle.gql_reads.specs.declared.observation.Answer.{Answer}
use Rattle.gql_reads.proofs.table.ReadTable.kept_answer.Goals as goal

pub returns-clause-answer : goal.returns-clause-answer
returns-clause-answer g c =
    let F = g.W.World.facts c.args.world.now in
    let same : c.get.result.now ≡ c.in-Some.older.now = c.get.ensures in
    let led : IsLed c.get.result.now = subst (λ (a : Answer). IsLed a) (sym same) c.in-Some.ensures in
    let copied : c.get.result.now ≡ c.in_ok-older.older = search rules in
    subst (λ (a : Answer). IsAnswer F c.args.key.now a) copied (c.in_ok-hold.ensures.answer c.if-not-hold.false led)
