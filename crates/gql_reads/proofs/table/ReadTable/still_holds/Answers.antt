use Rattle.std.proofs.Common.{subst, sym}
use Rattle.gql_reads.specs.Tables.{AllHold, Entries}
use Rattle.gql_reads.proofs.Meeting.{types_known}
use Rattle.gql_reads.proofs.table.ReadTable.still_holds.Goals as goal

pub returns-in_err-hold-clause-holds : goal.returns-in_err-hold-clause-holds
returns-in_err-hold-clause-holds g c =
    let F = g.W.World.facts c.args.world.now in
    types_known F _ c.is_still_answer.new.known.entries c.is_still_answer.ensures.known (subst (λ (es : Entries). AllHold F es) (sym c.self.view_is) c.requires.holds)

pub returns-clause-holds : goal.returns-clause-holds
returns-clause-holds g c =
    let F = g.W.World.facts c.args.world.now in
    types_known F _ c.is_still_answer.new.known.entries c.is_still_answer.ensures.known (subst (λ (es : Entries). AllHold F es) (sym c.self.view_is) c.requires.holds)
