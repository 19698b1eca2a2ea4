use Rattle.std.proofs.Common.{take}
use Rattle.gql_verdict.specs.Marks.{gone}
use Rattle.gql_verdict.specs.Readings.{readers}
use Rattle.gql_verdict.proofs.LedTo.{came_one}
use Rattle.gql_verdict.proofs.indexing.add_step.Goals as goal

pub returns-in-Here-clause-notes : goal.returns-in-Here-clause-notes
returns-in-Here-clause-notes c = λ new up fresh b.
    came_one c.args.step.now c.in-Here.verdict c.in-Here.is (readers (gone (take c.in_ok-to.to c.args.kept.now) (take c.in_ok-to.to c.args.stay.now))) new c.add_verdict.new.changes
    (λ first. c.in_ok-to.ensures.notes new up first b) fresh
