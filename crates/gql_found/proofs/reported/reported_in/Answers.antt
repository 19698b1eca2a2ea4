use Rattle.std.proofs.Common.{◌↔◌, ◌∙◌, IsTrue, ap, subst, sym}
use Rattle.gql_facts.specs.Facts.{fact_of}
use Rattle.gql_found.specs.Found.{IsReported}
use Rattle.gql_registry.specs.Report.{IsReport, IsSound}
use Rattle.gql_registry.specs.State.{state_of}
use Rattle.gql_found.proofs.reported.reported_in.Goals as goal

pub report_of-requires-clause-world : goal.report_of-requires-clause-world
report_of-requires-clause-world c =
    c.world-world.ensures (state_of c.args.registry.now).files c.in_ok-facts.ensures ∙ ap fact_of (sym c.files-files.ensures)

pub report_of-requires-clause-report : goal.report_of-requires-clause-report
report_of-requires-clause-report c = subst (λ fs. IsReport fs c.in_ok-faults.faults.items) (sym c.files-files.ensures) c.in_ok-faults.ensures

pub report_of-requires-clause-sound : goal.report_of-requires-clause-sound
report_of-requires-clause-sound c = subst (λ fs. IsTrue c.is_sound-is_sound.result ↔ IsSound fs) (sym c.files-files.ensures) c.is_sound-is_sound.ensures

pub returns : goal.returns
returns c = subst (λ fs. IsReported c.args.sources fs c.in_ok-reported.reported) c.files-files.ensures c.in_ok-reported.ensures
