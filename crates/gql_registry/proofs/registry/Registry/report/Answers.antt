use Rattle.std.proofs.Common.{◌∙◌, sym, subst}
use Rattle.gql_registry.specs.Report.{IsReport}
use Rattle.gql_registry.specs.State.{state_of}
use Rattle.gql_registry.proofs.registry.Registry.report.Goals as goal

pub returns : goal.returns
returns c = subst (λ l. IsReport (state_of c.args.self.now).files l) (sym (c.in_ok-copied.ensures ∙ c.as_slice.ensures.value)) c.in_ok-report.ensures
