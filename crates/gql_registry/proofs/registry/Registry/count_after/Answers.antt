use Rattle.std.proofs.Common.{Option, sym, subst}
use Rattle.gql_registry.specs.EditPlans.{IsReportLength}
use Rattle.gql_registry.specs.PreparedEdits.{files_after}
use Rattle.gql_registry.specs.declared.kept.PreparedFiles.{PreparedFiles}
use Rattle.gql_registry.proofs.registry.Registry.count_after.Goals as goal

pub returns-in-Some : goal.returns-in-Some
returns-in-Some c =
    subst (λ (o : Option PreparedFiles). IsReportLength (files_after c.args.self.now.kept.files o) c.count.result) (sym c.in-Some.is) c.count.ensures

pub returns-in-None : goal.returns-in-None
returns-in-None c =
    subst (λ (o : Option PreparedFiles). IsReportLength (files_after c.args.self.now.kept.files o) c.count-in-None.result) (sym c.in-None.is) c.count-in-None.ensures
