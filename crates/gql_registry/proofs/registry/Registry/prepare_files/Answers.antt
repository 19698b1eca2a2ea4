use Rattle.std.proofs.Common.{Option, sym, subst}
use Rattle.gql_registry.specs.Keeping.{IsWholeWorkOn, IsWorkOn}
use Rattle.gql_registry.specs.Planning.{plan_files}
use Rattle.gql_registry.specs.State.{shelf_of}
use Rattle.gql_registry.specs.declared.edit_plan.EditPlan.{EditPlan}
use Rattle.gql_registry.proofs.Working.{on_err_of, whole_idle}
use Rattle.gql_registry.proofs.registry.Registry.prepare_files.Goals as goal

pub returns-in_err-files-in-Some-clause-work : goal.returns-in_err-files-in-Some-clause-work
returns-in_err-files-in-Some-clause-work c =
    on_err_of c.from_residual.result
    (subst (λ (o : Option EditPlan). IsWorkOn (plan_files c.args.self.now.kept.files o) (shelf_of c.args.self.now) c.args.meter.now c.prepare.new.meter) (sym c.in-Some.is)
    c.in_err-files-in-Some.ensures.work)

pub returns-in_ok-files-in-Some-clause-whole : goal.returns-in_ok-files-in-Some-clause-whole
returns-in_ok-files-in-Some-clause-whole c =
    subst (λ (o : Option EditPlan). IsWholeWorkOn (plan_files c.args.self.now.kept.files o) (shelf_of c.args.self.now) c.args.meter.now c.prepare.new.meter) (sym c.in-Some.is)
    c.in_ok-files-in-Some.ensures.whole

pub returns-in-None-clause-whole : goal.returns-in-None-clause-whole
returns-in-None-clause-whole c =
    subst (λ (o : Option EditPlan). IsWholeWorkOn (plan_files c.args.self.now.kept.files o) (shelf_of c.args.self.now) c.args.meter.now c.args.meter.now) (sym c.in-None.is)
    (whole_idle c.args.self.now.kept.files (shelf_of c.args.self.now) c.args.meter.now c.shelf-current.ensures.current)
