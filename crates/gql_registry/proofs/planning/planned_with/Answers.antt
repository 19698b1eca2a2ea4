use Rattle.std.proofs.Common.{sym}
use Rattle.gql_registry.proofs.Plans.{data_planned, files_planned}
use Rattle.gql_registry.proofs.planning.planned_with.Goals as goal

pub returns-then-not-changes_files : goal.returns-then-not-changes_files
returns-then-not-changes_files c = λ s made. data_planned s c.args.edit.now c.args.loading (sym c.if-not-changes_files.ensures) made

pub whole_plan-requires : goal.whole_plan-requires
whole_plan-requires c = c.requires

pub returns : goal.returns
returns c = λ s made. files_planned s c.args.edit.now c.args.loading c.in_ok-plan.plan (sym c.if-not-changes_files.ensures) c.in_ok-plan.ensures.files c.in_ok-plan.ensures.plan made
