-- Helper definitions for private contracts: what an edit comes to, before it is prepared.
use Rattle.std.specs.Prelude.{◌≡◌, false, Option, Some, None, IfSome}
use Rattle.gql_ast.specs.declared.files.Files.{Files}
use Rattle.gql_registry.specs.EditPlans.{IsEditPlanOf}
use Rattle.gql_registry.specs.Edits.{Edit, MakesAll, changes_files}
use Rattle.gql_registry.specs.PreparedEdits.{data_after}
use Rattle.gql_registry.specs.State.{State}
use Rattle.gql_registry.specs.declared.edit_plan.EditPlan.{EditPlan}
use Rattle.gql_registry.specs.declared.planning.Planned.{Planned}

-- the files of a plan, or if there is none these
abbrev pub plan_files : Files → Option EditPlan → Files
plan_files files None = files
plan_files files (Some plan) = plan.files

-- the state that the changes of a planned edit leave
abbrev pub planned_state : State → Planned → State
planned_state s p = record {
  files = plan_files s.files p.files;
  stored = data_after s.stored p.new_data;
  revision = s.revision;
}

-- the changes of the edit are accepted in turn and leave what is planned, and this is a plan of it
pub record IsPlannedFor (s : State) (e : Edit) (p : Planned) : Type 0 where
  pub makes : MakesAll s e (planned_state s p)
  pub plan : IfSome p.files (IsEditPlanOf s.files)
  -- an edit of data alone leaves the files
  pub files : changes_files e ≡ false → p.files ≡ None
