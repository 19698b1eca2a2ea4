-- What an edit comes to, before it is prepared and once it is.
use Rattle.std.proofs.Common.{◌≡◌, ◌∷◌, ◌+◌, ◌∙◌, ◌||◌, ℕ, List, [], Bool, true, false, Option, Some, None, refl, sym, ap, ap₂, subst}
use Rattle.std.specs.List.{list_any}
use Rattle.gql_ast.specs.declared.definition.DefinitionId.{DefinitionId}
use Rattle.gql_ast.specs.declared.files.Files.{Files}
use Rattle.gql_registry.specs.Changes.{change_of, edit_of}
use Rattle.gql_registry.specs.EditPlans.{IsEditPlanBy, IsEditPlanOf}
use Rattle.gql_registry.specs.Edits.{Accepts, Change, Edit, IsInTime, MakesAll, Reports, done, is_of_file, step}
use Rattle.gql_registry.specs.Keeping.{IsWorkOn}
use Rattle.gql_registry.specs.Planning.{IsPlannedFor, plan_files, planned_state}
use Rattle.gql_registry.specs.PreparedEdits.{IsPreparedEditFor, IsReadyFor, KeepsFiles, after_of, data_after, edited_of}
use Rattle.gql_registry.specs.State.{State, at_revision, state_of, with_data}
use Rattle.gql_registry.specs.Working.{Takes, state_in, state_over}
use Rattle.gql_registry.specs.Works.{WorksInVain}
use Rattle.gql_registry.specs.declared.change.Change.{Change as GivenChange}
use Rattle.gql_registry.specs.declared.edit_plan.EditPlan.{EditPlan}
use Rattle.gql_registry.specs.declared.editing.PreparedEdit.{PreparedEdit}
use Rattle.gql_registry.specs.declared.loading.Loading.{Loading}
use Rattle.gql_registry.specs.declared.planning.Planned.{Planned}
use Rattle.gql_registry.specs.declared.refusal.Refusal.{Refusal}
use Rattle.gql_registry.specs.declared.refusal.Refusal.TheVariants as refusal
use Rattle.gql_registry.specs.declared.registry.Registry.{Registry}
use Rattle.gql_registry.proofs.Answered.{failed_work}
use Rattle.gql_registry.proofs.InTurn.{files_kept, of_files}
use Rattle.gql_verdict.specs.Verdicts.{Judgement}
use Rattle.serde_json.specs.Data.{Data}
use Rattle.serde_json.specs.View.{view}
use Rattle.serde_json.specs.declared.value.Value.{Value}

-- ---- plans

-- what is planned for the files, and for the data
abbrev pub of_plan : EditPlan → Option Value → Planned
of_plan plan new_data = record { files = Some plan; new_data = new_data }

abbrev pub of_data : Option Value → Planned
of_data new_data = record { files = None; new_data = new_data }

-- whether some change of a call is one of a file
abbrev pub any_of_file : List GivenChange → Bool
any_of_file edit = list_any (λ (c : GivenChange). is_of_file (change_of c)) edit

-- changes of data alone
pub data_planned : (s : State) (edit : List GivenChange) (l : Loading) → any_of_file edit ≡ false → MakesAll s (edit_of edit) (state_in s.stored s.revision l) → IsPlannedFor s (edit_of edit) (of_data l.new_data)
data_planned s edit l none made =
    let kept : l.files ≡ s.files = files_kept s (state_in s.stored s.revision l) (edit_of edit) (sym (of_files edit) ∙ none) made in
    record {
      makes = subst (λ (f : Files). MakesAll s (edit_of edit) (state_over f (data_after s.stored l.new_data) s.revision)) kept made;
      plan = tt;
      files = λ no. refl;
    }

-- changes of which some are of files
pub files_planned : (s : State) (edit : List GivenChange) (l : Loading) (plan : EditPlan) → any_of_file edit ≡ true → plan.files ≡ l.files → ((before : Files) → IsEditPlanOf before plan)
    → MakesAll s (edit_of edit) (state_in s.stored s.revision l) → IsPlannedFor s (edit_of edit) (of_plan plan l.new_data)
files_planned s edit l plan some same of made = record {
  makes = subst (λ (f : Files). MakesAll s (edit_of edit) (state_over f (data_after s.stored l.new_data) s.revision)) (sym same) made;
  plan = of s.files;
  files = λ none. absurd (apart (sym some ∙ of_files edit ∙ none));
}
  where
    apart : true ≡ false → ⊥
    apart e = cc e

or_false : (b : Bool) → (b || false) ≡ b
or_false true = refl
or_false false = refl

-- one change of a file
pub change_planned : (s : State) (c : Change) (plan : EditPlan) (p : Planned) → is_of_file c ≡ true → p ≡ of_plan plan None → IsEditPlanBy s c plan → IsPlannedFor s (c ∷ []) p
change_planned s c plan p some is by = subst (IsPlannedFor s (c ∷ [])) (sym is) (record {
  makes = step by.accepted by.leaves done;
  plan = by.plan;
  files = λ none. absurd (apart (sym some ∙ sym (or_false (is_of_file c)) ∙ none));
})
  where
    apart : true ≡ false → ⊥
    apart e = cc e

-- one change of the data
pub value_planned : (s : State) (c : Change) (v : Value) (p : Planned) → p ≡ of_data (Some v) → Takes s c (with_data s (view v)) → IsPlannedFor s (c ∷ []) p
value_planned s c v p is takes = subst (IsPlannedFor s (c ∷ [])) (sym is) (record { makes = step takes.0 takes.1 done; plan = tt; files = λ no. refl })

-- ---- what is prepared

-- the state that is left, at its revision
pub same_state : (f g : Files) (d : Data) (m n : ℕ) → f ≡ g → m ≡ n → state_over f d m ≡ state_over g d n
same_state f g d m n files revision = ap₂ (λ x k. state_over x d k) files revision

-- what is planned is accepted
pub planned_accepts : (s t : State) (expected : Option ℕ) (e : Edit) (p : Planned) (n : ℕ) → n ≡ s.revision + 1 → IsInTime s expected → IsPlannedFor s e p → t ≡ at_revision n (planned_state s p) → Accepts s expected e t
planned_accepts s t expected e p n next time planned is =
    record { in_time = time; made = planned_state s p; makes = planned.makes; left = is ∙ ap (λ k. at_revision k (planned_state s p)) next }

-- and can be committed
pub prepared_edit : (r : Registry) (expected : Option ℕ) (e : Edit) (planned : Planned) (p : PreparedEdit) (n : ℕ) → n ≡ (state_of r).revision + 1 → IsInTime (state_of r) expected → IsPlannedFor (state_of r) e planned
    → after_of (state_of r) p ≡ at_revision n (planned_state (state_of r) planned) → Reports (after_of (state_of r) p) (edited_of p) → IsReadyFor r p → (planned.files ≡ None → KeepsFiles p) → IsPreparedEditFor r expected e p
prepared_edit r expected e planned p n next time is after reports ready files = record {
  accepts = planned_accepts (state_of r) (after_of (state_of r) p) expected e planned n next time is after;
  reports = reports;
  ready = ready;
  files = λ none. files (is.files none);
}

-- an allocation failed, once all changes were accepted
pub planned_in_vain : (s : State) (expected : Option ℕ) (shelf : List Judgement) (e : Edit) (planned : Planned) (r : Refusal) (old new : List DefinitionId) → r ≡ refusal.Memory → IsInTime s expected → IsPlannedFor s e planned
    → IsWorkOn (plan_files s.files planned.files) shelf old new → WorksInVain s expected shelf e r old new
planned_in_vain s expected shelf e planned r old new failed time is work =
    failed_work s (at_revision (s.revision + 1) (planned_state s planned)) expected shelf e r old new failed (planned_accepts s _ expected e planned (s.revision + 1) refl time is refl) work
