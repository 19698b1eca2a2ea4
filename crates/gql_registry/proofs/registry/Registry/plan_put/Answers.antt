use Rattle.std.proofs.Common.{◌≡◌, ◌≤◌, ◌∙◌, inl, inr, rules, refl, sym, ap, subst, length, None}
use Rattle.gql_ast.specs.FileMaps.{file_named}
use Rattle.gql_ast.specs.declared.files.Files.{Files}
use Rattle.gql_ast.specs.declared.profile.Profile.{Profile}
use Rattle.gql_registry.specs.Checks.{IsChangeRefusal}
use Rattle.gql_registry.specs.Edits.{put}
use Rattle.gql_registry.specs.Sides.{files_on, limit_on}
use Rattle.gql_registry.specs.State.{profile_of, state_of, with_files}
use Rattle.gql_registry.proofs.FirstRefusals.{first_files_full, put_accepted, no_room, room}
use Rattle.gql_registry.proofs.OneEdit.{apart_on}
use Rattle.gql_registry.proofs.PlacedFiles.{put_plan_of}
use Rattle.gql_registry.proofs.Working.{err_of}
use Rattle.gql_registry.proofs.registry.Registry.plan_put.Goals as goal

pub returns-in_err-document-clause-plan : goal.returns-in_err-document-clause-plan
returns-in_err-document-clause-plan c = search rules

pub returns-in_err-document-clause-err : goal.returns-in_err-document-clause-err
returns-in_err-document-clause-err c = err_of (IsChangeRefusal (state_of c.args.self.now) (put c.args.side c.args.name.now c.args.bytes.now)) _ _ c.from_residual.ensures.1
    (c.in_err-document.ensures.err (state_of c.args.self.now) (sym (ap (λ (f : Files). f.profile) c.files-present.ensures.files)))

pub returns-then-not-has_room-clause-plan : goal.returns-then-not-has_room-clause-plan
returns-then-not-has_room-clause-plan c = tt

pub returns-then-not-has_room-clause-err : goal.returns-then-not-has_room-clause-err
returns-then-not-has_room-clause-err c =
    let at : c.files_on.result.now ≡ files_on c.args.side c.args.self.now.kept.files = c.files_on.ensures ∙ ap (files_on c.args.side) c.files-present.ensures.files in
    let same : c.files-present.result.now.profile ≡ profile_of (state_of c.args.self.now) = ap (λ (f : Files). f.profile) c.files-present.ensures.files in
    let full = no_room (file_named c.files_on.result.now c.args.name.now) (length c.files_on.result.now) c.files-present.result.now.profile.limits.files (sym c.if-not-has_room.ensures) in
    inl (first_files_full (state_of c.args.self.now) c.args.side c.args.name.now c.args.bytes.now (subst (λ (p : Profile). length c.args.bytes.now ≤ limit_on p c.args.side) same c.in_ok-document.ensures.read.short) c.in_ok-document.ensures.read.text
    (λ f bad. apart_on c.one_answer.ensures.apart c.one_document_answer.ensures.apart c.args.side c.args.name.now c.args.bytes.now _ f c.in_ok-document.ensures.read.file bad) (subst (λ fs. file_named fs c.args.name.now ≡ None) at full.0) (subst (λ (p : Profile). p.limits.files ≤ length (files_on c.args.side c.args.self.now.kept.files)) same (subst (λ fs. c.files-present.result.now.profile.limits.files ≤ length fs) at full.1)))

pub returns-in_err-plan-clause-plan : goal.returns-in_err-plan-clause-plan
returns-in_err-plan-clause-plan c = search rules

pub returns-in_err-plan-clause-err : goal.returns-in_err-plan-clause-err
returns-in_err-plan-clause-err c = err_of (IsChangeRefusal (state_of c.args.self.now) (put c.args.side c.args.name.now c.args.bytes.now)) _ _ c.from_residual-in_err-plan.ensures.1 (inr refl)

pub returns-clause-plan : goal.returns-clause-plan
returns-clause-plan c =
    let at : c.files_on.result.now ≡ files_on c.args.side c.args.self.now.kept.files = c.files_on.ensures ∙ ap (files_on c.args.side) c.files-present.ensures.files in
    let same : c.files-present.result.now.profile ≡ profile_of (state_of c.args.self.now) = ap (λ (f : Files). f.profile) c.files-present.ensures.files in
    record {
      accepted = put_accepted (state_of c.args.self.now) c.args.side c.args.name.now c.args.bytes.now (subst (λ (p : Profile). length c.args.bytes.now ≤ limit_on p c.args.side) same c.in_ok-document.ensures.read.short) c.in_ok-document.ensures.read.text
          (λ f bad. apart_on c.one_answer.ensures.apart c.one_document_answer.ensures.apart c.args.side c.args.name.now c.args.bytes.now _ f c.in_ok-document.ensures.read.file bad)
          (subst (λ (p : Profile). file_named (files_on c.args.side c.args.self.now.kept.files) c.args.name.now ≡ None → p.limits.files ≤ length (files_on c.args.side c.args.self.now.kept.files) → ⊥) same
          (subst (λ fs. file_named fs c.args.name.now ≡ None → c.files-present.result.now.profile.limits.files ≤ length fs → ⊥) at (room (file_named c.files_on.result.now c.args.name.now) (length c.files_on.result.now) c.files-present.result.now.profile.limits.files (sym c.if-not-has_room.ensures))));
      leaves = (c.in_ok-document.document, c.in_ok-document.ensures.read.file, ap (λ (f : Files). with_files (state_of c.args.self.now) f) c.in_ok-plan.ensures.files);
      plan = put_plan_of c.args.side c.args.self.now.kept.files c.args.name.now c.in_ok-document.document _ c.files-present.ensures.placed c.in_ok-document.ensures.read.placed c.in_ok-plan.ensures;
    }
