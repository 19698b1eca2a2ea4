use Rattle.std.proofs.Common.{◌≡◌, ◌≤◌, ◌∙◌, inl, inr, refl, sym, ap, subst, length, None}
use Rattle.gql_ast.specs.FileMaps.{file_named}
use Rattle.gql_ast.specs.declared.files.Files.{Files}
use Rattle.gql_registry.specs.Edits.{put}
use Rattle.gql_registry.specs.Sides.{files_on, limit_on}
use Rattle.gql_registry.specs.Working.{IsFileRefusal}
use Rattle.gql_registry.proofs.FirstRefusals.{first_files_full, put_accepted, no_room, room}
use Rattle.gql_registry.proofs.OneEdit.{apart_on}
use Rattle.gql_registry.proofs.Working.{err_of}
use Rattle.gql_registry.proofs.loading.put_file.Goals as goal

pub returns-in_err-document-clause-err : goal.returns-in_err-document-clause-err
returns-in_err-document-clause-err c =
    err_of (IsFileRefusal (put c.args.side c.args.name.now c.args.bytes.now) c.args.files.now) _ _ c.from_residual.ensures.1 (λ s same. c.in_err-document.ensures.err s (ap (λ (f : Files). f.profile) same))

pub returns-then-not-has_room-clause-err : goal.returns-then-not-has_room-clause-err
returns-then-not-has_room-clause-err c = λ s same.
    let at : c.files_on.result.now ≡ files_on c.args.side s.files = c.files_on.ensures ∙ ap (files_on c.args.side) (sym same) in
    let full = no_room (file_named c.files_on.result.now c.args.name.now) (length c.files_on.result.now) c.args.files.now.profile.limits.files (sym c.if-not-has_room.ensures) in
    inl (first_files_full s c.args.side c.args.name.now c.args.bytes.now (subst (λ (f : Files). length c.args.bytes.now ≤ limit_on f.profile c.args.side) (sym same) c.in_ok-document.ensures.read.short) c.in_ok-document.ensures.read.text
    (λ f bad. apart_on c.one_answer.ensures.apart c.one_document_answer.ensures.apart c.args.side c.args.name.now c.args.bytes.now _ f c.in_ok-document.ensures.read.file bad)
    (subst (λ fs. file_named fs c.args.name.now ≡ None) at full.0) (subst (λ (f : Files). f.profile.limits.files ≤ length (files_on c.args.side s.files)) (sym same) (subst (λ fs. c.args.files.now.profile.limits.files ≤ length fs) at full.1)))

pub returns-in_err-copy-clause-err : goal.returns-in_err-copy-clause-err
returns-in_err-copy-clause-err c =
    err_of (IsFileRefusal (put c.args.side c.args.name.now c.args.bytes.now) c.args.files.now) _ _ c.from_residual-in_err-copy.ensures.1 (λ s same. inr refl)

pub returns-in_err-put_on-clause-err : goal.returns-in_err-put_on-clause-err
returns-in_err-put_on-clause-err c =
    err_of (IsFileRefusal (put c.args.side c.args.name.now c.args.bytes.now) c.args.files.now) _ _ c.from_residual-in_err-put_on.ensures.1 (λ s same. inr refl)

pub returns-clause-put : goal.returns-clause-put
returns-clause-put c = record {
  document = c.in_ok-document.document;
  file = c.in_ok-document.ensures.read.file;
  placed = c.in_ok-document.ensures.read.placed;
  accepted = λ s same.
      let at : c.files_on.result.now ≡ files_on c.args.side s.files = c.files_on.ensures ∙ ap (files_on c.args.side) (sym same) in
      put_accepted s c.args.side c.args.name.now c.args.bytes.now (subst (λ (f : Files). length c.args.bytes.now ≤ limit_on f.profile c.args.side) (sym same) c.in_ok-document.ensures.read.short) c.in_ok-document.ensures.read.text
      (λ f bad. apart_on c.one_answer.ensures.apart c.one_document_answer.ensures.apart c.args.side c.args.name.now c.args.bytes.now _ f c.in_ok-document.ensures.read.file bad)
      (subst (λ (f : Files). file_named (files_on c.args.side s.files) c.args.name.now ≡ None → f.profile.limits.files ≤ length (files_on c.args.side s.files) → ⊥) (sym same)
      (subst (λ fs. file_named fs c.args.name.now ≡ None → c.args.files.now.profile.limits.files ≤ length fs → ⊥) at (room (file_named c.files_on.result.now c.args.name.now) (length c.files_on.result.now) c.args.files.now.profile.limits.files (sym c.if-not-has_room.ensures))));
  is = rw c.in_ok-copy.ensures at c.in_ok-put_on.ensures;
}
