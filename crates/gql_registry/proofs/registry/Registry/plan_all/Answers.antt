use Rattle.std.proofs.Common.{◌≡◌, inr, subst, sym}
use Rattle.gql_ast.specs.declared.files.Files.{Files}
use Rattle.gql_registry.specs.Changes.{edit_of}
use Rattle.gql_registry.specs.Checks.{IsListRefusal}
use Rattle.gql_registry.specs.Edits.{MakesAll}
use Rattle.gql_registry.specs.State.{state_of}
use Rattle.gql_registry.specs.Working.{state_in, state_over}
use Rattle.gql_verdict.specs.FileOrder.{AreFilesPlaced}
use Rattle.gql_registry.specs.declared.change.EditRefusal.{EditRefusal}
use Rattle.gql_registry.specs.declared.refusal.Refusal.TheVariants as refusal
use Rattle.gql_registry.proofs.Working.{err_of, err_where}
use Rattle.gql_registry.proofs.registry.Registry.plan_all.Goals as goal

pub load_all-requires : goal.load_all-requires
load_all-requires c = subst (λ (f : Files). AreFilesPlaced f.documents) (sym c.files.ensures.files) c.files.ensures.placed

pub returns-in_err-loading-clause-err : goal.returns-in_err-loading-clause-err
returns-in_err-loading-clause-err c =
    let s = state_of c.args.self.now in
    err_of (IsListRefusal s (edit_of c.args.edit.now)) _ _ c.from_residual.ensures.1
    (subst (λ (f : Files). IsListRefusal (state_over f s.stored s.revision) (edit_of c.args.edit.now) c.in_err-loading.field-0.0) c.files.ensures.files (c.in_err-loading.ensures.err s.stored s.revision))

pub planned_with-requires : goal.planned_with-requires
planned_with-requires c = c.in_ok-loading.ensures.placed

pub returns-clause-planned : goal.returns-clause-planned
returns-clause-planned c =
    let s = state_of c.args.self.now in
    c.in_ok-planned_with.ensures s
    (subst (λ (f : Files). MakesAll (state_over f s.stored s.revision) (edit_of c.args.edit.now) (state_in s.stored s.revision c.in_ok-loading.loading)) c.files.ensures.files (c.in_ok-loading.ensures.made s.stored s.revision))

pub returns-in_err-planned_with-clause-err : goal.returns-in_err-planned_with-clause-err
returns-in_err-planned_with-clause-err c =
    err_where (λ (x : EditRefusal). x.refusal ≡ refusal.Memory) (IsListRefusal (state_of c.args.self.now) (edit_of c.args.edit.now)) _ c.from_residual-in_err-planned_with.ensures.1 (λ x is. inr is)
