use Rattle.std.proofs.Common.{◌≡◌, ℕ, inr, sym, subst}
use Rattle.gql_ast.specs.declared.files.Files.{Files}
use Rattle.gql_registry.specs.Changes.{edit_of}
use Rattle.gql_registry.specs.Checks.{IsListRefusal}
use Rattle.gql_registry.specs.Edits.{MakesAll}
use Rattle.gql_registry.specs.State.{State}
use Rattle.gql_registry.specs.Working.{state_in, state_over}
use Rattle.gql_registry.specs.declared.change.EditRefusal.{EditRefusal}
use Rattle.gql_verdict.specs.FileOrder.{AreFilesPlaced}
use Rattle.serde_json.specs.Data.{Data}
use Rattle.gql_registry.specs.declared.refusal.Refusal.TheVariants as refusal
use Rattle.gql_registry.proofs.Working.{err_of, err_where}
use Rattle.gql_registry.proofs.loading.load_all.Goals as goal

pub returns-in_err-loading-clause-err : goal.returns-in_err-loading-clause-err
returns-in_err-loading-clause-err c =
    err_where (λ (x : EditRefusal). x.refusal ≡ refusal.Memory) (λ (r : EditRefusal). (stored : Data) (revision : ℕ) → IsListRefusal (state_over c.args.files.now stored revision) (edit_of c.args.edit.now) r) _ c.from_residual.ensures.1
    (λ x is stored revision. inr is)

pub returns-in_err-make_each-clause-err : goal.returns-in_err-make_each-clause-err
returns-in_err-make_each-clause-err c =
    err_of (λ (r : EditRefusal). (stored : Data) (revision : ℕ) → IsListRefusal (state_over c.args.files.now stored revision) (edit_of c.args.edit.now) r) _ _ c.from_residual-in_err-make_each.ensures.1
    (λ stored revision. subst (λ (s : State). IsListRefusal s (edit_of c.args.edit.now) c.in_err-make_each.field-0.0) (c.in_ok-loading.ensures.state stored revision) (c.in_err-make_each.ensures.err stored revision))

pub returns-clause-made : goal.returns-clause-made
returns-clause-made c = λ stored revision.
    subst (λ (s : State). MakesAll s (edit_of c.args.edit.now) (state_in stored revision c.make_each.new.self)) (c.in_ok-loading.ensures.state stored revision) (c.in_ok-make_each.ensures.made stored revision)

pub returns-clause-placed : goal.returns-clause-placed
returns-clause-placed c =
    c.in_ok-make_each.ensures.placed (subst (λ (f : Files). AreFilesPlaced f.documents) (sym c.in_ok-loading.ensures.files) c.requires)
