use Rattle.std.proofs.Common.{◌∙◌, sym}
use Rattle.gql_check.proofs.Refused.{folder_refused, is_empty}
use Rattle.gql_check.proofs.loading.folder_of.Goals as goal

pub returns-in_err-folder-clause-err : goal.returns-in_err-folder-clause-err
returns-in_err-folder-clause-err c = folder_refused c.args.profile c.args.given.now _ _ c.from_residual.ensures.1 c.in_err-folder.ensures.err

pub returns-then-is_empty-clause-err : goal.returns-then-is_empty-clause-err
returns-then-is_empty-clause-err c =
    is_empty c.args.profile c.args.given.now c.in_ok-folder.folder c.in_ok-folder.ensures.folder (sym c.is_empty.ensures ∙ c.if-is_empty.true)
