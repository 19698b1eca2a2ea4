use Rattle.gql_check.proofs.Refused.{err_of, loading_fault}
use Rattle.gql_check.specs.Faults.{IsFault}
use Rattle.gql_check.proofs.loading.load_files.Goals as goal

pub returns-in_err-registry-clause-err : goal.returns-in_err-registry-clause-err
returns-in_err-registry-clause-err c =
    err_of (IsFault c.args.profile c.args.given.now) _ _ c.from_residual-in_err-registry.ensures.1
    (loading_fault c.args.profile c.args.given.now c.in_ok-folder.folder c.in_ok-folder.ensures.folder _ c.in_err-registry.ensures.err)

pub returns-clause-loaded : goal.returns-clause-loaded
returns-clause-loaded c = record {
  folder = c.in_ok-folder.folder;
  is = record { folder = c.in_ok-folder.ensures.folder; puts = c.in_ok-registry.ensures.loaded };
}
