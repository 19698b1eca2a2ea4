use Rattle.gql_check.proofs.Found.{found}
use Rattle.gql_check.proofs.Refused.{err_of, loading_fault}
use Rattle.gql_check.specs.Faults.{IsFault, memory}
use Rattle.gql_registry.specs.State.{state_of}
use Rattle.gql_check.proofs.check.check_files.Goals as goal

pub returns-in_err-registry-clause-err : goal.returns-in_err-registry-clause-err
returns-in_err-registry-clause-err c =
    err_of (IsFault c.args.profile c.args.given.now) _ _ c.from_residual-in_err-registry.ensures.1
    (loading_fault c.args.profile c.args.given.now c.in_ok-named.named c.in_ok-named.ensures.folder _ c.in_err-registry.ensures.err)

pub returns-in_err-sources-clause-err : goal.returns-in_err-sources-clause-err
returns-in_err-sources-clause-err c = err_of (IsFault c.args.profile c.args.given.now) _ _ c.from_residual-in_err-sources.ensures.1 memory

pub returns-in_err-reported-clause-err : goal.returns-in_err-reported-clause-err
returns-in_err-reported-clause-err c = err_of (IsFault c.args.profile c.args.given.now) _ _ c.from_residual-in_err-reported.ensures.1 memory

pub returns-clause-check : goal.returns-clause-check
returns-clause-check c = record {
  folder = c.in_ok-named.named;
  state = state_of c.in_ok-registry.registry;
  sources = c.in_ok-sources.sources;
  is = record { folder = c.in_ok-named.ensures.folder; puts = c.in_ok-registry.ensures.loaded };
  given_as = c.in_ok-sources.ensures;
  found_in = found c.in_ok-sources.sources (state_of c.in_ok-registry.registry).files c.in_ok-reported.reported c.in_ok-reported.ensures;
}
