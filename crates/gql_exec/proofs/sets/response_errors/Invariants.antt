use Rattle.std.proofs.Common.{◌≡◌, ◌++◌, map}
use Rattle.std.specs.Vec.Iter.{into_iter_items}
use Rattle.gql_steps.specs.Outcomes.{error_of}
use Rattle.gql_steps.specs.Requests as requests
use Rattle.gql_steps.specs.States as states
use Rattle.gql_steps.specs.declared.run.FieldError.{FieldError}
use Rattle.gql_exec.proofs.sets.response_errors.Given as goal

abbrev pub invariant-loop-error : goal.invariant-loop-error
invariant-loop-error l = map error_of l.all.items ++ map (λ (e : FieldError). requests.error_of (states.error_of e)) (into_iter_items l.error-iterator)
    ≡ map (λ (e : FieldError). requests.error_of (states.error_of e)) l.fn.errors.items
