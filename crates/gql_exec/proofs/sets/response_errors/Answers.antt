use Rattle.std.proofs.Common.{map, refl}
use Rattle.std.specs.Vec.Iter.{into_iter_items}
use Rattle.gql_steps.specs.Requests as requests
use Rattle.gql_steps.specs.States as states
use Rattle.gql_steps.specs.declared.run.FieldError.{FieldError}
use Rattle.gql_steps.proofs.Ending.{next_error}
use Rattle.gql_exec.proofs.sets.response_errors.Goals as goal

pub loop-error-preserved : goal.loop-error-preserved
loop-error-preserved c = next_error c.loop-error.all.items c.push.new.self.items (into_iter_items c.loop-error.error-iterator) (into_iter_items c.next.new.self) c.in-Some.error _
    (map (λ (e : FieldError). requests.error_of (states.error_of e)) c.args.errors.items) c.loop-error.invariant c.in-Some.ensures.steps.0 c.in_ok-push.ensures.items refl
