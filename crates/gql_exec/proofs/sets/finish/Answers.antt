use Rattle.std.proofs.Common.{◌≡◌, subst, sym}
use Rattle.gql_steps.specs.Outcomes.{outcome_of}
use Rattle.gql_exec.specs.RootParts.{seen}
use Rattle.gql_steps.specs.Runs.{Finishes, came_to}
use Rattle.gql_steps.proofs.Ending.{finished_cut, finished_written, ok_then}
use Rattle.gql_exec.proofs.sets.finish.Goals as goal

pub returns-in-Written-clause-outcome : goal.returns-in-Written-clause-outcome
returns-in-Written-clause-outcome c = ok_then c.outcome.result (λ o. outcome_of o ≡ came_to c.args.run (seen c.args.effects.items)) (λ o. Finishes c.args.ended c.args.run (seen c.args.effects.items) (outcome_of o))
    (λ o h. subst (λ e. Finishes e c.args.run (seen c.args.effects.items) (outcome_of o)) (sym c.in-Written.is) (finished_written c.args.run (seen c.args.effects.items) (outcome_of o) h)) c.outcome.ensures.came

pub returns-in_ok-cut_to_null-in-Bubbled-clause-outcome : goal.returns-in_ok-cut_to_null-in-Bubbled-clause-outcome
returns-in_ok-cut_to_null-in-Bubbled-clause-outcome c =
    let added = seen c.args.effects.items in
    ok_then c.outcome-in-Bubbled.result (λ o. outcome_of o ≡ came_to c.cut_to_null.new.run added) (λ o. Finishes c.args.ended c.args.run added (outcome_of o))
    (λ o h. subst (λ e. Finishes e c.args.run added (outcome_of o)) (sym c.in-Bubbled.is) (finished_cut c.args.run c.cut_to_null.new.run added (outcome_of o)
    c.in_ok-cut_to_null-in-Bubbled.ensures.out c.in_ok-cut_to_null-in-Bubbled.ensures.rest h)) c.outcome-in-Bubbled.ensures.came
