use Rattle.std.proofs.Common.{◌++◌, rules}
use Rattle.serde_json.specs.View.{view}
use Rattle.gql_steps.specs.JsonText.{json_text}
use Rattle.gql_steps.proofs.Writing.{part_entered, part_written}
use Rattle.gql_steps.proofs.values.write_value.Goals.{in-Within+in_ok-push-in-Within+in_ok-step-in-Within, in-Written+in-Some-pop+in_ok-step-in-Some-pop}
use Rattle.gql_steps.proofs.values.write_value.Goals as goal

pub steps-preserved : goal.steps-preserved
steps-preserved c = elim c.match-step.branch [
  | in-Within+in_ok-push-in-Within+in_ok-step-in-Within w ↦
      part_entered c.steps.stack.items c.match-step.stack.items w.in-Within.outer w.in-Within.inner c.steps.step c.match-step.step w.in_ok-step-in-Within.step
      (c.args.out.now.items ++ json_text (view c.args.value.now)) c.steps.out c.match-step.out w.write_rest-in-Within.new.out
      w.in-Within.is w.step-is w.out-is c.steps.invariant (search rules) w.in_ok-step-in-Within.ensures
  | in-Written+in-Some-pop+in_ok-step-in-Some-pop w ↦
      part_written c.steps.stack.items c.match-step.stack.items w.in-Some-pop.frame c.steps.step c.match-step.step w.in_ok-step-in-Some-pop.step
      (c.args.out.now.items ++ json_text (view c.args.value.now)) c.steps.out c.match-step.out w.write_rest-in-Some-pop.new.out
      w.in-Written.is w.step-is w.out-is c.steps.invariant (search rules) w.in_ok-step-in-Some-pop.ensures
]
