use Rattle.std.proofs.Common.{◌≡◌, ◌++◌, reverse}
use Rattle.serde_json.specs.View.{view}
use Rattle.gql_steps.specs.JsonText.{json_text}
use Rattle.gql_steps.specs.WriteFrames.{step_text, waiting_text}
use Rattle.gql_steps.proofs.values.write_value.Given as goal

abbrev pub invariant-steps : goal.invariant-steps
invariant-steps l = l.out.items ++ (step_text l.step ++ waiting_text (reverse l.stack.items))
    ≡ l.fn.out.items ++ json_text (view l.value)
