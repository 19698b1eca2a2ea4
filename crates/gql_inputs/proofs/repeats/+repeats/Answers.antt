use Rattle.std.proofs.Common.{arith}
use Rattle.std.proofs.lemmas.Grind.{common_steps}
use Rattle.gql_inputs.proofs.Repeating.{repeats_object}
use Rattle.gql_inputs.proofs.repeats.+repeats.Goals as goal

pub add_repeats-returns-in_ok-add_repeats_in_fields-in-Object :
    goal.add_repeats-returns-in_ok-add_repeats_in_fields-in-Object
add_repeats-returns-in_ok-add_repeats_in_fields-in-Object t c = rw (c.in-Object.is, repeats_object c.in-Object.place c.in-Object.fields) (grind (arith, common_steps, c))
