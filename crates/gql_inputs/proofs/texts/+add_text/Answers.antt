use Rattle.std.proofs.Common.{arith}
use Rattle.std.proofs.lemmas.Grind.{common_steps}
use Rattle.gql_types.specs.Written.{written_list, written_non_null}
use Rattle.gql_inputs.proofs.texts.+add_text.Goals as goal

pub returns-in_ok-push_str-in-List-2 : goal.returns-in_ok-push_str-in-List-2
returns-in_ok-push_str-in-List-2 t c = rw (c.in-List.is, written_list c.in-List.place c.in-List.item) (grind (arith, common_steps, c))

pub returns-in_ok-push_str-in-NonNull : goal.returns-in_ok-push_str-in-NonNull
returns-in_ok-push_str-in-NonNull t c = rw (c.in-NonNull.is, written_non_null c.in-NonNull.item) (grind (arith, common_steps, c))
