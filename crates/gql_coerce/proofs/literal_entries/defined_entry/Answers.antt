use Rattle.std.proofs.Common.{rules, map}
use Rattle.gql_coerce.proofs.LiteralFields.{entry_is}
use Rattle.gql_coerce.proofs.literal_entries.defined_entry.Goals as goal

pub returns : goal.returns
returns c = λ vs. rw c.get.ensures (entry_is vs c.args.definition.now c.name-name.result.now (map (λ g. g.field.now) c.args.given.now) c.value_of.result (search rules) c.value_of.ensures)
