use Rattle.std.proofs.Common.{rules}
use Rattle.serde_json.specs.View.{members_view}
use Rattle.gql_coerce.proofs.JsonFields.{entry_is}
use Rattle.gql_coerce.proofs.json_entries.field_entry.Goals as goal

pub returns : goal.returns
returns c = rw c.get.ensures (entry_is c.args.definition.now c.name-name.result.now (members_view c.args.members.now.entries) c.member.result (search rules) c.member.ensures)
