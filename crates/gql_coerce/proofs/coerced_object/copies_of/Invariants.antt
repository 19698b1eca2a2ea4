use Rattle.std.proofs.Common.{◌≡◌}
use Rattle.serde_json.specs.View.{members_view}
use Rattle.gql_coerce.specs.Copies.{put_each}
use Rattle.gql_coerce.proofs.coerced_object.copies_of.Given as goal

abbrev pub invariant-loop-name : goal.invariant-loop-name
invariant-loop-name l = put_each l.name-iterator (members_view l.copies) ≡ members_view l.members.entries
