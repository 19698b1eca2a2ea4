use Rattle.std.proofs.Common.{take}
use Rattle.gql_usage.specs.Stored.{facts_of}
use Rattle.gql_usage.specs.Unread.{AreListed, IsFieldListed}
use Rattle.gql_usage.proofs.unread.unread_fields.Given as goal

abbrev pub invariant-loop-field : goal.invariant-loop-field
invariant-loop-field l = AreListed (IsFieldListed (facts_of l.stored) l.stored.definitions.items l.of_type) (take l.field-index l.field-items) l.unread.items
