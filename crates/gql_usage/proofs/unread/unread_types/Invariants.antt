use Rattle.std.proofs.Common.{take}
use Rattle.gql_usage.specs.Answered.{is_answered}
use Rattle.gql_usage.specs.Stored.{facts_of}
use Rattle.gql_usage.specs.Unread.{AreListed, IsTypeListed}
use Rattle.gql_usage.proofs.unread.unread_types.Given as goal

abbrev pub invariant-loop-of_type : goal.invariant-loop-of_type
invariant-loop-of_type l = AreListed (IsTypeListed (facts_of l.stored) l.stored.definitions.items (is_answered l.schema l.shelf.verdicts)) (take l.of_type-index l.of_type-items) l.unread.items
