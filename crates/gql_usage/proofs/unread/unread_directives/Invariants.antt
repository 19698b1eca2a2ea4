use Rattle.std.proofs.Common.{take}
use Rattle.gql_usage.specs.Stored.{facts_of}
use Rattle.gql_usage.specs.Unread.{AreListed, IsDirectiveListed}
use Rattle.gql_usage.proofs.unread.unread_directives.Given as goal

abbrev pub invariant-loop-directive : goal.invariant-loop-directive
invariant-loop-directive l = AreListed (IsDirectiveListed (facts_of l.stored) l.stored.definitions.items) (take l.directive-index l.directive-items) l.unread.items
