use Rattle.std.proofs.Common.{take}
use Rattle.gql_registry.specs.Indexed.{HaveSame, kept_from}
use Rattle.gql_registry.proofs.operations.operations_in.Given as goal

abbrev pub invariant-loop-number : goal.invariant-loop-number
invariant-loop-number l = HaveSame l.operations (kept_from l.file 0 (take l.number l.definitions))
