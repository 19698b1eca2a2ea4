use Rattle.std.proofs.Common.{◌≡◌, fold, length, take}
use Rattle.gql_types.specs.Prints.{mixed}
use Rattle.gql_readers.proofs.prints.print_of.Given as goal

abbrev pub invariant-loop-byte : goal.invariant-loop-byte
invariant-loop-byte l = l.print ≡ fold mixed (length l.name) (take l.byte-index l.byte-items)
