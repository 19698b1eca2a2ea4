use Rattle.std.proofs.Common.{◌≡◌, fold, length, take}
use Rattle.gql_steps.specs.Columns.{mixed}
use Rattle.gql_steps.proofs.prints.print_of_text.Given as goal

abbrev pub invariant-loop-byte : goal.invariant-loop-byte
invariant-loop-byte l = l.print ≡ fold mixed (length l.text) (take l.byte-index l.byte-items)
