use Rattle.std.proofs.Common.{◌≡◌, take}
use Rattle.std.specs.Prelude.{string_bytes}
use Rattle.gql_push.specs.Sums.{hex_of}
use Rattle.gql_push.proofs.sum.sum_of.Given as goal

abbrev pub invariant-loop-byte : goal.invariant-loop-byte
invariant-loop-byte l = string_bytes l.sum ≡ hex_of (take l.byte-index l.byte-items)
