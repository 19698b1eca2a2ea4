use Rattle.std.proofs.Common.{take}
use Rattle.gql_reads.specs.Readings.{seen_in}
use Rattle.gql_usage.specs.Untouched.{AreLeft}
use Rattle.gql_usage.proofs.untouched.are_parts_untouched.Given as goal

abbrev pub invariant-loop-part : goal.invariant-loop-part
invariant-loop-part l = AreLeft l.removal (seen_in (take l.part-index l.parts))
