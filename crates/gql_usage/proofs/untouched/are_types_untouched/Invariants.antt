use Rattle.std.proofs.Common.{take}
use Rattle.gql_reads.specs.Observations.{about_all}
use Rattle.gql_usage.specs.Untouched.{AreLeft}
use Rattle.gql_usage.proofs.untouched.are_types_untouched.Given as goal

abbrev pub invariant-loop-of_type : goal.invariant-loop-of_type
invariant-loop-of_type l = AreLeft l.removal (about_all (take l.of_type-index l.types))
