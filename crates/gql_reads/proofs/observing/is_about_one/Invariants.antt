use Rattle.std.proofs.Common.{Contains, take}
use Rattle.gql_reads.specs.Observations.{about_all, keys_of}
use Rattle.gql_reads.proofs.observing.is_about_one.Given as goal

abbrev pub invariant-loop-of_type : goal.invariant-loop-of_type
invariant-loop-of_type l = Contains (keys_of (about_all (take l.of_type-index l.types))) l.key → ⊥
