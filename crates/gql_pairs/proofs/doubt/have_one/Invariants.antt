use Rattle.std.proofs.Common.{take}
use Rattle.gql_pairs.specs.declared.doubt.Doubt.TheVariants as doubted
use Rattle.gql_pairs.proofs.Doubting.{Undoubted}
use Rattle.gql_reads.specs.Observations.{about_all}
use Rattle.gql_pairs.proofs.doubt.have_one.Given as goal

abbrev pub invariant-loop-of_type : goal.invariant-loop-of_type
invariant-loop-of_type l = Undoubted (doubted.Types l.names) (about_all (take l.of_type-index l.types))
