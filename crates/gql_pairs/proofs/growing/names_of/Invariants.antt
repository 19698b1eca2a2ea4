use Rattle.std.proofs.Common.{take}
use Rattle.gql_pairs.specs.Gathering.{AreNames}
use Rattle.gql_pairs.proofs.growing.names_of.Given as goal

abbrev pub invariant-loop-fragment : goal.invariant-loop-fragment
invariant-loop-fragment l = AreNames l.names.keys (take l.fragment-index l.fragments)
