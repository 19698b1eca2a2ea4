use Rattle.std.proofs.Common.{take}
use Rattle.gql_manifest.specs.Joining.{AreApart}
use Rattle.gql_manifest.proofs.joined.stay_apart.Given as goal

abbrev pub invariant-loop-one : goal.invariant-loop-one
invariant-loop-one l = AreApart l.most l.files (take l.one-index l.made)
