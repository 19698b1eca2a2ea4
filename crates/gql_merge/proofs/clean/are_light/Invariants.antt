use Rattle.std.proofs.Common.{Contains, take}
use Rattle.gql_merge.specs.Light.{IsLight}
use Rattle.gql_merge.specs.declared.flat.FlatSet.{FlatSet}
use Rattle.gql_merge.proofs.clean.are_light.Given as goal

abbrev pub invariant-loop-set : goal.invariant-loop-set
invariant-loop-set l = (s : FlatSet) → Contains (take l.set-index l.sets) s → IsLight l.clean s
