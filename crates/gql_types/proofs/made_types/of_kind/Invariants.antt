use Rattle.std.proofs.Common.{◌≡◌, map, filter, take}
use Rattle.gql_types.specs.Kinds.{same_kind}
use Rattle.gql_types.specs.Parts.{kind_of}
use Rattle.gql_types.proofs.made_types.of_kind.Given as goal

abbrev pub invariant-loop-extension : goal.invariant-loop-extension
invariant-loop-extension l = l.found ≡ filter (λ e. same_kind l.kind (kind_of e.node.parts)) (map (λ e. e.now) (take l.extension-index l.extensions))
