use Rattle.std.proofs.Common.{◌≡◌, flat_map, take}
use Rattle.gql_cut.specs.Cuts.{definition_left}
use Rattle.gql_cut.proofs.document.document_left.Given as goal

abbrev pub invariant-loop-definition : goal.invariant-loop-definition
invariant-loop-definition l = l.left.items ≡ flat_map (definition_left l.subject) (take l.definition-index l.definition-items)
