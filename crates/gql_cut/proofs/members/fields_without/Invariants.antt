use Rattle.std.proofs.Common.{◌≡◌, map, take}
use Rattle.gql_cut.specs.Cuts.{field_without}
use Rattle.gql_cut.proofs.members.fields_without.Given as goal

abbrev pub invariant-loop-definition : goal.invariant-loop-definition
invariant-loop-definition l = l.left.items ≡ map (field_without l.field l.name) (take l.definition-index l.fields)
