use Rattle.std.proofs.Common.{◌≡◌, flat_map, take}
use Rattle.gql_cut.specs.Cuts.{other_field}
use Rattle.gql_cut.proofs.members.fields_but.Given as goal

abbrev pub invariant-loop-field : goal.invariant-loop-field
invariant-loop-field l = l.left.items ≡ flat_map (other_field l.name) (take l.field-index l.fields)
