use Rattle.std.proofs.Common.{◌≡◌, map, take}
use Rattle.serde_json.specs.View.{view}
use Rattle.gql_steps.specs.Columns.{prints_in}
use Rattle.gql_steps.proofs.columns.prints_in.Given as goal

abbrev pub invariant-loop-item : goal.invariant-loop-item
invariant-loop-item l = l.prints.items ≡ prints_in l.name (map view (take l.item-index l.items))
