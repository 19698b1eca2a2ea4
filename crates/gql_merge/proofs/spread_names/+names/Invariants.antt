use Rattle.std.proofs.Common.{take}
use Rattle.gql_merge.proofs.SpreadParts.{in_set}
use Rattle.gql_merge.specs.SpreadNames.{AddsNames}
use Rattle.gql_merge.proofs.spread_names.+names.Given as goal

abbrev pub invariant-add_names-loop-selection : goal.invariant-add_names-loop-selection
invariant-add_names-loop-selection l = AddsNames (in_set (take l.selection-index l.set)) l.initial.names.items l.names.items
