use Rattle.std.proofs.Common.{take}
use Rattle.gql_merge.proofs.SpreadParts.{in_set}
use Rattle.gql_merge.specs.SpreadNames.{AddsSets}
use Rattle.gql_merge.proofs.spread_names.+within.Given as goal

abbrev pub invariant-add_sets-loop-selection : goal.invariant-add_sets-loop-selection
invariant-add_sets-loop-selection l = AddsSets (in_set (take l.selection-index l.set)) l.initial.sets.items l.sets.items
