use Rattle.std.proofs.Common.{◌≡◌, ◌++◌, map, take}
use Rattle.gql_vars.specs.Lists.{use_of}
use Rattle.gql_vars.specs.Uses.{set_uses}
use Rattle.gql_vars.proofs.selections.+selections.Given as goal

abbrev pub invariant-add_set_uses-loop-selection : goal.invariant-add_set_uses-loop-selection
invariant-add_set_uses-loop-selection l = map use_of l.uses.items
    ≡ map use_of l.initial.uses.items ++ set_uses l.file (take l.selection-index l.set)
