use Rattle.std.proofs.Common.{◌≡◌, ◌++◌, map, take}
use Rattle.gql_vars.specs.Lists.{use_of}
use Rattle.gql_vars.specs.Uses.{directive_uses}
use Rattle.gql_vars.proofs.uses.add_directive_uses.Given as goal

abbrev pub invariant-loop-directive : goal.invariant-loop-directive
invariant-loop-directive l = map use_of l.uses.items
    ≡ map use_of l.initial.uses.items ++ directive_uses l.file (take l.directive-index l.directives)
