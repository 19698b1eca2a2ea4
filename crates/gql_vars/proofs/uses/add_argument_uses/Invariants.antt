use Rattle.std.proofs.Common.{◌≡◌, ◌++◌, map, take}
use Rattle.gql_vars.specs.Lists.{use_of}
use Rattle.gql_vars.specs.Uses.{argument_uses}
use Rattle.gql_vars.proofs.uses.add_argument_uses.Given as goal

abbrev pub invariant-loop-argument : goal.invariant-loop-argument
invariant-loop-argument l = map use_of l.uses.items
    ≡ map use_of l.initial.uses.items ++ argument_uses l.file (take l.argument-index l.arguments)
