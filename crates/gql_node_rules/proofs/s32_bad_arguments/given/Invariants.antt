use Rattle.std.proofs.Common.{◌≡◌, map, take}
use Rattle.std.specs.Option.{option_copied}
use Rattle.gql_faults.specs.Places.{named}
use Rattle.gql_types.specs.Parts.{sited}
use Rattle.gql_node_rules.specs.S32BadArguments.{names_of}
use Rattle.gql_node_rules.proofs.s32_bad_arguments.given.Given as goal

abbrev pub invariant-loop-argument : goal.invariant-loop-argument
invariant-loop-argument l = map named l.found.items ≡ sited (option_copied l.applied.file) (names_of (take l.argument-index l.argument-items))
