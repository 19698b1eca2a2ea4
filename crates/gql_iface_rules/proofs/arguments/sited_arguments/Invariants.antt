use Rattle.std.proofs.Common.{◌≡◌, take}
use Rattle.gql_types.specs.Parts.{sited}
use Rattle.gql_iface_rules.proofs.arguments.sited_arguments.Given as goal

abbrev pub invariant-loop-argument : goal.invariant-loop-argument
invariant-loop-argument l = l.found.items ≡ sited l.file (take l.argument-index l.arguments)
