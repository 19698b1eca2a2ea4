use Rattle.std.proofs.Common.{◌≡◌, map, take}
use Rattle.gql_faults.specs.Places.{named}
use Rattle.gql_schema_rules.specs.S08DuplicateArguments.{names_in}
use Rattle.gql_schema_rules.proofs.s08_duplicate_arguments.names_in.Given as goal

abbrev pub invariant-loop-argument : goal.invariant-loop-argument
invariant-loop-argument l = map named l.names.items ≡ names_in l.file (take l.argument-index l.arguments)
