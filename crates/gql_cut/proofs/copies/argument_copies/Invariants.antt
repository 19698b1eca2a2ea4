use Rattle.std.proofs.Common.{◌≡◌, take}
use Rattle.gql_cut.proofs.copies.argument_copies.Given as goal

abbrev pub invariant-loop-argument : goal.invariant-loop-argument
invariant-loop-argument l = l.copies.items ≡ take l.argument-index l.arguments
