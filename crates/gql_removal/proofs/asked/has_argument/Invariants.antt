use Rattle.std.proofs.Common.{◌≡◌, drop}
use Rattle.gql_removal.specs.Asked.{has_argument}
use Rattle.gql_removal.proofs.asked.has_argument.Given as goal

abbrev pub invariant-loop-argument : goal.invariant-loop-argument
invariant-loop-argument l = has_argument l.arguments l.name ≡ has_argument (drop l.argument-index l.arguments) l.name
