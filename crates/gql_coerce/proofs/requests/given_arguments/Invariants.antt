use Rattle.std.proofs.Common.{◌≡◌, map, take}
use Rattle.gql_coerce.proofs.requests.given_arguments.Given as goal

abbrev pub invariant-loop-argument : goal.invariant-loop-argument
invariant-loop-argument l = map (λ g. g.argument.now) l.found.items ≡ take l.argument-index l.arguments
