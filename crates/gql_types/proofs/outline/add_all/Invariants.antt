use Rattle.std.proofs.Common.{◌≡◌, ◌++◌, take}
use Rattle.gql_types.proofs.outline.add_all.Given as goal

abbrev pub invariant-loop-definition : goal.invariant-loop-definition
invariant-loop-definition l = l.found ≡ l.fn.found ++ take l.definition-index l.definitions
