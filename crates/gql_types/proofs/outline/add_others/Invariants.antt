use Rattle.std.proofs.Common.{◌≡◌, ◌++◌, take}
use Rattle.gql_types.specs.Sites.{others_in}
use Rattle.gql_types.proofs.outline.add_others.Given as goal

abbrev pub invariant-loop-definition : goal.invariant-loop-definition
invariant-loop-definition l = l.found ≡ l.fn.found ++ others_in (take l.definition-index l.definitions)
