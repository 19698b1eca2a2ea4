use Rattle.std.proofs.Common.{◌≡◌, ◌++◌, take}
use Rattle.gql_clashes.specs.Reach.{across}
use Rattle.gql_clashes.proofs.needed.add_across.Given as goal

abbrev pub invariant-loop-left : goal.invariant-loop-left
invariant-loop-left l = l.pairs.items ≡ l.fn.pairs.items ++ across (take l.left-index l.lefts) l.rights
