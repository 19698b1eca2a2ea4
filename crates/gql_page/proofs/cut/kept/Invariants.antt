use Rattle.std.proofs.Common.{◌≤◌}
use Rattle.gql_page.proofs.cut.kept.Given as goal

abbrev pub invariant-loop-index : goal.invariant-loop-index
invariant-loop-index l = l.kept ≤ l.index
