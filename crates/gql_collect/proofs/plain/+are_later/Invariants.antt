use Rattle.std.proofs.Common.{length}
use Rattle.gql_collect.proofs.plain.+are_later.Given as goal

abbrev pub decreases-are_later : goal.decreases-are_later
decreases-are_later l = length l.selections.now
