use Rattle.std.proofs.Common.{length}
use Rattle.gql_report.proofs.order.+places_cmp.Given as goal

abbrev pub decreases-places_cmp : goal.decreases-places_cmp
decreases-places_cmp l = length l.places.now
