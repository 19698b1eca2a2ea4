use Rattle.std.proofs.Common.{◌≡◌, ◌≤◌, ℕ, drop, length}
use Rattle.std.specs.Prelude.{nat_eq}
use Rattle.std.specs.HashMap as hash
use Rattle.std.specs.List.{position_from}
use Rattle.gql_types.specs.Prints.{AreDistinct}
use Rattle.gql_types.proofs.name_places.places_of_prints.Given as goal

abbrev pub invariant-prints : goal.invariant-prints
invariant-prints l = (l.place ≤ length l.prints) × ((p : ℕ) → hash.get nat_eq l.first p
    ≡ position_from (nat_eq p) l.place (drop l.place l.prints))
    × AreDistinct (drop l.place l.prints)

abbrev pub decreases-prints : goal.decreases-prints
decreases-prints l = l.place
