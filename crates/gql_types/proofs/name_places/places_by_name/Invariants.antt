use Rattle.std.proofs.Common.{◌≡◌, ◌≤◌, ℕ, List, bytes_eq, drop, length, map}
use Rattle.std.specs.Prelude.{IsTrue}
use Rattle.std.specs.HashMap as hash
use Rattle.std.specs.List.{position_from}
use Rattle.gql_types.specs.Names.{AreOnce}
use Rattle.gql_types.proofs.name_places.places_by_name.Given as goal

abbrev pub invariant-things : goal.invariant-things
invariant-things g l = (l.place ≤ length l.things) × ((q : List ℕ) → hash.get_by_text l.first q
    ≡ position_from (λ x. bytes_eq q (g.T.HasName.name x)) l.place (drop l.place l.things))
    × (IsTrue l.are_once → AreOnce (map g.T.HasName.name (drop l.place l.things)))

abbrev pub decreases-things : goal.decreases-things
decreases-things g l = l.place
