-- Helper definitions for private contracts: where the first of each name is in a list of names.
use Rattle.std.specs.Prelude.{◌≡◌, ℕ, List, IsTrue, bytes_eq, map, nat_eq}
use Rattle.std.specs.HashMap as hash
use Rattle.std.specs.HashMap.{HashMap}
use Rattle.std.specs.List.{position_from}
use Rattle.gql_types.specs.Names.{AreOnce}
use Rattle.gql_types.specs.Prints.{HaveOwnPrints, has_print, print_of}
use Rattle.gql_types.specs.declared.name_places.PlacesByName.{PlacesByName}
use Rattle.gql_types.specs.declared.name_places.Places.{Places}
use Rattle.gql_types.specs.declared.name_places.Places.TheVariants.{ByName, ByPrint}

-- a map has where the first of each of these prints is
abbrev pub HasFirsts : {S : Type 0} → HashMap ℕ ℕ S → List ℕ → Type 0
HasFirsts first prints = (p : ℕ) → hash.get nat_eq first p ≡ position_from (nat_eq p) 0 prints

-- a map has where the first name of each print is
abbrev pub HasPrints : {S : Type 0} → HashMap ℕ ℕ S → List (List ℕ) → Type 0
HasPrints first names = (p : ℕ) → hash.get nat_eq first p ≡ position_from (has_print p) 0 names

-- a map has where the first of each name is; and where it is said that they occur once, they do
abbrev pub HasNames : PlacesByName → List (List ℕ) → Type 0
HasNames places names =
    ((q : List ℕ) → hash.get_by_text places.first q ≡ position_from (bytes_eq q) 0 names)
    × (IsTrue places.are_once → AreOnce names)

-- these are the places of these names: by their prints, if no two of them have one print
abbrev pub ArePlaces : Places → List (List ℕ) → Type 0
ArePlaces (ByPrint places) names = HasPrints places.first names × HaveOwnPrints names
    × (places.prints.items ≡ map print_of names)
ArePlaces (ByName places) names = HasNames places names × (HaveOwnPrints names → ⊥)
