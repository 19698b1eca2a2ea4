-- Helper definitions for contracts: borrowed names and places, as values.
use Rattle.std.specs.Option.{option_copied}
use Rattle.gql_text.specs.declared.place.Place.{Place}
use Rattle.gql_ast.specs.declared.text.Name.{Name}
use Rattle.gql_built_in.specs.declared.sited.Sited.{Sited}
use Rattle.gql_faults.specs.declared.place.NamePlace.{NamePlace}
use Rattle.gql_faults.specs.declared.place.Spot.{Spot}

-- a borrowed name and its file
abbrev pub named : NamePlace → Sited Name
named n = record { file = option_copied n.file; node = n.name.now }

-- a place of a borrowed file
abbrev pub spot : Spot → Sited Place
spot s = record { file = option_copied s.file; node = s.place }
