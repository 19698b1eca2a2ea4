-- Where a definition of a manifest comes from.
use Rattle.std.specs.Prelude.{ℕ, ◌++◌, List, codes, string_bytes}
use Rattle.gql_manifest.specs.declared.origin.Origin.{Origin}

-- the path of a manifest, and the id of an operation there
abbrev pub Place : Type 0
Place = List ℕ × List ℕ

-- the place that an origin says
abbrev pub place_of : Origin → Place
place_of origin = (string_bytes origin.path, string_bytes origin.id)

-- where an operation comes from, in words
abbrev pub origin_text : Place → List ℕ
origin_text place = codes "operation " ++ place.1 ++ codes " of " ++ place.0
