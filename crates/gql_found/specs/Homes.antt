-- The definition that a fault of a schema is in.
use Rattle.std.specs.Prelude.{ℕ, ◌-◌, List, [], Bool, Option, Some, None, filter, length, nat_le, option_map, slice_get, unwrap_or}
use Rattle.gql_ast.specs.FileMaps.{file_named}
use Rattle.gql_ast.specs.Trees as trees
use Rattle.gql_ast.specs.declared.definition.Definition.{Definition}
use Rattle.gql_ast.specs.declared.definition.Document.{Document}
use Rattle.gql_ast.specs.declared.fault.Fault.{Fault}
use Rattle.gql_ast.specs.declared.fault.FilePlace.{FilePlace}
use Rattle.gql_ast.specs.declared.files.Files.{Files}
use Rattle.gql_found.specs.Owners.{owner_of}
use Rattle.gql_findings.specs.declared.finding.Owner.{Owner}
use Rattle.gql_registry.specs.Sides.{files_on}

-- whether a definition starts at or before an offset
abbrev pub starts_by : ℕ → Definition → Bool
starts_by offset d = nat_le (trees.place_of d.tree).offset offset

-- the last of a list, if it has one
abbrev pub last_of : {A : Type 0} → List A → Option A
last_of xs = slice_get xs (length xs - 1)

-- the last of these definitions that starts at or before an offset, if there is one
abbrev pub last_by : ℕ → List Definition → Option Definition
last_by offset ds = last_of (filter (starts_by offset) ds)

-- the definitions of the file of a place; none if there is no such file
abbrev pub definitions_at : Files → FilePlace → List Definition
definitions_at files p =
    unwrap_or (option_map (λ (d : Document). d.definitions)
    (file_named (files_on p.side files) p.file)) []

-- the definition that a place is in: the last of its file that starts at or before it
abbrev pub definition_at : Files → FilePlace → Option Definition
definition_at files p = last_by p.place.offset (definitions_at files p)

-- the definition that a place is in, by its kind and its name, if there is a place
abbrev pub home_at : Files → Option FilePlace → Option Owner
home_at files None = None
home_at files (Some p) = option_map (λ d. owner_of d.tree) (definition_at files p)

-- the definition that a fault is in, if it has no owner: that of its first place
abbrev pub home_of : Files → Option FilePlace → Option FilePlace → Option Owner
home_of files (Some owner) first = None
home_of files None first = home_at files first

abbrev pub definition_of : Files → Fault → Option Owner
definition_of files fault = home_of files fault.owner (slice_get fault.places 0)
