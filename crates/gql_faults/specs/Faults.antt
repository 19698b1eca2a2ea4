-- Faults of a schema: which rule, about which text, at which places of schema files. Built-in
-- definitions are in no file, so that they have no faults.
use Rattle.std.specs.Prelude.{ℕ, List, [], ◌∷◌, flat_map, Option, Some, None}
use Rattle.std.specs.Option.{option_map_or}
use Rattle.gql_text.specs.declared.place.Place.{Place}
use Rattle.gql_ast.specs.declared.text.Name.{Name}
use Rattle.gql_ast.specs.declared.fault.Fault.{Fault}
use Rattle.gql_ast.specs.declared.fault.FilePlace.{FilePlace}
use Rattle.gql_ast.specs.declared.fault.FileSide.TheVariants.{Schema}
use Rattle.gql_ast.specs.declared.rule.Rule.{Rule}
use Rattle.gql_built_in.specs.declared.sited.Sited.{Sited}

-- a place of a schema file
abbrev pub in_file : List ℕ → Place → FilePlace
in_file file place = record { side = Schema; file = file; place = place }

-- a fault at these places; the schema's faults have no owner
abbrev pub fault : Rule → List ℕ → List FilePlace → Fault
fault rule about places = record { rule = rule; about = about; places = places; owner = None }

-- a fault at a place, if it is in a file
abbrev pub fault_in : Rule → List ℕ → Option (List ℕ) → Place → List Fault
fault_in rule about None place = []
fault_in rule about (Some file) place = fault rule about (in_file file place ∷ []) ∷ []

-- a fault at a place with its file, if it is in one
abbrev pub fault_at : Rule → List ℕ → Sited Place → List Fault
fault_at rule about at = fault_in rule about at.file at.node

-- a fault at two places, if both are in files
abbrev pub fault_in_both : Rule → List ℕ → Option (List ℕ) → Place → Option (List ℕ) → Place
    → List Fault
fault_in_both rule about None place second_file second = []
fault_in_both rule about (Some file) place None second = []
fault_in_both rule about (Some file) place (Some second_file) second =
    fault rule about (in_file file place ∷ in_file second_file second ∷ []) ∷ []

-- a fault at two places with their files, if both are in one
abbrev pub fault_between : Rule → List ℕ → Sited Place → Sited Place → List Fault
fault_between rule about first second =
    fault_in_both rule about first.file first.node second.file second.node

-- the place of a name
abbrev pub place_of : Sited Name → Sited Place
place_of n = record { file = n.file; node = n.node.place }

-- the name of a node, in the file of the node
abbrev pub own_name_of : {A : Type 0} → (A → Name) → Sited A → Sited Name
own_name_of own_name n = record { file = n.file; node = own_name n.node }

-- a fault at a name, about it
abbrev pub fault_of : Rule → Sited Name → List Fault
fault_of rule n = fault_at rule n.node.text (place_of n)

-- a fault at each of these names
abbrev pub faults_of : Rule → List (Sited Name) → List Fault
faults_of rule names = flat_map (fault_of rule) names

-- the faults that depend on a definition found by its name; none if no definition has the name
abbrev pub where_known : {A : Type 0} → Option A → (A → List Fault) → List Fault
where_known known faults = option_map_or faults known []
