-- Faults of an operation or a fragment, which owns them: their rules, the texts that they are
-- about, and their places in the owner's file.
use Rattle.std.specs.Prelude.{ℕ, List, [], ◌∷◌, Some}
use Rattle.gql_text.specs.declared.place.Place.{Place}
use Rattle.gql_ast.specs.declared.fault.Fault.{Fault}
use Rattle.gql_ast.specs.declared.fault.FilePlace.{FilePlace}
use Rattle.gql_ast.specs.declared.fault.FileSide.TheVariants.{Documents}
use Rattle.gql_ast.specs.declared.rule.Rule.{Rule}
use Rattle.gql_ast.specs.declared.text.Name.{Name}

-- a place in the owner's file
abbrev pub in_its_file : FilePlace → Place → FilePlace
in_its_file owner place = record { side = Documents; file = owner.file; place = place }

-- a fault at a place
abbrev pub fault_at : FilePlace → Rule → List ℕ → Place → Fault
fault_at owner rule about place =
    record { rule = rule; about = about; places = in_its_file owner place ∷ []; owner = Some owner }

-- a fault at a name, about it
abbrev pub fault_of : FilePlace → Rule → Name → Fault
fault_of owner rule name = fault_at owner rule name.text name.place
