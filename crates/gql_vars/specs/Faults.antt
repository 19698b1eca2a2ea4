-- Faults of an operation at uses of variables, which may be in other files: those of the fragments
-- that it reaches.
use Rattle.std.specs.Prelude.{[], ◌∷◌, Some}
use Rattle.gql_ast.specs.declared.fault.Fault.{Fault}
use Rattle.gql_ast.specs.declared.fault.FilePlace.{FilePlace}
use Rattle.gql_ast.specs.declared.fault.FileSide.TheVariants.{Documents}
use Rattle.gql_ast.specs.declared.rule.Rule.{Rule}
use Rattle.gql_vars.specs.Uses.{Use}

-- where a use is
abbrev pub place_of : Use → FilePlace
place_of x = record { side = Documents; file = x.file; place = x.place }

-- a fault at a use, about the variable
abbrev pub fault_of_use : FilePlace → Rule → Use → Fault
fault_of_use owner rule x =
    record { rule = rule; about = x.name; places = place_of x ∷ []; owner = Some owner }
