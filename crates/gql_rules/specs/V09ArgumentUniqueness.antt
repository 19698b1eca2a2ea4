-- V09, Argument Uniqueness: an argument is given twice (GraphQL 5.4.2).
-- Reported at each argument's name, about the argument.
use Rattle.std.specs.Prelude.{List, [], ◌∷◌, flat_map, if◌then◌else◌}
use Rattle.gql_ast.specs.declared.fault.Fault.{Fault}
use Rattle.gql_ast.specs.declared.fault.FilePlace.{FilePlace}
use Rattle.gql_ast.specs.declared.literal.Argument.{Argument}
use Rattle.gql_ast.specs.declared.rule.Rule.TheVariants as rule
use Rattle.gql_rules.specs.Faults.{fault_of}
use Rattle.gql_rules.specs.Parts.{is_repeated, argument_name}

-- the fault of one of the given arguments
abbrev pub fault_of_argument : FilePlace → List Argument → Argument → List Fault
fault_of_argument owner given a = if is_repeated argument_name given a.name.text
    then fault_of owner rule.V09 a.name ∷ []
    else []

-- the faults of the arguments of a field or a directive
abbrev pub faults : FilePlace → List Argument → List Fault
faults owner given = flat_map (fault_of_argument owner given) given
