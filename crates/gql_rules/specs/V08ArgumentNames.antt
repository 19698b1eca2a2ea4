-- V08, Argument Names: an argument of a field or a directive is not defined (GraphQL 5.4.1).
-- Reported at the argument's name, about the argument.
use Rattle.std.specs.Prelude.{ℕ, List, [], ◌∷◌, bytes_eq, Option, find, flat_map, is_some, if◌then◌else◌}
use Rattle.gql_ast.specs.declared.fault.Fault.{Fault}
use Rattle.gql_ast.specs.declared.fault.FilePlace.{FilePlace}
use Rattle.gql_ast.specs.declared.literal.Argument.{Argument}
use Rattle.gql_ast.specs.declared.rule.Rule.TheVariants as rule
use Rattle.gql_facts.specs.declared.fact.InputFact.{InputFact}
use Rattle.gql_faults.specs.Faults.{where_known}
use Rattle.gql_rules.specs.Faults.{fault_of}

-- the argument that is defined under this name
abbrev pub defined : List InputFact → List ℕ → Option InputFact
defined inputs name = find (λ (i : InputFact). bytes_eq name i.name) inputs

-- the fault of an argument of a field or a directive that defines these
abbrev pub fault_of_argument : FilePlace → List InputFact → Argument → List Fault
fault_of_argument owner inputs a =
    if is_some (defined inputs a.name.text) then [] else fault_of owner rule.V08 a.name ∷ []

-- the faults of the arguments of a field or a directive that defines these, if it is known
abbrev pub faults : FilePlace → Option (List InputFact) → List Argument → List Fault
faults owner known given = where_known known
    (λ (inputs : List InputFact). flat_map (fault_of_argument owner inputs) given)
