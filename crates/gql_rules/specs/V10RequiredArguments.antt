-- V10, Required Arguments: a required argument is missing or null (GraphQL 5.4.2.1).
-- Reported at the start of the field, or `@`, about the argument.
use Rattle.std.specs.Prelude.{ℕ, List, [], ◌∷◌, Bool, bytes_eq, Option, flat_map, ◌&&◌, ◌||◌, not, if◌then◌else◌}
use Rattle.std.specs.List.{list_any}
use Rattle.gql_text.specs.declared.place.Place.{Place}
use Rattle.gql_ast.specs.declared.fault.Fault.{Fault}
use Rattle.gql_ast.specs.declared.fault.FilePlace.{FilePlace}
use Rattle.gql_ast.specs.declared.literal.Argument.{Argument}
use Rattle.gql_ast.specs.declared.rule.Rule.TheVariants as rule
use Rattle.gql_facts.specs.declared.fact.InputFact.{InputFact}
use Rattle.gql_faults.specs.Faults.{where_known}
use Rattle.gql_rules.specs.Answers.{is_required}
use Rattle.gql_rules.specs.Faults.{fault_at}
use Rattle.gql_rules.specs.Literals.{is_null}

-- whether an argument of this name is given
abbrev pub is_given : List Argument → List ℕ → Bool
is_given given name = list_any (λ (a : Argument). bytes_eq name a.name.text) given

-- whether an argument of this name is given as the literal `null`, once or more
abbrev pub is_given_null : List Argument → List ℕ → Bool
is_given_null given name =
    list_any (λ (a : Argument). bytes_eq name a.name.text && is_null a.value) given

-- whether an argument of this name is missing or null
abbrev pub is_lacking : List Argument → List ℕ → Bool
is_lacking given name = not (is_given given name) || is_given_null given name

-- the fault about an argument that is defined
abbrev pub fault_about : FilePlace → Place → List Argument → InputFact → List Fault
fault_about owner at given input = if is_required input && is_lacking given input.name
    then fault_at owner rule.V10 input.name at ∷ []
    else []

-- the faults of a field or a directive at this place that defines these arguments, if it is known
abbrev pub faults : FilePlace → Place → Option (List InputFact) → List Argument → List Fault
faults owner at known given = where_known known
    (λ (inputs : List InputFact). flat_map (fault_about owner at given) inputs)
