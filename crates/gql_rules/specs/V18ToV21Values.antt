-- V18, Values of Correct Type: a value does not fit the type that is expected of it (GraphQL
-- 5.6.1).
-- V19, Input Object Field Names: an object value has a field that is not defined (GraphQL 5.6.2).
-- V20, Input Object Field Uniqueness: an object value has two fields of the same name (GraphQL
-- 5.6.3).
-- V21, Input Object Required Fields: a required input field is missing or null (GraphQL 5.6.4).
-- They check the values of arguments and the default values of variables, in the way of default
-- values in a schema. If the argument is not known, V20 alone is reported.
-- Reported at the bad value, at a field's name, or at an object's start.
use Rattle.std.specs.Prelude.{ℕ, List, [], ◌&&◌, map, flat_map, Option, Some, None, if◌then◌else◌}
use Rattle.std.specs.Option.{option_and_then}
use Rattle.gql_ast.specs.declared.executable.VariableDefinition.{VariableDefinition}
use Rattle.gql_ast.specs.declared.fault.Fault.{Fault}
use Rattle.gql_ast.specs.declared.fault.FilePlace.{FilePlace}
use Rattle.gql_ast.specs.declared.literal.Argument.{Argument}
use Rattle.gql_ast.specs.declared.literal.Literal.{Literal}
use Rattle.gql_types.specs.Written.{Written, written}
use Rattle.gql_types.specs.WrittenTypes.{typed_of}
use Rattle.gql_facts.specs.Worlds.{Facts}
use Rattle.gql_facts.specs.declared.fact.InputFact.{InputFact}
use Rattle.gql_inputs.specs.BadValues.{bad_values_by, repeats}
use Rattle.gql_inputs.specs.Lookups.{InputLookup}
use Rattle.gql_inputs.specs.Values.{value_of}
use Rattle.gql_inputs.specs.declared.bad_value.BadValue.{BadValue}
use Rattle.gql_rules.specs.Answers.{is_required}
use Rattle.gql_rules.specs.Faults.{fault_at}
use Rattle.gql_rules.specs.KnownInputs.{known_inputs}
use Rattle.gql_rules.specs.Literals.{is_null}
use Rattle.gql_rules.specs.V08ArgumentNames.{defined}

-- the fault of a bad value
abbrev pub fault_of_value : FilePlace → BadValue → Fault
fault_of_value owner b = fault_at owner b.rule b.about b.place

-- the faults of a value where this type is expected
abbrev pub value_faults : InputLookup → FilePlace → Written → Literal → List Fault
value_faults look owner t x = map (fault_of_value owner) (bad_values_by look (value_of x) t)

-- the faults of a value where no type is known
abbrev pub repeat_faults : FilePlace → Literal → List Fault
repeat_faults owner x = map (fault_of_value owner) (repeats (value_of x))

-- the faults of an argument, by its definition, if it is known; null for a required argument is
-- reported by V10
abbrev pub faults_by : InputLookup → FilePlace → Argument → Option InputFact → List Fault
faults_by look owner a None = repeat_faults owner a.value
faults_by look owner a (Some i) = if is_null a.value && is_required i
    then []
    else value_faults look owner (typed_of i.of_type) a.value

-- the definition of the argument of this name, if the definitions are known
abbrev pub definition_of : Option (List InputFact) → List ℕ → Option InputFact
definition_of known name =
    option_and_then (λ (inputs : List InputFact). defined inputs name) known

-- the faults of an argument of a field or a directive that defines these, if it is known
abbrev pub faults_of_argument : InputLookup → FilePlace → Option (List InputFact) → Argument
    → List Fault
faults_of_argument look owner known a =
    faults_by look owner a (definition_of known a.name.text)

-- the faults of the arguments of a field or a directive that defines these, if it is known
abbrev pub faults : Facts → FilePlace → Option (List InputFact) → List Argument → List Fault
faults facts owner known = flat_map (faults_of_argument (known_inputs facts) owner known)

-- the faults of the default value of a variable of this type, if it has one
abbrev pub faults_of_default : InputLookup → FilePlace → Written → Option Literal → List Fault
faults_of_default look owner t None = []
faults_of_default look owner t (Some x) = value_faults look owner t x

-- the faults of the default value of a variable
abbrev pub faults_of_variable : Facts → FilePlace → VariableDefinition → List Fault
faults_of_variable facts owner v =
    faults_of_default (known_inputs facts) owner (written v.of_type) v.default
