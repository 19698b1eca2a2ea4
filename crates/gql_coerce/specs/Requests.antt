-- The values of the variables of a request (GraphQL specification, 6.1.2), and of the arguments of
-- a field (6.4.1).
use Rattle.std.specs.Prelude.{ℕ, List, [], map, find, bytes_eq, Option, Some, None, option_map, ⊤, ◌≡◌, if◌then◌else◌}
use Rattle.gql_ast.specs.declared.literal.Argument.{Argument}
use Rattle.gql_ast.specs.declared.literal.Literal.{Literal}
use Rattle.gql_ast.specs.declared.executable.VariableDefinition.{VariableDefinition}
use Rattle.gql_ast.specs.declared.type_system.InputValueDefinition.{InputValueDefinition}
use Rattle.gql_inputs.specs.InputTypes.{is_non_null}
use Rattle.gql_types.specs.Written.{Written, written}
use Rattle.gql_types.specs.declared.schema.Schema.{Schema}
use Rattle.serde_json.specs.Data as json
use Rattle.serde_json.specs.Data.{Data}
use Rattle.serde_json.specs.Find.{get}
use Rattle.gql_coerce.specs.Coercion.{coerced, object_of, under}
use Rattle.gql_coerce.specs.Comes.{Outcome, Eventually, reached}
use Rattle.gql_coerce.specs.Comes as comes
use Rattle.gql_coerce.specs.Inputs.{Input, literal, json_input}
use Rattle.gql_coerce.specs.Outcomes.{Reached, value, refused, after, within}
use Rattle.gql_coerce.specs.declared.fault.CoerceFault.{CoerceFault}
use Rattle.gql_coerce.specs.declared.fault.CoerceFault.TheVariants as fault
use Rattle.gql_coerce.specs.declared.refusal.Reason.TheVariants as reason
use Rattle.gql_coerce.specs.declared.refusal.Segment.TheVariants as segment

-- what a fault states about a computation that comes to an outcome: its refusal; nothing, if an
-- allocation failed
abbrev pub Tells : {A : Type 0} → CoerceFault → (Outcome A → Type 0) → Type 0
Tells (fault.Refused r) Comes = Comes (comes.refused r.reason r.path)
Tells fault.Memory Comes = ⊤

-- ---- with at most n levels

-- the default value at a type; without one there is no value, if the type is not Non-Null
abbrev pub default_at : ℕ → Schema → Written → Option Literal → Reached (Option Data)
default_at n s t (Some x) = coerced n s (literal json.null x) (Some t)
default_at n s t None = if is_non_null t then refused reason.NullForNonNull [] else value None

-- what is given, or else the default value
abbrev pub or_default_at : ℕ → Schema → Written
    → Option Literal → Option Data → Reached (Option Data)
or_default_at n s t default (Some d) = value (Some d)
or_default_at n s t default None = default_at n s t default

-- what the given input comes to, if there is one
abbrev pub given_at : ℕ → Schema → Written → Option Input → Reached (Option Data)
given_at n s t None = value None
given_at n s t (Some x) = coerced n s x (Some t)

-- what a variable or an argument of this name comes to
abbrev pub request_at : ℕ → Schema → List ℕ
    → Written → Option Literal → Option Input → Reached (Option Data)
request_at n s name t default x =
    within (segment.Key name) (after (given_at n s t x) (or_default_at n s t default))

-- ---- variables

-- the value of a variable
abbrev pub variable_value : ℕ → Schema → Data → VariableDefinition → Reached (Option Data)
variable_value n s values v = request_at n s v.name.text
    (written v.of_type) v.default (option_map json_input (get v.name.text values))

-- the value of a variable under its name
abbrev pub named_variable : ℕ → Schema → Data
    → VariableDefinition → Reached (Option (List ℕ × Data))
named_variable n s values v = after (variable_value n s values v) (λ d. value (under v.name.text d))

-- the values of variables, in the order of their definitions
abbrev pub variables : ℕ → Schema → List VariableDefinition → Data → Reached Data
variables n s definitions values =
    object_of (map (named_variable n s values) definitions) json.no_members

-- ---- arguments

-- the argument of a name; if there are several, the first counts
abbrev pub argument_of : Data → List Argument → List ℕ → Option Input
argument_of values arguments n = option_map (λ (a : Argument). literal values a.value)
    (find (λ (a : Argument). bytes_eq n a.name.text) arguments)

-- the value of an argument
abbrev pub argument_value : ℕ → Schema → Data
    → List Argument → InputValueDefinition → Reached (Option Data)
argument_value n s values arguments d = request_at n s d.name.text
    (written d.of_type) d.default (argument_of values arguments d.name.text)

-- the value of an argument under its name
abbrev pub named_argument : ℕ → Schema → Data
    → List Argument → InputValueDefinition → Reached (Option (List ℕ × Data))
named_argument n s values arguments d =
    after (argument_value n s values arguments d) (λ v. value (under d.name.text v))

-- the values of arguments, in the order of their definitions
abbrev pub arguments : ℕ → Schema → List InputValueDefinition → List Argument → Data → Reached Data
arguments n s definitions given values =
    object_of (map (named_argument n s values given) definitions) json.no_members

-- ---- at any depth

-- the variables of these definitions come to this object or this refusal; the object `values` has
-- what a request gives
abbrev pub VariablesCome : Schema → List VariableDefinition → Data → Outcome Data → Type 0
VariablesCome s definitions values o =
    Eventually (λ n. variables n s definitions values ≡ reached o)

-- the arguments of these definitions come to this object or this refusal; `given` has the
-- arguments, and the object `values` the values of the variables
abbrev pub ArgumentsCome : Schema → List InputValueDefinition
    → List Argument → Data → Outcome Data → Type 0
ArgumentsCome s definitions given values o =
    Eventually (λ n. arguments n s definitions given values ≡ reached o)
