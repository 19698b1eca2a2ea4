-- The laws of coercion. `src/laws.rt` has a function for each.
use Rattle.std.specs.Prelude.{◌≡◌, ℕ, List, [], ◌∷◌, Bool, true, false, Option, Some, Contains}
use Rattle.gql_ast.specs.declared.executable.VariableDefinition.{VariableDefinition}
use Rattle.gql_ast.specs.declared.literal.Argument.{Argument}
use Rattle.gql_ast.specs.declared.literal.Literal.{Literal}
use Rattle.gql_ast.specs.declared.type_system.InputValueDefinition.{InputValueDefinition}
use Rattle.gql_inputs.specs.BadValues.{bad_values, fits, repeats}
use Rattle.gql_inputs.specs.Values.{value_of}
use Rattle.gql_inputs.specs.declared.bad_value.BadValue.{BadValue}
use Rattle.gql_types.specs.Written.{Written}
use Rattle.gql_types.specs.declared.schema.Schema.{Schema}
use Rattle.serde_json.specs.Data.{Data}
use Rattle.gql_coerce.specs.Coercion.{coerced}
use Rattle.gql_coerce.specs.Comes.{Outcome, Comes, value, refused, reached}
use Rattle.gql_coerce.specs.Defaults.{HasNoCycle}
use Rattle.gql_coerce.specs.Fitting.{HasGoodFields, IsConstant, IsKnown, Reports}
use Rattle.gql_coerce.specs.Inputs.{Input, literal}
use Rattle.gql_coerce.specs.Requests.{VariablesCome, ArgumentsCome}
use Rattle.gql_coerce.specs.declared.refusal.Reason.{Reason}
use Rattle.gql_coerce.specs.declared.refusal.Segment.{Segment}
use Rattle.gql_coerce.specs.declared.refusal.Segment.TheVariants.{Key}

-- an input comes to at most one outcome at a type
abbrev pub OneOutcome : Type 0
OneOutcome = (s : Schema) (x : Input) (t : Written) (o p : Outcome (Option Data)) → Comes s x t o
    → Comes s x t p → o ≡ p

-- an input comes to the outcome that is reached with some number of levels
abbrev pub AnyDepth : Type 0
AnyDepth = (s : Schema) (x : Input) (t : Written) (o : Outcome (Option Data)) (n : ℕ)
    → coerced n s x (Some t) ≡ reached o → Comes s x t o

-- the variables of a request come to at most one outcome
abbrev pub OneOfVariables : Type 0
OneOfVariables = (s : Schema) (definitions : List VariableDefinition) (values : Data)
    (o p : Outcome Data) → VariablesCome s definitions values o
    → VariablesCome s definitions values p
    → o ≡ p

-- arguments come to at most one outcome
abbrev pub OneOfArguments : Type 0
OneOfArguments = (s : Schema) (definitions : List InputValueDefinition) (given : List Argument)
    (values : Data) (o p : Outcome Data) → ArgumentsCome s definitions given values o
    → ArgumentsCome s definitions given values p → o ≡ p

-- if no default value leads back to itself, each input comes to an outcome
abbrev pub SomeOutcome : Type 0
SomeOutcome = (s : Schema) → HasNoCycle s → (x : Input) (t : Written)
    → (o : Outcome (Option Data)) × Comes s x t o

-- If the fields of input objects are good and the type is known: when coercion refuses a literal
-- without variables, that refusal is among the bad values of the literal, by its rule and at its
-- place.
abbrev pub RefusalIsReported : Type 0
RefusalIsReported = (s : Schema) → HasGoodFields s → (t : Written) → IsKnown s t
    → (x : Literal) → IsConstant x → (values : Data) (r : Reason) (path : List Segment)
    → Comes s (literal values x) t (refused r path)
    → (b : BadValue) × Contains (bad_values s x t) b × Reports x r path b

-- whether an outcome is a value
abbrev pub is_value : {A : Type 0} → Outcome A → Bool
is_value (value x) = true
is_value (refused r path) = false

-- Under the same premises, and if no object gives a field twice: a literal fits exactly if it comes
-- to a value. (If a field is given twice, coercion takes the first, but each of the two is a
-- fault.)
abbrev pub FitsWhereCoerced : Type 0
FitsWhereCoerced = (s : Schema) → HasGoodFields s → (t : Written) → IsKnown s t
    → (x : Literal) → IsConstant x → repeats (value_of x) ≡ [] → (values : Data)
    → (o : Outcome (Option Data)) → Comes s (literal values x) t o → fits s x t ≡ is_value o

-- if no default value leads back to itself, the variables of a request come to an outcome
abbrev pub SomeOfVariables : Type 0
SomeOfVariables = (s : Schema) → HasNoCycle s → (definitions : List VariableDefinition)
    → (values : Data) → (o : Outcome Data) × VariablesCome s definitions values o

-- if no default value leads back to itself, the arguments of a field come to an outcome
abbrev pub SomeOfArguments : Type 0
SomeOfArguments = (s : Schema) → HasNoCycle s → (definitions : List InputValueDefinition)
    → (given : List Argument) → (values : Data)
    → (o : Outcome Data) × ArgumentsCome s definitions given values o

-- a refusal of the variables of a request begins with the name of one of them
abbrev pub NamedRefusals : Type 0
NamedRefusals = (s : Schema) (definitions : List VariableDefinition) (values : Data) (why : Reason)
    (path : List Segment) → VariablesCome s definitions values (refused why path)
    → (v : VariableDefinition) × Contains definitions v
    × ((rest : List Segment) × (path ≡ Key v.name.text ∷ rest))
