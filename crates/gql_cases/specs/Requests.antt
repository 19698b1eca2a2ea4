-- The values of the variables of a request (GraphQL specification, 6.1.2), and of the arguments of a
-- field (6.4.1), a case for each form. The law `requests` says that these are exactly those that the
-- contracts of gql_coerce cite.
use Rattle.std.specs.Prelude.{◌≡◌, ◌↔◌, ℕ, List, [], ◌∷◌, map, true, false, Option, Some, None, option_map}
use Rattle.gql_ast.specs.declared.executable.VariableDefinition.{VariableDefinition}
use Rattle.gql_ast.specs.declared.literal.Argument.{Argument}
use Rattle.gql_ast.specs.declared.literal.Literal.{Literal}
use Rattle.gql_ast.specs.declared.type_system.InputValueDefinition.{InputValueDefinition}
use Rattle.gql_inputs.specs.InputTypes.{is_non_null}
use Rattle.gql_types.specs.Written.{Written, written}
use Rattle.gql_types.specs.declared.schema.Schema.{Schema}
use Rattle.serde_json.specs.Data as json
use Rattle.serde_json.specs.Data.{Data}
use Rattle.serde_json.specs.Find.{get}
use Rattle.gql_coerce.specs.Coercion.{put_all, under}
use Rattle.gql_coerce.specs.Comes.{Outcome, value, refused}
use Rattle.gql_coerce.specs.Inputs.{Input, json_input, literal}
use Rattle.gql_coerce.specs.Requests.{ArgumentsCome, VariablesCome, argument_of}
use Rattle.gql_coerce.specs.declared.refusal.Reason.{Reason}
use Rattle.gql_coerce.specs.declared.refusal.Reason.TheVariants as reason
use Rattle.gql_coerce.specs.declared.refusal.Segment.{Segment}
use Rattle.gql_coerce.specs.declared.refusal.Segment.TheVariants as segment
use Rattle.gql_cases.specs.Inputs.{Becomes, below}

-- a variable or an argument: its name, its type, its default value, and what is given for it
pub record Asked : Type 0 where
  pub name : List ℕ
  pub of_type : Written
  pub default : Option Literal
  pub given : Option Input

-- nothing is given, or a variable without a value
pub data IsLeftOut (s : Schema) : Asked → Type 0 where
  nothing_given : {a : Asked} → a.given ≡ None → IsLeftOut s a
  no_value_given : {a : Asked} {x : Input} → a.given ≡ Some x
      → Becomes s (Some a.of_type) x (value None) → IsLeftOut s a

-- what it comes to: what is given, or else the default value
pub data AskedBecomes (s : Schema) : Asked → Outcome (Option Data) → Type 0 where
  taken : {a : Asked} {x : Input} {d : Data} → a.given ≡ Some x
      → Becomes s (Some a.of_type) x (value (Some d)) → AskedBecomes s a (value (Some d))
  given_refused : {a : Asked} {x : Input} {r : Reason} {path : List Segment} → a.given ≡ Some x
      → Becomes s (Some a.of_type) x (refused r path)
      → AskedBecomes s a (refused r (segment.Key a.name ∷ path))
  by_default : {a : Asked} {x : Literal} {o : Outcome (Option Data)} → IsLeftOut s a
      → a.default ≡ Some x → Becomes s (Some a.of_type) (literal json.null x) o
      → AskedBecomes s a (below (segment.Key a.name) o)
  missing : {a : Asked} → IsLeftOut s a → a.default ≡ None → is_non_null a.of_type ≡ true
      → AskedBecomes s a (refused reason.NullForNonNull (segment.Key a.name ∷ []))
  left_out : {a : Asked} → IsLeftOut s a → a.default ≡ None → is_non_null a.of_type ≡ false
      → AskedBecomes s a (value None)

-- all of them in their order, each under its name if it has a value, or the first refusal
pub data AllBecome (s : Schema) : List Asked → Outcome (List (Option (List ℕ × Data))) → Type 0 where
  no_more : AllBecome s [] (value [])
  all_taken : {a : Asked} {more : List Asked} {v : Option Data}
      {vs : List (Option (List ℕ × Data))} → AskedBecomes s a (value v)
      → AllBecome s more (value vs) → AllBecome s (a ∷ more) (value (under a.name v ∷ vs))
  first_refused : {a : Asked} {more : List Asked} {r : Reason} {path : List Segment}
      → AskedBecomes s a (refused r path) → AllBecome s (a ∷ more) (refused r path)
  later_refused : {a : Asked} {more : List Asked} {v : Option Data} {r : Reason}
      {path : List Segment} → AskedBecomes s a (value v)
      → AllBecome s more (refused r path) → AllBecome s (a ∷ more) (refused r path)

-- these values as one object
abbrev pub one_object : Outcome (List (Option (List ℕ × Data))) → Outcome Data
one_object (value vs) = value (json.object (put_all vs json.no_members))
one_object (refused r path) = refused r path

-- all of them come to one object, or to the first refusal
pub data BecomeObject (s : Schema) (asked : List Asked) : Outcome Data → Type 0 where
  are : {o : Outcome (List (Option (List ℕ × Data)))} → AllBecome s asked o
      → BecomeObject s asked (one_object o)

-- a variable, of which the object `values` may have a value
abbrev pub of_variable : Data → VariableDefinition → Asked
of_variable values v = record {
  name = v.name.text;
  of_type = written v.of_type;
  default = v.default;
  given = option_map json_input (get v.name.text values);
}

-- an argument by its definition; `given` has the arguments, and `values` the values of variables
abbrev pub of_argument : Data → List Argument → InputValueDefinition → Asked
of_argument values given d = record {
  name = d.name.text;
  of_type = written d.of_type;
  default = d.default;
  given = argument_of values given d.name.text;
}

-- what variables come to by these cases is what they come to
abbrev pub VariablesInCases : Type 0
VariablesInCases = (s : Schema) (ds : List VariableDefinition) (values : Data) (o : Outcome Data)
    → BecomeObject s (map (of_variable values) ds) o ↔ VariablesCome s ds values o

-- what arguments come to by these cases is what they come to
abbrev pub ArgumentsInCases : Type 0
ArgumentsInCases = (s : Schema) (ds : List InputValueDefinition) (given : List Argument)
    (values : Data) (o : Outcome Data)
    → BecomeObject s (map (of_argument values given) ds) o ↔ ArgumentsCome s ds given values o
