-- The variables of a request, and the arguments of a field, come to something where no default leads
-- back to itself.
use Rattle.std.proofs.Common.{◌≡◌, ◌+◌, ℕ, List, [], ◌∷◌, map, Option, Some, None, refl, ap, ◌∙◌, arith, if◌then◌else◌, Bool, true, false}
use Rattle.gql_ast.specs.declared.executable.VariableDefinition.{VariableDefinition}
use Rattle.gql_ast.specs.declared.literal.Argument.{Argument}
use Rattle.gql_ast.specs.declared.literal.Literal.{Literal}
use Rattle.gql_ast.specs.declared.type_system.InputValueDefinition.{InputValueDefinition}
use Rattle.gql_inputs.specs.InputTypes.{is_non_null}
use Rattle.gql_types.specs.Written.{Written, written}
use Rattle.gql_types.specs.declared.schema.Schema.{Schema}
use Rattle.serde_json.specs.Data as json
use Rattle.serde_json.specs.Data.{Data, Members}
use Rattle.gql_coerce.specs.Coercion.{coerced, object_of, put_all, under}
use Rattle.gql_coerce.specs.Comes.{Outcome, Eventually, reached}
use Rattle.gql_coerce.specs.Comes as comes
use Rattle.gql_coerce.specs.Defaults.{HasNoCycle}
use Rattle.gql_coerce.specs.Inputs.{Input, literal}
use Rattle.gql_coerce.specs.Laws.{SomeOfArguments, SomeOfVariables}
use Rattle.gql_coerce.specs.Outcomes.{Reached, after, within, all}
use Rattle.gql_coerce.specs.Outcomes as levels
use Rattle.gql_coerce.specs.Requests.{default_at, or_default_at, given_at, request_at, variable_value, named_variable, argument_of, argument_value, named_argument}
use Rattle.gql_coerce.specs.declared.refusal.Reason.{Reason}
use Rattle.gql_coerce.specs.declared.refusal.Reason.TheVariants as reason
use Rattle.gql_coerce.specs.declared.refusal.Segment.{Segment}
use Rattle.gql_coerce.specs.declared.refusal.Segment.TheVariants as segment
use Rattle.gql_coerce.proofs.Ending as ending

-- with enough levels there is one outcome
abbrev Settles : {A : Type 0} → (ℕ → Reached A) → Type 0
Settles {A = A} f = (o : Outcome A) × Eventually (λ n. f n ≡ reached o)

settled_value : {A : Type 0} (x : A) → Settles (λ n. levels.value x)
settled_value x = (comes.value x, (0, λ n. refl))

settled_refusal : {A : Type 0} (r : Reason) (path : List Segment) → Settles {A = A} (λ n. levels.refused r path)
settled_refusal r path = (comes.refused r path, (0, λ n. refl))

-- at a segment of the path
settled_within : {A : Type 0} (g : Segment) (f : ℕ → Reached A) → Settles f → Settles (λ n. within g (f n))
settled_within g f (comes.value x, (k, h)) = (comes.value x, (k, λ n. ap (within g) (h n)))
settled_within g f (comes.refused r path, (k, h)) = (comes.refused r (g ∷ path), (k, λ n. ap (within g) (h n)))

-- one after the other
settled_after : {A B : Type 0} (f : ℕ → Reached A) (h : ℕ → A → Reached B) → Settles f → ((x : A) → Settles (λ n. h n x)) → Settles (λ n. after (f n) (h n))
settled_after f h (comes.refused r path, (k, is)) next = (comes.refused r path, (k, λ n. ap (λ o. after o (h (k + n))) (is n)))
settled_after f h (comes.value x, (k, is)) next = by (next x) where
  by : Settles (λ n. h n x) → Settles (λ n. after (f n) (h n))
  by (o, (j, later)) = (o, (k + j, λ n. ap (λ p. after p (h (k + j + n))) (first n) ∙ second n)) where
    one : (n : ℕ) → k + j + n ≡ k + (j + n)
    one n = omega arith

    other : (n : ℕ) → k + j + n ≡ j + (k + n)
    other n = omega arith

    first : (n : ℕ) → f (k + j + n) ≡ levels.value x
    first n = ap f (one n) ∙ is (j + n)

    second : (n : ℕ) → h (k + j + n) x ≡ reached o
    second n = ap (λ m. h m x) (other n) ∙ later (k + n)

-- all of them
settled_all : {X A : Type 0} (f : ℕ → X → Reached A) → ((x : X) → Settles (λ n. f n x)) → (xs : List X) → Settles (λ n. all (map (f n) xs))
settled_all f each [] = settled_value []
settled_all f each (x ∷ xs) =
    settled_after (λ n. f n x) (λ n y. after (all (map (f n) xs)) (λ ys. levels.value (y ∷ ys))) (each x)
    (λ y. settled_after (λ n. all (map (f n) xs)) (λ n ys. levels.value (y ∷ ys)) (settled_all f each xs) (λ ys. settled_value (y ∷ ys)))

settled_object : {X : Type 0} (f : ℕ → X → Reached (Option (List ℕ × Data))) → ((x : X) → Settles (λ n. f n x)) → (xs : List X) (ms : Members)
    → Settles (λ n. object_of (map (f n) xs) ms)
settled_object f each xs ms =
    settled_after (λ n. all (map (f n) xs)) (λ n more. levels.value (json.object (put_all more ms))) (settled_all f each xs)
    (λ more. settled_value (json.object (put_all more ms)))

module _ (s : Schema) (acyclic : HasNoCycle s) where
  settled_input : (x : Input) (t : Written) → Settles (λ n. coerced n s x (Some t))
  settled_input x t = ending.some_outcome s acyclic x t

  settled_default : (t : Written) (default : Option Literal) → Settles (λ n. default_at n s t default)
  settled_default t (Some x) = settled_input (literal json.null x) t
  settled_default t None = by (is_non_null t) where
    by : (b : Bool) → Settles {A = Option Data} (λ n. if b then levels.refused reason.NullForNonNull [] else levels.value None)
    by true = settled_refusal reason.NullForNonNull []
    by false = settled_value None

  settled_or_default : (t : Written) (default : Option Literal) (d : Option Data) → Settles (λ n. or_default_at n s t default d)
  settled_or_default t default (Some d) = settled_value (Some d)
  settled_or_default t default None = settled_default t default

  settled_given : (t : Written) (x : Option Input) → Settles (λ n. given_at n s t x)
  settled_given t None = settled_value None
  settled_given t (Some x) = settled_input x t

  settled_request : (name : List ℕ) (t : Written) (default : Option Literal) (x : Option Input) → Settles (λ n. request_at n s name t default x)
  settled_request name t default x =
      settled_within (segment.Key name) (λ n. after (given_at n s t x) (or_default_at n s t default))
      (settled_after (λ n. given_at n s t x) (λ n. or_default_at n s t default) (settled_given t x) (settled_or_default t default))

  settled_variable : (values : Data) (v : VariableDefinition) → Settles (λ n. named_variable n s values v)
  settled_variable values v =
      settled_after (λ n. variable_value n s values v) (λ n d. levels.value (under v.name.text d))
      (settled_request v.name.text (written v.of_type) v.default _) (λ d. settled_value (under v.name.text d))

  settled_argument : (values : Data) (arguments : List Argument) (d : InputValueDefinition) → Settles (λ n. named_argument n s values arguments d)
  settled_argument values arguments d =
      settled_after (λ n. argument_value n s values arguments d) (λ n v. levels.value (under d.name.text v))
      (settled_request d.name.text (written d.of_type) d.default (argument_of values arguments d.name.text)) (λ v. settled_value (under d.name.text v))

pub some_of_variables : SomeOfVariables
some_of_variables s acyclic definitions values =
    settled_object (λ n. named_variable n s values) (settled_variable s acyclic values) definitions json.no_members

pub some_of_arguments : SomeOfArguments
some_of_arguments s acyclic definitions given values =
    settled_object (λ n. named_argument n s values given) (settled_argument s acyclic values given) definitions json.no_members
