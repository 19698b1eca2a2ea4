-- What the coercion of an input reaches with some number of levels of lists, objects and defaults:
-- a value, or the first refusal and its path, or nothing yet.
use Rattle.std.specs.Prelude.{List, [], ◌∷◌, Option, Some, None, reverse}
use Rattle.serde_json.specs.Data.{Data}
use Rattle.serde_json.specs.View.{view}
use Rattle.gql_coerce.specs.declared.coerced.Coerced.{Coerced}
use Rattle.gql_coerce.specs.declared.coerced.Coerced.TheVariants as coerced
use Rattle.gql_coerce.specs.declared.coerced.CoercedArgument.{CoercedArgument}
use Rattle.gql_coerce.specs.declared.coerced.CoercedArgument.TheVariants as argument
use Rattle.gql_coerce.specs.declared.coerced.CoercedRequest.{CoercedRequest}
use Rattle.gql_coerce.specs.declared.coerced.CoercedRequest.TheVariants as request
use Rattle.gql_coerce.specs.declared.refusal.Reason.{Reason}
use Rattle.gql_coerce.specs.declared.refusal.Segment.{Segment}

-- a value, or the reason why there is none and its path, or the input has more levels than these
pub data Reached (A : Type 0) : Type 0 where
  value : A → Reached A
  refused : Reason → List Segment → Reached A
  too_deep : Reached A

-- what follows from a value; a refusal stays as it is
abbrev pub after : {A B : Type 0} → Reached A → (A → Reached B) → Reached B
after (value x) f = f x
after (refused r path) f = refused r path
after too_deep f = too_deep

-- what is reached, under this segment of the path
abbrev pub within : {A : Type 0} → Segment → Reached A → Reached A
within g (value x) = value x
within g (refused r path) = refused r (g ∷ path)
within g too_deep = too_deep

-- all values, or the first refusal
abbrev pub all : {A : Type 0} → List (Reached A) → Reached (List A)
all [] = value []
all (o ∷ os) = after o (λ x. after (all os) (λ xs. value (x ∷ xs)))

-- a value as an optional one
abbrev pub some : {A : Type 0} → Reached A → Reached (Option A)
some o = after o (λ x. value (Some x))

-- what code has reached; it keeps the last step of a path first
abbrev pub said : Coerced → Reached (Option Data)
said (coerced.Given v) = value (Some (view v))
said coerced.Absent = value None
said (coerced.Refused r) = refused r.reason (reverse r.steps.items)

-- the same of an argument
abbrev pub argument_said : CoercedArgument → Reached (Option Data)
argument_said (argument.Given v) = value (Some (view v))
argument_said argument.Absent = value None
argument_said (argument.Refused r) = refused r.reason (reverse r.steps.items)

-- the same of the variables of a request or the arguments of a field
abbrev pub request_said : CoercedRequest → Reached Data
request_said (request.Given v) = value (view v)
request_said (request.Refused r) = refused r.reason (reverse r.steps.items)
