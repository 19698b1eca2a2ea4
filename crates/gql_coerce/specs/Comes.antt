-- What an input comes to (GraphQL specification, 3.5 to 3.12): a value, or the first refusal and
-- its path. Nothing limits how deep lists, objects and defaults nest.
use Rattle.std.specs.Prelude.{◌≡◌, ◌+◌, ℕ, List, Option, Some}
use Rattle.gql_types.specs.Written.{Written}
use Rattle.gql_types.specs.declared.schema.Schema.{Schema}
use Rattle.serde_json.specs.Data.{Data}
use Rattle.gql_coerce.specs.Coercion.{coerced}
use Rattle.gql_coerce.specs.Inputs.{Input}
use Rattle.gql_coerce.specs.Outcomes as levels
use Rattle.gql_coerce.specs.Outcomes.{Reached}
use Rattle.gql_coerce.specs.declared.refusal.Reason.{Reason}
use Rattle.gql_coerce.specs.declared.refusal.Segment.{Segment}

-- a value, or the reason why there is none, and the path to where the input is refused
pub data Outcome (A : Type 0) : Type 0 where
  value : A → Outcome A
  refused : Reason → List Segment → Outcome A

-- an outcome, as something that is reached with some number of levels
abbrev pub reached : {A : Type 0} → Outcome A → Reached A
reached (value x) = levels.value x
reached (refused r path) = levels.refused r path

-- from some number of levels on, this holds
abbrev pub Eventually : (ℕ → Type 0) → Type 0
Eventually holds = (k : ℕ) × ((n : ℕ) → holds (k + n))

-- An input comes to this at a type: it is reached with every number of levels that is great enough.
-- A variable without a value comes to none.
abbrev pub Comes : Schema → Input → Written → Outcome (Option Data) → Type 0
Comes s x t o = Eventually (λ n. coerced n s x (Some t) ≡ reached o)
