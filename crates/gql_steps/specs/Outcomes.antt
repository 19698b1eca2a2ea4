-- What the execution of an operation comes to, for the crates above: the text of its data, its
-- errors, and what it adds to the stored data.
use Rattle.std.specs.Prelude.{ℕ, List, map, string_bytes, Option, option_map}
use Rattle.gql_text.specs.declared.place.Place.{Place}
use Rattle.gql_stored.specs.Effects.{Effect}
use Rattle.gql_stored.specs.Rooms.{effect_of}
use Rattle.gql_steps.specs.Replies.{Segment, key, index, Path}
use Rattle.gql_steps.specs.declared.outcome.Outcome.{Outcome}
use Rattle.gql_steps.specs.declared.outcome.ResponseError.{ResponseError}
use Rattle.gql_steps.specs.declared.outcome.Step.{Step}
use Rattle.gql_steps.specs.declared.outcome.Step.TheVariants as step

-- an error; a request error has no path
pub record AnError : Type 0 where
  pub message : List ℕ
  pub place : Place
  pub path : Option Path

-- the text of the data, which a request error does not have, the errors in their order, and what
-- is added to the stored data
pub record AnOutcome : Type 0 where
  pub text : Option (List ℕ)
  pub errors : List AnError
  pub effects : List Effect

-- a step of a path, as specifications see it
abbrev pub segment_of : Step → Segment
segment_of (step.Key k) = key k.now
segment_of (step.Index i) = index i

-- the path of these steps
abbrev pub path_of : List Step → Path
path_of steps = map segment_of steps

-- an error, as specifications see it
abbrev pub error_of : ResponseError → AnError
error_of e = record {
  message = string_bytes e.message;
  place = e.place;
  path = option_map (λ p. path_of p.items) e.path;
}

-- an outcome, as specifications see it
abbrev pub outcome_of : Outcome → AnOutcome
outcome_of o = record {
  text = option_map (λ t. t.items) o.«data»;
  errors = map error_of o.errors.items;
  effects = map effect_of o.effects.items;
}
