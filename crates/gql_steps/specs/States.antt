-- Helper definitions for private contracts: what a step of an execution does to the state of the
-- run.
use Rattle.std.specs.Prelude.{◌≡◌, ℕ, ◌+◌, ◌<◌, List, ◌++◌, map, take, length, codes, string_bytes, Result, Ok, Err}
use Rattle.gql_steps.specs.Outcomes.{segment_of}
use Rattle.gql_steps.specs.Parts.{Outcome, text, bubble, Part, has_own}
use Rattle.gql_steps.specs.Replies.{Error, Path, kept}
use Rattle.gql_steps.specs.declared.ended.Ended.{Ended}
use Rattle.gql_steps.specs.declared.ended.Ended.TheVariants.{Written, Bubbled}
use Rattle.gql_steps.specs.declared.run.FieldError.{FieldError}
use Rattle.gql_steps.specs.declared.run.Reason.{Reason}
use Rattle.gql_steps.specs.declared.run.Reason.TheVariants as reason
use Rattle.gql_steps.specs.declared.run.Run.{Run}
use Rattle.gql_steps.specs.declared.refusal.ExecRefusal.{ExecRefusal}
use Rattle.gql_steps.specs.declared.refusal.ExecRefusal.TheVariants.{TooHeavy}

-- the message of an error
abbrev pub message_of : Reason → List ℕ
message_of reason.NullForNonNull = codes "null for a Non-Null type"
message_of reason.NotAList = codes "value is not a list"
message_of reason.NotAnObject = codes "value is not an object"
message_of (reason.NotOfType name) = codes "value is not of type " ++ name.now
message_of (reason.NoPossibleType name) = codes "value names no possible type of " ++ name.now
message_of (reason.NoList name) = codes "no list named " ++ name.now
message_of (reason.Refused message) = message.now

-- an error of a run, as specifications see it
abbrev pub error_of : FieldError → Error
error_of e = record {
  message = string_bytes e.message;
  place = e.place;
  path = map segment_of e.path.items;
}

-- the errors of a run
abbrev pub errors_of : Run → List Error
errors_of r = map error_of r.errors.items

-- the path of the present value
abbrev pub path_of : Run → Path
path_of r = map segment_of r.path.items

-- A text is written after what was there. If a null bubbles, what was there is still the beginning,
-- and the rest is to be cut off.
abbrev pub Leaves : Outcome → List ℕ → List ℕ → Type 0
Leaves (text t) old new = new ≡ old ++ t
Leaves bubble old new = take (length old) new ≡ old

-- the state of the run after a part
pub record Follows (r : Part) (old new : Run) : Type 0 where
  pub out : Leaves r.outcome old.out.items new.out.items
  pub errors : errors_of new ≡ errors_of old ++ kept old.raised r.notes
  pub raised : new.raised ≡ has_own old.raised r.notes
  pub path : new.path.items ≡ old.path.items
  pub left : new.left + r.weight ≡ old.left

-- how a part ends
abbrev pub ended_of : Outcome → Ended
ended_of (text t) = Written
ended_of bubble = Bubbled

-- a part is done and has ended in this way
pub record Done (r : Part) (ended : Ended) (old new : Run) : Type 0 where
  pub follows : Follows r old new
  pub ends : ended ≡ ended_of r.outcome

-- A call does what the part states; or an allocation fails; or more values are to be completed than
-- are left.
abbrev pub Executes : Part → Result Ended ExecRefusal → Run → Run → Type 0
Executes r (Ok ended) old new = Done r ended old new
Executes r (Err stop) old new = stop ≡ TooHeavy → old.left < r.weight
