-- What happens at a registry while a push goes on, and somebody else may edit it.
use Rattle.std.specs.Prelude.{ℕ, ◌≡◌, ◌≢◌, ◌+◌, List, [], ◌∷◌, Bool, false, Option, String, Some}
use Rattle.std.specs.declared.alloc.Global.{Global}
use Rattle.gql_push.specs.Plans.{Change}
use Rattle.gql_push.specs.Sending.{Sending, are_accepted, is_made, next, noted, noted_together, together}
use Rattle.gql_push.specs.declared.body.Reply.{Reply}
use Rattle.gql_push.specs.declared.body.Reply.TheVariants as reply
use Rattle.gql_push.specs.declared.progress.Progress.{Progress}

-- How a registry at the revision `present` replies to an edit that expects a revision, and at which
-- revision it is then. It checks the revision first.
pub data Replies (present expected : ℕ) : Reply → ℕ → Type 0 where
  -- the edit is accepted
  accepted : {faults : ℕ} → expected ≡ present
      → Replies present expected (reply.Done (present + 1) faults) (present + 1)
  -- another revision is expected
  stale : expected ≢ present → Replies present expected (reply.Stale present) present
  -- a later check fails
  refused : {number : ℕ} {message : String Global} {file : Option (String Global)}
      → expected ≡ present
      → Replies present expected (reply.Refused number message file) present

-- How it replies to one request for all edits. It may refuse one before it checks the revision, as a
-- registry does that has no such request. A refusal changes nothing.
pub data RepliesToAll (present expected : ℕ) : Reply → ℕ → Type 0 where
  -- all edits are accepted: the revision grows by one
  all_accepted : {faults : ℕ} → expected ≡ present
      → RepliesToAll present expected (reply.Done (present + 1) faults) (present + 1)
  -- another revision is expected
  all_stale : expected ≢ present → RepliesToAll present expected (reply.Stale present) present
  -- a check fails
  all_refused : {number : ℕ} {message : String Global} {file : Option (String Global)}
      → RepliesToAll present expected (reply.Refused number message file) present

-- one edit: of somebody else, which is accepted; or of the push, with its reply; or all edits of the
-- push in one request, which expects a revision, with its reply
pub data Event : Type 0 where
  others : Event
  own : Sending → Reply → Event
  own_together : ℕ → Reply → Event

-- whether edits of the push are made by an event
abbrev pub makes : Event → Bool
makes others = false
makes (own s r) = is_made s.change r
makes (own_together expected r) = are_accepted r

-- What may happen at a registry at the revision `present`, while a push that has come so far goes
-- on. The push sends one request for all edits, or what comes next, and notes the reply.
pub data Happens (edits : List Change) : ℕ → Progress → List Event → Type 0 where
  no_more : {present : ℕ} {p : Progress} → Happens edits present p []
  by_others : {present : ℕ} {p : Progress} {events : List Event}
      → Happens edits (present + 1) p events → Happens edits present p (others ∷ events)
  by_push : {present after : ℕ} {p : Progress} {events : List Event} {s : Sending} {r : Reply}
      → next edits p ≡ Some s → Replies present s.revision r after
      → Happens edits after (noted edits p r) events
      → Happens edits present p (own s r ∷ events)
  by_push_together : {present after expected : ℕ} {p : Progress} {events : List Event} {r : Reply}
      → together edits p ≡ Some expected → RepliesToAll present expected r after
      → Happens edits after (noted_together edits p r) events
      → Happens edits present p (own_together expected r ∷ events)
