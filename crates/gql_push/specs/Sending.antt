-- What a push sends (this registry's own rule): one request for all edits; or else one edit at a time,
-- and the next one only once that is made.
use Rattle.std.specs.Prelude.{ℕ, ◌+◌, ◌&&◌, ◌||◌, ◌==◌, List, Bool, true, false, not, Option, Some, None, is_some, length, nat_lt, option_map, slice_get, if◌then◌else◌}
use Rattle.std.specs.Option.{option_map_or}
use Rattle.gql_push.specs.Plans.{Change, put, remove, empty_data, change_of}
use Rattle.gql_push.specs.declared.body.Reply.{Reply}
use Rattle.gql_push.specs.declared.body.Reply.TheVariants as reply
use Rattle.gql_push.specs.declared.progress.Progress.{Progress}
use Rattle.gql_push.specs.declared.progress.Sent.{Sent}
use Rattle.gql_push.specs.declared.progress.Stop.{Stop}
use Rattle.gql_push.specs.declared.progress.Stop.TheVariants as stop

-- what is sent: a change, and the revision that it expects
pub record Sending : Type 0 where
  pub change : Change
  pub revision : ℕ

-- what the code sends
abbrev pub sending_of : Sent → Sending
sending_of s = record { change = change_of s.edit.now; revision = s.revision }

-- the start of a push, where the registry is at this revision and has so many faults
abbrev pub start : ℕ → ℕ → Progress
start revision faults = record { made = 0; revision = revision; faults = faults; stop = None }

-- what is sent next: the first edit that is not made, expecting the revision after the last one
-- that is; nothing once the push has stopped
abbrev pub next : List Change → Progress → Option Sending
next edits p = if is_some p.stop then None
    else option_map (λ c. record { change = c; revision = p.revision }) (slice_get edits p.made)

-- whether a change removes a file
abbrev pub is_removal : Change → Bool
is_removal (put at) = false
is_removal (remove target) = true
is_removal empty_data = false

-- whether a refusal of this number says that there is no file to remove: then the removal is done
abbrev pub is_gone_already : Change → ℕ → Bool
is_gone_already c number = is_removal c && (number == 204)

-- whether a change is made, by this reply: it is accepted, or it removes a file that is not there
abbrev pub is_made : Change → Reply → Bool
is_made c (reply.Done revision faults) = true
is_made c (reply.Stale revision) = false
is_made c (reply.Refused number message file) = is_gone_already c number
is_made c reply.Strange = false

-- one edit more is made, and the registry has this revision and so many faults
abbrev pub further : Progress → ℕ → ℕ → Progress
further p revision faults =
    record p { made = p.made + 1; revision = revision; faults = faults }

-- the push stops
abbrev pub stopped : Progress → Stop → Progress
stopped p why = record p { stop = Some why }

-- A push after this reply to a change. An accepted one has the revision of the answer. The check
-- for the revision comes before that for a file to remove, so that a registry without it has the
-- revision that was expected. Any other refusal stops the push.
abbrev pub replied : Progress → Change → Reply → Progress
replied p c (reply.Done revision faults) = further p revision faults
replied p c (reply.Stale revision) = stopped p (stop.Edited revision)
replied p c (reply.Refused number message file) =
    if is_gone_already c number then further p p.revision p.faults
    else stopped p (stop.Refused number message file)
replied p c reply.Strange = stopped p stop.Strange

-- a push after this reply to what it sent last, if it sent something
abbrev pub noted : List Change → Progress → Reply → Progress
noted edits p r = option_map_or (λ (s : Sending). replied p s.change r) (next edits p) p

-- ---- one request for all edits

-- Whether one request for all edits may be sent: none is made, there are two or more, and the push
-- has not stopped.
abbrev pub may_send_all : List Change → Progress → Bool
may_send_all edits p = not (is_some p.stop) && (p.made == 0) && nat_lt 1 (length edits)

-- the revision that one request for all edits expects, if it may be sent: the present one
abbrev pub together : List Change → Progress → Option ℕ
together edits p = if may_send_all edits p then Some p.revision else None

-- whether one request for all edits is accepted, by this reply
abbrev pub are_accepted : Reply → Bool
are_accepted (reply.Done revision faults) = true
are_accepted (reply.Stale revision) = false
are_accepted (reply.Refused number message file) = false
are_accepted reply.Strange = false

-- Whether a push goes on one by one after a refusal of this number of one request for all edits: the
-- registry has no such request (305), does not read a body of the length (303) or of the form (312),
-- or has no file to remove (204), which is done then.
abbrev pub goes_on : ℕ → Bool
goes_on number = (number == 305) || (number == 303) || (number == 312) || (number == 204)

-- A push after this reply to one request for all edits. An accepted one makes all of them. After a
-- refusal none is made: the push goes on one by one, as if the request had not been sent, or stops.
abbrev pub replied_together : List Change → Progress → Reply → Progress
replied_together edits p (reply.Done revision faults) =
    record p { made = length edits; revision = revision; faults = faults }
replied_together edits p (reply.Stale revision) = stopped p (stop.Edited revision)
replied_together edits p (reply.Refused number message file) =
    if goes_on number then p else stopped p (stop.Refused number message file)
replied_together edits p reply.Strange = stopped p stop.Strange

-- a push after this reply to one request for all edits, if that may be sent
abbrev pub noted_together : List Change → Progress → Reply → Progress
noted_together edits p r = if may_send_all edits p then replied_together edits p r else p
