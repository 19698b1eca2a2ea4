-- Laws of pushes.
use Rattle.std.specs.Prelude.{ℕ, ◌≡◌, ◌++◌, List, [], ◌∷◌, Bool, true, false, Contains, Some, None, is_some, length, map}
use Rattle.std.specs.List.{range_with_len}
use Rattle.gql_folder.specs.declared.folder.GivenFile.{GivenFile}
use Rattle.gql_push.specs.Meanwhile.{Event, others, makes, Happens}
use Rattle.gql_push.specs.Plans.{Change, put, planned, puts, after, put_again}
use Rattle.gql_push.specs.Resources.{Entry, entries_at, HaveSameSums, IsConsistent}
use Rattle.gql_push.specs.Sending.{Sending, start, next, noted, is_made, together, noted_together, are_accepted, goes_on}
use Rattle.gql_push.specs.declared.body.Reply.{Reply}
use Rattle.gql_push.specs.declared.body.Reply.TheVariants as reply
use Rattle.gql_push.specs.declared.progress.Progress.{Progress}

-- once all changes of a plan are made, what is pushed is what the folder has
abbrev pub AllPushed : Type 0
AllPushed = (resources pushed : List Entry) (all : Bool)
    → IsConsistent resources → IsConsistent pushed
    → HaveSameSums (after resources pushed (planned resources pushed all)) resources

-- where what was pushed is what the folder has, nothing is put and nothing removed
abbrev pub NothingToPush : Type 0
NothingToPush = (resources pushed : List Entry)
    → IsConsistent pushed → HaveSameSums pushed resources
    → planned resources pushed false ≡ []

-- each resource is put, where the pushed ones are to be put again
abbrev pub AllPutAgain : Type 0
AllPutAgain = (most : ℕ) (files : List GivenFile) (pushed : List Entry) (all : Bool)
    → puts all (entries_at most files) (put_again pushed)
    ≡ map put (range_with_len 0 (length (entries_at most files)))

-- Where a push starts at the revision that the registry reports, no edit of it is made after one of
-- somebody else: it stops at the first request that expects a revision that is gone.
abbrev pub NobodyBetween : Type 0
NobodyBetween = (edits : List Change) (revision faults : ℕ) (before rest : List Event) (e : Event)
    → Happens edits revision (start revision faults) (before ++ e ∷ rest)
    → makes e ≡ true → Contains before others → ⊥

-- once a push has stopped, nothing is sent, whatever is replied
abbrev pub StopsForGood : Type 0
StopsForGood = (edits : List Change) (p : Progress) (r : Reply) → is_some p.stop ≡ true
    → (next edits p ≡ None) × (noted edits p r ≡ p)
    × (together edits p ≡ None) × (noted_together edits p r ≡ p)

-- an edit that is sent and not made stops the push
abbrev pub StopsAtRefusal : Type 0
StopsAtRefusal = (edits : List Change) (p : Progress) (s : Sending) (r : Reply)
    → next edits p ≡ Some s → is_made s.change r ≡ false
    → next edits (noted edits p r) ≡ None

-- whether a push goes on one by one after this reply to one request for all edits
abbrev pub goes_on_after : Reply → Bool
goes_on_after (reply.Done revision faults) = false
goes_on_after (reply.Stale revision) = false
goes_on_after (reply.Refused number message file) = goes_on number
goes_on_after reply.Strange = false

-- One request for all edits makes all of them, and nothing is left to send; or it makes none, and the
-- push is as before, or has stopped.
abbrev pub AllOrNone : Type 0
AllOrNone = (edits : List Change) (p : Progress) (expected : ℕ) (r : Reply)
    → together edits p ≡ Some expected
    → (are_accepted r ≡ true → ((noted_together edits p r).made ≡ length edits)
    × (next edits (noted_together edits p r) ≡ None))
    × (are_accepted r ≡ false → (noted_together edits p r).made ≡ 0)
    × (goes_on_after r ≡ true → noted_together edits p r ≡ p)
    × (are_accepted r ≡ false → goes_on_after r ≡ false
    → next edits (noted_together edits p r) ≡ None)
