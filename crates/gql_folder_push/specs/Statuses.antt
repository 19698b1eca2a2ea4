-- The exit status of a push.
use Rattle.std.specs.Prelude.{ℕ, Result, Ok, Err}
use Rattle.gql_folder_files.specs.Statuses as early
use Rattle.gql_folder_files.specs.declared.failure.Failure.{Failure}
use Rattle.gql_folder_push.specs.declared.outcome.PushEnd.{PushEnd}
use Rattle.gql_folder_push.specs.declared.outcome.PushEnd.TheVariants.{Pushed, NothingToPush, Faulty}

-- 0: the registry has what the folder has; 1: the folder has faults that keep it from being pushed;
-- and the status of a push that is cut short, which is 1 to 5
abbrev pub status_of : Result PushEnd Failure → ℕ
status_of (Ok Pushed) = 0
status_of (Ok NothingToPush) = 0
status_of (Ok Faulty) = 1
status_of (Err failure) = early.status_of failure
