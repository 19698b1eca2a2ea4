-- The exit statuses of `gqlreg check` and `gqlreg usage`: 0 and 1 say what was found; 2, 4 and
-- again 1 are those of a failure: a folder or a file is refused, an allocation failed, or standard
-- output takes no more.
use Rattle.std.specs.Prelude.{ℕ, Bool, ◌||◌, if◌then◌else◌, List, length, nat_lt, Option, Some, None, Result, Ok, Err}
use Rattle.gql_findings.specs.declared.comparison.Comparison.{Comparison}
use Rattle.gql_findings.specs.declared.finding.Findings.{Findings}
use Rattle.gql_folder_check.specs.declared.status.Answered.{Answered}
use Rattle.gql_folder_check.specs.declared.status.Answered.TheVariants.{Written, FaultySchema}
use Rattle.gql_folder_check.specs.declared.status.Checked.{Checked}
use Rattle.gql_folder_files.specs.Statuses.{status_of}
use Rattle.gql_folder_files.specs.declared.failure.Failure.{Failure}

-- whether a list has items
abbrev pub has_some : {A : Type 0} → List A → Bool
has_some xs = nat_lt 0 (length xs)

-- Whether a check has something against the folder: without a base, a fault; with one, a fault that
-- is brought, an operation that is broken, or documents that are hidden.
abbrev pub is_against : Findings → Option Comparison → Bool
is_against now None = has_some now.findings.items
is_against now (Some c) = has_some c.brought.items || has_some c.broken.items || c.hidden

-- the status of a check
abbrev pub check_status : Result Checked Failure → ℕ
check_status (Ok checked) = if is_against checked.now checked.comparison then 1 else 0
check_status (Err failure) = status_of failure

-- the status of a question about the use of a schema
abbrev pub usage_status : Result Answered Failure → ℕ
usage_status (Ok Written) = 0
usage_status (Ok FaultySchema) = 1
usage_status (Err failure) = status_of failure
