-- The exit status of a command on a folder that ends early. Status 0 and 1 of a check that is made are
-- those of its faults.
use Rattle.std.specs.Prelude.{ℕ}
use Rattle.gql_folder_files.specs.declared.failure.Failure.{Failure}
use Rattle.gql_folder_files.specs.declared.failure.Failure.TheVariants.{Refused, Edited, NoServer, Closed, Memory}

-- 2: a folder or a file is refused; 3: somebody else has edited the registry; 5: there is no answer
-- of a registry; 1: standard output takes no more; 4: an allocation failed
abbrev pub status_of : Failure → ℕ
status_of (Refused _) = 2
status_of (Edited _) = 3
status_of NoServer = 5
status_of Closed = 1
status_of Memory = 4
