-- Which operations of a folder a registry does not serve, by the owners of the faults of its report
-- and by what a check of the folder found (this registry's own rule).
--
-- A registry may have files that the folder does not have, and its report does not list operations.
-- So the count of the check holds if the report has the faults of the check: then no operation of
-- the folder reaches a fragment that only the registry has, but through one with a fault. Else an
-- operation of the folder that owns a fault of the report is not served, and others may not be.
use Rattle.std.specs.Prelude.{ℕ, ◌&&◌, ◌==◌, List, [], ◌∷◌, Bool, true, false, Option, Some, None, bytes_eq, filter, length, string_bytes, if◌then◌else◌}
use Rattle.std.specs.List.{list_any}
use Rattle.gql_push.specs.declared.report.FaultOwner.{FaultOwner}
use Rattle.gql_push.specs.declared.report.FaultOwner.TheVariants as owner
use Rattle.gql_push.specs.declared.unserved.FolderCheck.{FolderCheck}
use Rattle.gql_push.specs.declared.unserved.Unserved.{Unserved}
use Rattle.gql_push.specs.declared.unserved.Unserved.TheVariants as unserved

-- whether two owners are one: both nobody, or definitions that start at one place
abbrev pub is_same : FaultOwner → FaultOwner → Bool
is_same owner.Schema owner.Schema = true
is_same (owner.Definition file line column) (owner.Definition file' line' column') =
    bytes_eq (string_bytes file) (string_bytes file') && (line == line') && (column == column')
is_same owner.Schema (owner.Definition file line column) = false
is_same (owner.Definition file line column) owner.Schema = false

-- whether one of these is an owner
abbrev pub is_among : List FaultOwner → FaultOwner → Bool
is_among owners o = list_any (is_same o) owners

-- whether there is an owner, and it is this one
abbrev pub is_same_if_some : FaultOwner → Option FaultOwner → Bool
is_same_if_some o None = false
is_same_if_some o (Some p) = is_same o p

-- whether both lists have the same owners, in the same order
abbrev pub are_same : List FaultOwner → List FaultOwner → Bool
are_same [] [] = true
are_same [] (p ∷ those) = false
are_same (o ∷ these) [] = false
are_same (o ∷ these) (p ∷ those) = is_same o p && are_same these those

-- how many of these are owners
abbrev pub count_among : List FaultOwner → List FaultOwner → ℕ
count_among operations owners = length (filter (is_among owners) operations)

-- What is known, where the report's faults have these owners. Without a fault each operation is
-- served, and with a fault of the schema none is.
abbrev pub unserved_by : List FaultOwner → FolderCheck → Unserved
unserved_by [] check = unserved.Nothing
unserved_by (o ∷ owners) check =
    if is_among (o ∷ owners) owner.Schema then unserved.Everything
    else (if are_same (o ∷ owners) check.owners.items then unserved.Exactly check.affected
    else unserved.AtLeast (count_among check.operations.items (o ∷ owners)))
