-- The files of a registry, as resources: a target with the sum of its bytes.
use Rattle.std.specs.Prelude.{ℕ, ◌≡◌, ◌↔◌, ◌++◌, List, Contains, Option, Some, None, codes, map, option_map, string_bytes}
use Rattle.std.specs.List.{enumerate_from, filter_map}
use Rattle.gql_ast.specs.declared.fault.FileSide.TheVariants.{Schema, Documents}
use Rattle.gql_folder.specs.Roles.{role_at}
use Rattle.gql_folder.specs.declared.folder.GivenFile.{GivenFile}
use Rattle.gql_folder.specs.declared.role.Role.{Role}
use Rattle.gql_folder.specs.declared.role.Role.TheVariants.{File, Data, Misnamed, Other}
use Rattle.gql_push.specs.Sums.{sum_at}
use Rattle.gql_push.specs.declared.edits.Resource.{Resource}

-- what a resource says: its target, the sum of its bytes, and the index of its file
pub record Entry : Type 0 where
  pub target : List ℕ
  pub sum : List ℕ
  pub file : ℕ

-- what one resource says
abbrev pub entry_of : Resource → Entry
entry_of r = record { target = string_bytes r.target; sum = string_bytes r.sum; file = r.file }

-- what each resource says
abbrev pub entries_of : List Resource → List Entry
entries_of = map entry_of

-- the target of a file of a registry, by its role
abbrev pub target_in : Role → Option (List ℕ)
target_in (File Schema name) = Some (codes "schema/" ++ name)
target_in (File Documents name) = Some (codes "documents/" ++ name)
target_in Data = Some (codes "data")
target_in Misnamed = None
target_in Other = None

-- the target of the file at a path below a folder, if it is one of a registry where a name has at
-- most so many bytes
abbrev pub target_at : ℕ → List ℕ → Option (List ℕ)
target_at most path = target_in (role_at most path)

-- the resource of a file with its index, if it is one of such a registry
abbrev pub entry_at : ℕ → ℕ × GivenFile → Option Entry
entry_at most f = option_map
    (λ target. record { target = target; sum = sum_at f.1.bytes.items; file = f.0 })
    (target_at most (string_bytes f.1.path))

-- the resources of the files of a folder, in the order of the files
abbrev pub entries_at : ℕ → List GivenFile → List Entry
entries_at most files = filter_map (entry_at most) (enumerate_from 0 files)

-- one of these has this target with this sum
abbrev pub HasSum : List Entry → List ℕ → List ℕ → Type 0
HasSum entries target sum =
    (e : Entry) × Contains entries e × (e.target ≡ target) × (e.sum ≡ sum)

-- no target has two sums among these
abbrev pub IsConsistent : List Entry → Type 0
IsConsistent entries = (target one other : List ℕ) → HasSum entries target one
    → HasSum entries target other → one ≡ other

-- both have the same targets, and each of them with the same sum
abbrev pub HaveSameSums : List Entry → List Entry → Type 0
HaveSameSums these those = (target sum : List ℕ)
    → HasSum these target sum ↔ HasSum those target sum
