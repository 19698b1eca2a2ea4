-- What the registry holds.
use Rattle.std.specs.Prelude.{ℕ, ◌^◌, ◌-◌, List, []}
use Rattle.gql_ast.specs.Profiles.{whole_numbers}
use Rattle.gql_ast.specs.declared.files.Files.{Files}
use Rattle.gql_ast.specs.declared.profile.Profile.{Profile}
use Rattle.gql_pairs.specs.Groups.{KeptGroup}
use Rattle.gql_registry.specs.declared.registry.Registry.{Registry}
use Rattle.gql_stored.specs.Effects.{Effect, after}
use Rattle.gql_verdict.specs.Verdicts.{Judgement}
use Rattle.serde_json.specs.Data.{Data, object, no_members}
use Rattle.serde_json.specs.View.{view}

-- the files that are present, the data that operations are executed on, and the number of edits
-- that were accepted
pub record State : Type 0 where
  pub files : Files
  pub stored : Data
  pub revision : ℕ

-- what a registry holds
abbrev pub state_of : Registry → State
state_of r = record { files = r.kept.files; stored = view r.stored; revision = r.revision }

-- the verdicts that a registry keeps
abbrev pub shelf_of : Registry → List Judgement
shelf_of r = r.kept.shelf

-- what a registry keeps of pairs of fragments
abbrev pub pairs_of : Registry → List KeptGroup
pairs_of r = r.kept.pairs

-- the state without files, with data that has no members, before any edit, under this profile
abbrev pub empty_in : Profile → State
empty_in profile = record {
  files = record { profile = profile; schema = []; documents = [] };
  stored = object no_members;
  revision = 0;
}

-- the same under the profile that a registry has if none is given
abbrev pub empty : State
empty = empty_in whole_numbers

-- what is served, and how much is taken
abbrev pub profile_of : State → Profile
profile_of s = s.files.profile

-- the state with these files in place of its own
abbrev pub with_files : State → Files → State
with_files s files = record s { files = files }

-- the state with this data in place of its own
abbrev pub with_data : State → Data → State
with_data s d = record s { stored = d }

-- the state at this revision
abbrev pub at_revision : ℕ → State → State
at_revision revision s = record s { revision = revision }

-- the state after a mutation that has these effects: the revision counts edits alone
abbrev pub with_effects : State → List Effect → State
with_effects s effects = record s { stored = after effects s.stored }

-- the greatest revision
abbrev pub last_revision : ℕ
last_revision = 2 ^ 64 - 1
