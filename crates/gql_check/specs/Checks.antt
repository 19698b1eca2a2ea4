-- What a check of the files of a folder finds.
use Rattle.std.specs.Prelude.{ℕ, List}
use Rattle.gql_ast.specs.declared.profile.Profile.{Profile}
use Rattle.gql_check.specs.GivenSources.{AreSources}
use Rattle.gql_check.specs.Loads.{IsFolderState}
use Rattle.gql_findings.specs.declared.finding.Findings.{Findings}
use Rattle.gql_folder.specs.declared.folder.Folder.{Folder}
use Rattle.gql_folder.specs.declared.folder.GivenFile.{GivenFile}
use Rattle.gql_found.specs.Found.{IsFound}
use Rattle.gql_found.specs.declared.sources.Sources.{Sources}
use Rattle.gql_registry.specs.State.{State}

-- A check of these files of a folder finds this: what a registry of this profile reports after they
-- were put into it one by one, with the places in the files given.
pub record IsCheck (p : Profile) (label : List ℕ) (given : List GivenFile) (found : Findings)
    : Type 0 where
  pub folder : Folder
  pub state : State
  pub sources : Sources
  pub is : IsFolderState p given folder state
  pub given_as : AreSources label given folder sources
  pub found_in : IsFound sources state.files found
