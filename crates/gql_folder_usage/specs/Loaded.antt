-- What is known of the files of a folder.
use Rattle.std.specs.Prelude.{◌≡◌, List}
use Rattle.gql_ast.specs.declared.files.Files.{Files}
use Rattle.gql_ast.specs.declared.profile.Profile.{Profile}
use Rattle.gql_check.specs.Loads.{IsLoaded}
use Rattle.gql_facts.specs.Facts.{fact_of}
use Rattle.gql_folder.specs.declared.folder.GivenFile.{GivenFile}
use Rattle.gql_folder_usage.specs.declared.loaded.Loaded.{Loaded}
use Rattle.gql_registry.specs.Report.{IsSound}
use Rattle.gql_registry.specs.State.{state_of}
use Rattle.gql_types.specs.Schemas.{schema_of}
use Rattle.gql_usage.specs.Stored.{facts_of}
use Rattle.gql_usage.specs.declared.stored.Stored.{Stored}
use Rattle.gql_verdict.specs.Definitions.{all_definitions}

-- what is stored are the facts of these files, and the definitions of the document files
pub record IsStoredOf (files : Files) (s : Stored) : Type 0 where
  pub facts : facts_of s ≡ fact_of files
  pub definitions : s.definitions.items ≡ all_definitions files.documents

-- The registry, of this profile, holds these files of a folder, whose schema has no fault. The schema is
-- theirs, and so is what is stored.
pub record IsLoadedFrom (p : Profile) (given : List GivenFile) (l : Loaded) : Type 0 where
  pub registry : IsLoaded p given l.registry
  pub sound : IsSound (state_of l.registry).files
  pub schema : l.schema ≡ schema_of (state_of l.registry).files
  pub stored : IsStoredOf (state_of l.registry).files l.stored
