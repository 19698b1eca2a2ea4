-- Helper definitions for private contracts: files that are prepared over what is kept.
use Rattle.std.specs.Prelude.{List}
use Rattle.gql_pairs.specs.Groups.{KeptGroup}
use Rattle.gql_registry.specs.Keeping.{HasPairsDue, IsKnownOf, IsPlanFor, KeepsPairs}
use Rattle.gql_registry.specs.declared.kept.PreparedFiles.{PreparedFiles}
use Rattle.gql_verdict.specs.FileOrder.{AreFilesPlaced}
use Rattle.gql_verdict.specs.Verdicts.{Judgement}

-- What is known is so of the files, and the steps lead to their verdicts from this shelf. All of these
-- pairs that hold for the files are kept, and there is an entry for each two fragments that a set of a
-- definition spreads which was due.
pub record AreReadyOver (shelf : List Judgement) (pairs : List KeptGroup) (p : PreparedFiles)
    : Type 0 where
  pub placed : AreFilesPlaced p.files.documents
  pub known_of : IsKnownOf p.files p.known
  pub planned : IsPlanFor p.files shelf p.verdicts
  pub keeps : KeepsPairs p.files pairs p.verdicts.pairs
  pub walked : HasPairsDue p.files shelf p.verdicts.pairs
