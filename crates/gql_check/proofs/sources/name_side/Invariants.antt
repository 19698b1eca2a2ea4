use Rattle.std.proofs.Common.{◌≡◌, take}
use Rattle.gql_check.specs.Steps.{AreNamedAll}
use Rattle.gql_found.specs.Spots.{files_of}
use Rattle.gql_check.proofs.sources.name_side.Given as goal

abbrev pub invariant-loop-file : goal.invariant-loop-file
invariant-loop-file l = (files_of l.sources ≡ files_of l.initial.sources)
    × AreNamedAll l.side (take l.file-index l.named) l.initial.sources l.sources
