use Rattle.std.proofs.Common.{take}
use Rattle.std.specs.List.{AllZip}
use Rattle.gql_check.specs.GivenSources.{IsSource}
use Rattle.gql_found.specs.Spots.{HaveSameNames, files_of}
use Rattle.gql_check.proofs.sources.add_given.Given as goal

abbrev pub invariant-loop-file : goal.invariant-loop-file
invariant-loop-file l = AllZip (IsSource l.folder) (take l.file-index l.files) (files_of l.sources)
    × HaveSameNames l.initial.sources l.sources
