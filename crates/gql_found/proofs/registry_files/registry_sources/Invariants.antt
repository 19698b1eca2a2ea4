use Rattle.std.proofs.Common.{◌≡◌, ℕ, List, map, take}
use Rattle.gql_ast.specs.declared.fault.FileSide.{FileSide}
use Rattle.gql_found.specs.RegistryFiles.{index_from, source_of}
use Rattle.gql_found.specs.Spots.{files_of, index_of}
use Rattle.gql_found.proofs.registry_files.registry_sources.Given as goal

abbrev pub invariant-loop-file : goal.invariant-loop-file
invariant-loop-file l = (files_of l.sources ≡ map source_of (take l.file-index l.files))
    × ((side : FileSide) (name : List ℕ) → index_of l.sources side name ≡ index_from 0 side name (take l.file-index l.files))
