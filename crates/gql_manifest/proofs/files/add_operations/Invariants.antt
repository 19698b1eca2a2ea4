use Rattle.std.proofs.Common.{◌≡◌, ◌++◌, map}
use Rattle.gql_manifest.specs.Files.{files_of, own_file}
use Rattle.gql_manifest.specs.Gathering.{operation_of}
use Rattle.gql_manifest.proofs.files.add_operations.Given as goal

abbrev pub invariant-loop-name : goal.invariant-loop-name
invariant-loop-name l =
    files_of l.files.items ++ map own_file (map operation_of l.name-iterator) ≡ files_of l.initial.files.items ++ map own_file (map operation_of l.fn.operations.entries)
