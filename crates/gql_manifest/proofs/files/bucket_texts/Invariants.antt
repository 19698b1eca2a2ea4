use Rattle.std.proofs.Common.{◌≡◌, ◌++◌, map}
use Rattle.gql_manifest.specs.Files.{texts_in}
use Rattle.gql_manifest.specs.Gathering.{operation_of}
use Rattle.gql_manifest.specs.Packing.{pieces_of}
use Rattle.gql_manifest.proofs.files.bucket_texts.Given as goal

abbrev pub invariant-loop-name : goal.invariant-loop-name
invariant-loop-name l = pieces_of l.pieces.items ++ texts_in l.bucket (map operation_of l._name-iterator) ≡ texts_in l.bucket (map operation_of l.operations.entries)
