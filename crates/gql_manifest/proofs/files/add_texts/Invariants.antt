use Rattle.std.proofs.Common.{◌≡◌, ◌+◌, ◌++◌, length}
use Rattle.std.specs.Vec.Iter.{into_iter_items}
use Rattle.gql_manifest.specs.Files.{files_from, files_of, numbered_from}
use Rattle.gql_manifest.specs.Packing.{texts_of}
use Rattle.gql_manifest.proofs.files.add_texts.Given as goal

abbrev pub invariant-loop-bytes : goal.invariant-loop-bytes
invariant-loop-bytes l = record {
  files : files_of l.files.items ++ numbered_from l.at l.stem l.source (texts_of (into_iter_items l.bytes-iterator))
      ≡ files_of l.initial.files.items ++ files_from l.stem l.source (texts_of l.fn.texts.items);
  all : l.at + length (into_iter_items l.bytes-iterator) ≡ length l.fn.texts.items;
}
