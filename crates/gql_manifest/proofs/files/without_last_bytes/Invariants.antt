use Rattle.std.proofs.Common.{◌≡◌, ◌++◌, map}
use Rattle.std.specs.Vec.Iter.{into_iter_items}
use Rattle.gql_manifest.specs.Files.{without_last}
use Rattle.gql_manifest.specs.Packing.{texts_of}
use Rattle.gql_manifest.proofs.files.without_last_bytes.Given as goal

abbrev pub invariant-loop-text : goal.invariant-loop-text
invariant-loop-text l = texts_of l.shorter.items ++ map without_last (texts_of (into_iter_items l.text-iterator)) ≡ map without_last (texts_of l.fn.texts.items)
