use Rattle.std.proofs.Common.{◌≡◌, ◌*◌, ◌<◌, ◌^◌, ◌++◌, length}
use Rattle.gql_readers.specs.Chunks.{joined}
use Rattle.gql_readers.specs.Merged.{edited}
use Rattle.gql_readers.specs.Orders.{AreInOrder}
use Rattle.gql_readers.proofs.reader_list.ReaderList.edited.Given as goal

abbrev pub invariant-groups : goal.invariant-groups
invariant-groups l = record {
  chunks_fit : length l.chunks * 8 < 2 ^ 64;
  left_fit : length l.left * 8 < 2 ^ 64;
  order : AreInOrder (joined l.chunks);
  so_far : joined l.all.items ++ edited l.fn.comes (joined l.chunks) l.left ≡ edited l.fn.comes l.fn.self l.fn.changed;
}

abbrev pub decreases-groups : goal.decreases-groups
decreases-groups l = length l.chunks
