use Rattle.std.proofs.Common.{◌≡◌, ◌++◌, length}
use Rattle.gql_chunks.specs.Edits.{edited}
use Rattle.gql_chunks.specs.Lists.{AreFull, AreInOrder, IsChunked, joined}
use Rattle.gql_chunks.proofs.edits.edit_each.Given as goal

abbrev pub decreases-loop-chunk : goal.decreases-loop-chunk
decreases-loop-chunk g l = length l.left

abbrev pub invariant-loop-chunk : goal.invariant-loop-chunk
invariant-loop-chunk g l =
    let order = g.T.HasOrder.order in
    record {
      chunks : IsChunked order l.left;
      sorted : AreInOrder order l.rest;
      items : joined l.all.items ++ edited order l.comes (joined l.left) l.rest ≡ edited order l.comes (joined l.chunks) l.changed;
      full : AreFull l.all.items;
    }
