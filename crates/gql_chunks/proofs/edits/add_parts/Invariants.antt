use Rattle.std.proofs.Common.{◌≡◌, ◌++◌, take}
use Rattle.gql_chunks.specs.Lists.{AreFull, joined}
use Rattle.gql_chunks.proofs.edits.add_parts.Given as goal

abbrev pub invariant-loop-item : goal.invariant-loop-item
invariant-loop-item g l = record {
  items : joined l.chunks.items ++ l.part.items ≡ joined l.fn.chunks.items ++ take l.item-index l.items;
  full : AreFull l.chunks.items;
}
