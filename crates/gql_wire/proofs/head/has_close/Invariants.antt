use Rattle.std.proofs.Common.{◌≡◌, length}
use Rattle.std.specs.List.{prefix_len}
use Rattle.gql_wire.specs.Head.{names_close, is_item_byte}
use Rattle.gql_wire.proofs.head.has_close.Given as goal

abbrev pub invariant-items : goal.invariant-items
invariant-items l = record {
  same : names_close l.rest ≡ names_close l.initial.rest;
  end : l.end ≡ prefix_len is_item_byte l.rest;
}

abbrev pub decreases-items : goal.decreases-items
decreases-items l = length l.rest
