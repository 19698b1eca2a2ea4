use Rattle.std.proofs.Common.{arith, length}
use Rattle.gql_wire.proofs.Streams.{is_grown}
use Rattle.gql_wire.proofs.stream.push_head.Goals as goal

pub advance_head-requires : goal.advance_head-requires
advance_head-requires c = (
  length c.args.held.now.bytes.items,
  rw (c.as_slice.ensures.value, c.in-Ok.ensures.items, c.front.ensures)
      (is_grown c.args.held.now.bytes.items c.args.piece.now c.min-count.result c.requires.held.0 (omega (arith, c.line_len.ensures.some, c.requires.held.1)) (omega (arith, c.line_len.ensures.within)) (omega (arith, c.requires.held.1))
      (λ k h. c.line_len.ensures.line k (omega arith))),
)
