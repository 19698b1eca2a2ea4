use Rattle.std.proofs.Common.{◌++◌, ap, arith, sym}
use Rattle.std.proofs.lemmas.List.{length-take-le}
use Rattle.gql_readers.specs.Chunks.{joined}
use Rattle.gql_readers.proofs.Chunking.{pieces_more, rest_shorter}
use Rattle.gql_readers.proofs.reader_list.add_pieces.Goals as goal

pub pieces-init : goal.pieces-init
pieces-init c = ap (λ zs. joined c.args.all.now.items ++ zs) c.as_slice-rest.ensures.value

pub slice_bounds-add_piece-end : goal.slice_bounds-add_piece-end
slice_bounds-add_piece-end c = sym (length-take-le 64 c.pieces.rest.now (omega (arith, c.pieces-test.true)))

pub pieces-smaller : goal.pieces-smaller
pieces-smaller c = rest_shorter c.pieces.rest.now 64 (omega arith) (omega arith)

pub pieces-preserved : goal.pieces-preserved
pieces-preserved c = pieces_more (joined c.pieces.all.items) (joined c.add_piece.new.all.items) c.pieces.rest.now _ 64 c.in_ok-add_piece.ensures c.pieces.invariant
