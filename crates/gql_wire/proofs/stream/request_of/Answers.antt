use Rattle.std.proofs.Common.{◌∙◌}
use Rattle.std.proofs.lemmas.List.{take_rest}
use Rattle.gql_wire.proofs.Streams.{done_request}
use Rattle.gql_wire.proofs.stream.request_of.Goals as goal

pub returns : goal.returns
returns c = done_request c.args.held.now.bytes.items _ _ _ c.args.pending c.requires (rw c.as_slice-bytes.ensures.value at (c.in_ok-method.ensures.items ∙ c.of.ensures)) (rw c.as_slice-bytes.ensures.value at (c.in_ok-target.ensures.items ∙ c.of-2.ensures))
    (rw c.as_slice-bytes.ensures.value at (c.in_ok-body.ensures.items ∙ take_rest _ c.args.pending.head))
