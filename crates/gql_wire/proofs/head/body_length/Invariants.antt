use Rattle.std.proofs.Common.{◌≡◌, map, drop, codes}
use Rattle.httparse.specs.Spans.{header_bytes}
use Rattle.gql_wire.specs.Head.{content_length, values_of}
use Rattle.gql_wire.proofs.Fields.{length_after}
use Rattle.gql_wire.proofs.head.body_length.Given as goal

abbrev pub invariant-loop-field : goal.invariant-loop-field
invariant-loop-field l =
    content_length (values_of (codes "content-length") (map (header_bytes l.head) l.fields))
    ≡ length_after l.earlier (values_of (codes "content-length") (map (header_bytes l.head) (drop l.field-index l.fields)))
