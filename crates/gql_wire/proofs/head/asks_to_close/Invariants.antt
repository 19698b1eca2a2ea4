use Rattle.std.proofs.Common.{◌≡◌, map, drop, codes}
use Rattle.std.specs.List.{list_any}
use Rattle.httparse.specs.Spans.{header_bytes}
use Rattle.gql_wire.specs.Head.{values_of, names_close}
use Rattle.gql_wire.proofs.head.asks_to_close.Given as goal

abbrev pub invariant-loop-field : goal.invariant-loop-field
invariant-loop-field l =
    list_any names_close (values_of (codes "connection") (map (header_bytes l.head) l.fields))
    ≡ list_any names_close (values_of (codes "connection") (map (header_bytes l.head) (drop l.field-index l.fields)))
