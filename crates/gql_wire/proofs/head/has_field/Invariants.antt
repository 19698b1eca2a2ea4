use Rattle.std.proofs.Common.{◌≡◌, map, drop}
use Rattle.std.specs.List.{list_any}
use Rattle.httparse.specs.Spans.{header_bytes}
use Rattle.gql_wire.specs.Head.{is_named}
use Rattle.gql_wire.proofs.head.has_field.Given as goal

abbrev pub invariant-loop-field : goal.invariant-loop-field
invariant-loop-field l =
    list_any (is_named l.word) (map (header_bytes l.head) l.fields) ≡ list_any (is_named l.word) (map (header_bytes l.head) (drop l.field-index l.fields))
