use Rattle.std.proofs.Common.{codes}
use Rattle.gql_http.specs.Json.{where_text, places_text, owner_text}
use Rattle.gql_http.proofs.Appended.{five_parts}
use Rattle.gql_http.proofs.report_body.write_where.Goals as goal

pub returns : goal.returns
unfolding where_text
returns c = five_parts c.args.out.now.items (codes ",\"places\":[") (places_text c.args.fault.now.places) (codes "],\"owner\":") (owner_text c.args.fault.now.owner) (codes "}") _ _ _ _ _
    c.in_ok-write_bytes.ensures (rw (← c.as_slice.ensures) c.in_ok-write_places.ensures) c.in_ok-write_bytes-2.ensures c.in_ok-write_owner.ensures c.in_ok-write_bytes-3.ensures
