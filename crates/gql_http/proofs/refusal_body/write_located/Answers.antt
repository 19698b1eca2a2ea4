use Rattle.std.proofs.Common.{codes, decimal}
use Rattle.json.specs.Print.{quoted}
use Rattle.gql_http.specs.Answers.{located_text}
use Rattle.gql_http.proofs.Appended.{seven_parts}
use Rattle.gql_http.proofs.refusal_body.write_located.Goals as goal

pub returns : goal.returns
unfolding located_text
returns c = seven_parts c.args.out.now.items (codes "{\"errors\":[{\"message\":") (quoted c.args.message.now) (codes ",\"locations\":[{\"line\":") (decimal c.args.place.line)
    (codes ",\"column\":") (decimal c.args.place.column) (codes "}]") _ _ _ _ _ _ _
    c.in_ok-write_bytes.ensures c.in_ok-write_string.ensures c.in_ok-write_bytes-2.ensures c.in_ok-write_number.ensures c.in_ok-write_bytes-3.ensures c.in_ok-write_number-2.ensures c.in_ok-write_bytes-4.ensures
