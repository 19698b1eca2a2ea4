use Rattle.std.proofs.Common.{◌++◌, ◌∙◌, ap, codes}
use Rattle.gql_render.specs.Texts.{head_text, truth_text}
use Rattle.gql_render.proofs.Appended.{two_parts}
use Rattle.gql_render.proofs.json_report.write_head.Goals as goal

pub returns : goal.returns
unfolding head_text
returns c = two_parts c.args.out.now.items (codes "{\"schemaIsFaulty\":") (truth_text c.args.now.now.schema_is_faulty) _ _
    c.in_ok-write_bytes.ensures (c.in_ok-write_bytes-2.ensures ∙ ap (λ b. c.write_bytes.new.out.items ++ b) c.truth.ensures)
