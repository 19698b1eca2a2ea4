use Rattle.std.proofs.Common.{◌++◌, ◌∙◌, ap, codes}
use Rattle.gql_render.specs.Texts.{base_text, truth_text}
use Rattle.gql_render.proofs.Appended.{four_parts}
use Rattle.gql_render.proofs.json_report.write_base.Goals as goal

pub returns : goal.returns
unfolding base_text
returns c =
    let base = c.args.base.now in
    four_parts c.args.out.now.items (codes ",\"baseSchemaIsFaulty\":") (truth_text base.findings.now.schema_is_faulty) (codes ",\"hidden\":") (truth_text base.comparison.now.hidden) _ _ _ _
    c.in_ok-write_bytes.ensures (c.in_ok-write_bytes-2.ensures ∙ ap (λ b. c.write_bytes.new.out.items ++ b) c.truth.ensures)
    c.in_ok-write_bytes-3.ensures (c.in_ok-write_bytes-4.ensures ∙ ap (λ b. c.write_bytes-3.new.out.items ++ b) c.truth-2.ensures)
