use Rattle.std.proofs.Common.{◌++◌, ◌∙◌, ap, codes}
use Rattle.gql_render.specs.Texts.{operation_changes_text, known_list_text}
use Rattle.gql_render.proofs.Appended.{four_parts}
use Rattle.gql_render.proofs.json_report.write_operation_changes.Goals as goal

pub returns : goal.returns
unfolding operation_changes_text
returns c =
    let now = c.args.now.now in
    let base = c.args.base.now in
    four_parts c.args.out.now.items (codes ",\"broken\":") (known_list_text base.comparison.now.hidden now base.comparison.now.broken.items) (codes ",\"healed\":") (known_list_text base.comparison.now.hidden base.findings.now base.comparison.now.healed.items) _ _ _ _
    c.in_ok-write_bytes.ensures (c.in_ok-write_known_list.ensures ∙ ap (λ p. c.write_bytes.new.out.items ++ known_list_text base.comparison.now.hidden now p) c.as_slice.ensures.value)
    c.in_ok-write_bytes-2.ensures (c.in_ok-write_known_list-2.ensures ∙ ap (λ p. c.write_bytes-2.new.out.items ++ known_list_text base.comparison.now.hidden base.findings.now p) c.as_slice-2.ensures.value)
