use Rattle.std.proofs.Common.{◌++◌, ◌∙◌, ap, codes}
use Rattle.gql_render.specs.Texts.{fault_changes_text, fault_list_text}
use Rattle.gql_render.proofs.Appended.{four_parts}
use Rattle.gql_render.proofs.json_report.write_fault_changes.Goals as goal

pub returns : goal.returns
unfolding fault_changes_text
returns c =
    let now = c.args.now.now in
    let base = c.args.base.now in
    four_parts c.args.out.now.items (codes ",\"brought\":") (fault_list_text now base.comparison.now.brought.items) (codes ",\"mended\":") (fault_list_text base.findings.now base.comparison.now.mended.items) _ _ _ _
    c.in_ok-write_bytes.ensures (c.in_ok-write_fault_list.ensures ∙ ap (λ p. c.write_bytes.new.out.items ++ fault_list_text now p) c.as_slice.ensures.value)
    c.in_ok-write_bytes-2.ensures (c.in_ok-write_fault_list-2.ensures ∙ ap (λ p. c.write_bytes-2.new.out.items ++ fault_list_text base.findings.now p) c.as_slice-2.ensures.value)
