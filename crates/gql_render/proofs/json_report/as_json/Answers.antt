use Rattle.std.proofs.Common.{◌++◌, ◌∙◌, sym, ap, codes}
use Rattle.gql_render.specs.Texts.{head_text, state_text, changes_text}
use Rattle.gql_render.proofs.Appended.{four_parts}
use Rattle.gql_render.proofs.JsonTexts.{check_is}
use Rattle.gql_render.proofs.json_report.as_json.Goals as goal

pub returns : goal.returns
returns c =
    let check = c.args.check.now in
    four_parts c.new-out.result.items (head_text check.now.now) (state_text check.now.now) (changes_text check.now.now check.base) (codes "}") _ _ _ _
    c.in_ok-write_head.ensures c.in_ok-write_state.ensures c.in_ok-write_changes.ensures c.in_ok-write_bytes.ensures
    ∙ ap (λ xs. xs ++ (head_text check.now.now ++ state_text check.now.now ++ changes_text check.now.now check.base ++ codes "}")) c.new-out.ensures.items
    ∙ sym (check_is check)
