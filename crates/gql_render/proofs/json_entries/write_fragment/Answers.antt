use Rattle.std.proofs.Common.{◌++◌, ◌∙◌, ap, codes}
use Rattle.json.specs.Print.{quoted}
use Rattle.gql_render.specs.Texts.{fragment_text}
use Rattle.gql_render.proofs.Appended.{two_parts}
use Rattle.gql_render.proofs.json_entries.write_fragment.Goals as goal

pub returns : goal.returns
unfolding fragment_text
returns c = two_parts c.args.out.now.items (codes "\"kind\":\"fragment\",\"name\":") (quoted c.args.name.now) _ _
    c.in_ok-write_bytes.ensures (c.in_ok-write_string.ensures ∙ ap (λ s. c.write_bytes.new.out.items ++ quoted s) c.as_str.ensures)
