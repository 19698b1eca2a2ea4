use Rattle.std.proofs.Common.{◌++◌, ◌∙◌, ap}
use Rattle.std.proofs.lemmas.List.{append-nil}
use Rattle.std.proofs.lemmas.List.Concat.{flat_map-append}
use Rattle.gql_page.specs.Markdown.{telling, told}
use Rattle.gql_page.proofs.markdown.add_part.Goals as goal

pub returns : goal.returns
returns c =
    ap told c.in_ok-push.ensures.items
    ∙ flat_map-append (λ p. telling p.entry) c.args.parts.now.items _
    ∙ ap (λ xs. told c.args.parts.now.items ++ xs) (append-nil (telling c.args.entry))
