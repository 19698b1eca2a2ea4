use Rattle.std.proofs.Common.{◌++◌, ◌∙◌, ap, map, sym}
use Rattle.gql_vars.specs.Lists.{use_of}
use Rattle.gql_vars.specs.Uses.{argument_uses, directive_uses, set_uses}
use Rattle.gql_vars.proofs.SelectionUses.{in_field, in_inline, two, three}
use Rattle.gql_vars.proofs.selections.+selections.Goals as goal

pub add_field_uses-returns : goal.add_field_uses-returns
add_field_uses-returns t c =
    let file = c.args.file.now in
    let f = c.args.field.now in
    three (map use_of c.args.uses.now.items) _ _ _ (argument_uses file f.arguments) (directive_uses file f.directives) (set_uses file f.selections)
    (c.in_ok-add_argument_uses.ensures ∙ ap (λ l. map use_of c.args.uses.now.items ++ argument_uses file l) c.as_slice.ensures)
    (c.in_ok-add_directive_uses.ensures ∙ ap (λ l. map use_of c.add_argument_uses.new.uses.items ++ directive_uses file l) c.as_slice-2.ensures)
    (c.in_ok-add_set_uses.ensures ∙ ap (λ l. map use_of c.add_directive_uses.new.uses.items ++ set_uses file l) c.as_slice-3.ensures)
    ∙ ap (λ l. map use_of c.args.uses.now.items ++ l) (sym (in_field file f))

pub add_inline_uses-returns : goal.add_inline_uses-returns
add_inline_uses-returns t c =
    let file = c.args.file.now in
    let i = c.args.inline.now in
    two (map use_of c.args.uses.now.items) _ _ (directive_uses file i.directives) (set_uses file i.selections)
    (c.in_ok-add_directive_uses.ensures ∙ ap (λ l. map use_of c.args.uses.now.items ++ directive_uses file l) c.as_slice.ensures)
    (c.in_ok-add_set_uses.ensures ∙ ap (λ l. map use_of c.add_directive_uses.new.uses.items ++ set_uses file l) c.as_slice-2.ensures)
    ∙ ap (λ l. map use_of c.args.uses.now.items ++ l) (sym (in_inline file i))
