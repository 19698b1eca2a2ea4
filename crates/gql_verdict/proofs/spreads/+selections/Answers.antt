use Rattle.std.proofs.Common.{◌++◌, ◌∙◌, ap, sym, map, Bor}
use Rattle.std.proofs.lemmas.List.{map-append}
use Rattle.gql_ast.specs.declared.text.Name.{Name}
use Rattle.gql_verdict.specs.Spreads.{selection_spreads}
use Rattle.gql_verdict.proofs.SpreadForms.{in_spread}
use Rattle.gql_verdict.proofs.spreads.+selections.Goals as goal

pub add_selection_spreads-returns-in_ok-push-in-Spread : goal.add_selection_spreads-returns-in_ok-push-in-Spread
add_selection_spreads-returns-in_ok-push-in-Spread t c =
    let read = λ (n : Bor Name). n.now.text in
    let before = c.args.names.now.items in
    ap (map read) c.in_ok-push-in-Spread.ensures.items
    ∙ map-append read before _
    ∙ ap (λ l. map read before ++ l) (sym (in_spread c.in-Spread.spread) ∙ ap selection_spreads (sym c.in-Spread.is))
