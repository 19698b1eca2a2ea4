use Rattle.std.proofs.Common.{ℕ, ◌∷◌, ◌≡◌, true, sym, ap, subst, ◌∙◌}
use Rattle.gql_clashes.specs.Numbered.{Lists, nodes_of}
use Rattle.gql_clashes.specs.Parts.{SpreadsTo}
use Rattle.tables_text.specs.Tested.{is_closed}
use Rattle.tables_text.proofs.Whole.{all_spread}
use Rattle.tables_text.proofs.numbered_sets.spread_bodies.Goals as goal

pub returns-then-is_closed : goal.returns-then-is_closed
returns-then-is_closed c =
    let z = c.args.sets.now in
    let body : ℕ = c.args.body in
    let is : c.in_ok-list.list.items ≡ body ∷ (nodes_of z).spreads body = c.in_ok-list.ensures ∙ ap (λ l. body ∷ l) c.spreads_at.ensures in
    let closed : is_closed z (body ∷ (nodes_of z).spreads body) ≡ true = ap (is_closed z) (sym (c.as_slice.ensures.value ∙ is)) ∙ sym c.is_closed.ensures ∙ c.if-is_closed.true in
    subst (λ l. Lists l (SpreadsTo (nodes_of z) body)) (sym is) (all_spread z body closed)
