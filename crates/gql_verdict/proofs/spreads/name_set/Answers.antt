use Rattle.std.proofs.Common.{◌||◌, ◌∙◌, ap, sym, bytes_eq, map, take, Bor}
use Rattle.gql_ast.specs.declared.text.Name.{Name}
use Rattle.gql_verdict.specs.V14FragmentsMustBeUsed.{is_spread}
use Rattle.gql_verdict.proofs.Adding.{spread_more}
use Rattle.gql_verdict.proofs.spreads.name_set.Goals as goal

pub loop-name-preserved : goal.loop-name-preserved
loop-name-preserved c = λ q.
    let read = λ (n : Bor Name). n.now.text in
    c.in_ok-add_name.ensures q
    ∙ ap (λ b. b || bytes_eq q c.as_str.result.now) (c.loop-name.invariant q)
    ∙ ap (λ t. is_spread (map read (take c.loop-name.name-index c.args.names.now)) q || bytes_eq q t) c.as_str.ensures
    ∙ sym (spread_more read c.args.names.now c.loop-name.name-index c.name-item.result q c.loop-name-test.true (sym c.name-item.is))
