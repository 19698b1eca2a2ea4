use Rattle.std.proofs.Common.{◌||◌, ◌∙◌, ℕ, List, ap, sym, bytes_eq, count_by, is_some}
use Rattle.std.specs.HashMap as hash
use Rattle.std.proofs.lemmas.List.{take_all}
use Rattle.gql_verdict.specs.Borrowed.{named}
use Rattle.gql_verdict.specs.declared.naming.NamedDefinition.{NamedDefinition}
use Rattle.gql_verdict.proofs.Adding.{counted_more, each_once}
use Rattle.gql_verdict.proofs.naming.has_repeated.Goals as goal

pub loop-one-preserved : goal.loop-one-preserved
loop-one-preserved c =
    let x = c.one-item.result in
    let old = λ (q : List ℕ). is_some (hash.get_by (λ k. bytes_eq q k.now) c.loop-one.set) in
    counted_more (λ (n : NamedDefinition). n.name.now.text) c.args.all.now c.loop-one.one-index x old _ c.loop-one-test.true (sym c.one-item.is) c.loop-one.invariant
    (ap old (sym c.as_str.ensures) ∙ (sym c.in_ok-had.ensures.had ∙ c.if-had.false))
    (λ q. c.in_ok-had.ensures.names q ∙ ap (λ n. old q || bytes_eq q n) c.as_str.ensures)

pub returns : goal.returns
returns c = λ told.
    let old = λ (q : List ℕ). is_some (hash.get_by (λ k. bytes_eq q k.now) c.loop-one.set) in
    each_once named c.args.all.now old
    (λ q. ap (λ (ys : List NamedDefinition). count_by (λ n. bytes_eq q n.name.now.text) ys) (sym (take_all _ _ c.loop-one-test.false)) ∙ c.loop-one.invariant q)
