use Rattle.std.proofs.Common.{◌≡◌, ◌<◌, ◌-◌, ◌↔◌, ◌⊎◌, true, Contains, length, map, get_or, take, ◌∙◌, ap, subst, sym, refl}
use Rattle.std.specs.Vec.{with_items}
use Rattle.std.proofs.lemmas.List.{with_items_is}
use Rattle.std.proofs.lemmas.Bool.{iff_false}
use Rattle.gql_cycles.specs.declared.walk.State.TheVariants.{New}
use Rattle.gql_cycles.specs.Path.{Ends, closed_from}
use Rattle.gql_cycles.proofs.Steps.{leave_alone, leave_closed, there_answer}
use Rattle.gql_cycles.proofs.walk.leave.Goals as goal

pub close-requires-clause-there : goal.close-requires-clause-there
close-requires-clause-there c = there_answer (map (λ v. v.items) c.args.edges.now) c.args.walk.now c.requires.walk _ _ c.deref_mut.ensures.value c.deref-then-is_last.ensures.value

pub returns-then-is_last : goal.returns-then-is_last
returns-then-is_last c =
    let walk = c.args.walk.now in
    let at = c.args.at in
    let mark = c.is_cycle-mark.result in
    let lent : length c.close.new.states ≡ walk.states.len = c.close.auto.states ∙ c.deref_mut.ensures.len in
    let states : (with_items walk.states c.close.new.states).items ≡ c.close.new.states = with_items_is walk.states c.close.new.states lent in
    let last : Ends walk.bounds.items at = subst (λ xs. Ends xs at) c.deref.ensures.value (c.is_last.ensures.0 c.if-is_last.true) in
    leave_closed (map (λ v. v.items) c.args.edges.now) walk
    (record walk { states = with_items walk.states c.close.new.states; path = c.truncate.new.self; bounds = c.pop-then-is_last.new.self; calls = c.pop.new.self })
    at c.node_of-node.result mark c.ends_of.result.now c.requires.walk c.requires.at c.node_of-node.ensures.value c.ends_of.ensures c.requires.done last
    (subst (λ k. (mark ≡ true) ↔ ((1 < k - at) ⊎ Contains c.ends_of.result.now c.node_of-node.result)) (c.len.ensures ∙ walk.path.ok.0) c.is_cycle-mark.ensures)
    (λ v. ap (λ s. get_or s v New) states ∙ c.close.ensures v ∙ ap (λ s. closed_from at mark (get_or s v New)) c.deref_mut.ensures.value)
    (ap length states ∙ c.close.auto.states ∙ ap length c.deref_mut.ensures.value)
    refl c.truncate.ensures.items
    (c.pop-then-is_last.ensures.rest ∙ ap (λ k. take (k - 1) walk.bounds.items) walk.bounds.ok.0)
    (c.pop.ensures.rest ∙ ap (λ k. take (k - 1) walk.calls.items) walk.calls.ok.0)

pub returns-else-is_last : goal.returns-else-is_last
returns-else-is_last c = leave_alone (map (λ v. v.items) c.args.edges.now) c.args.walk.now (record c.args.walk.now { calls = c.pop.new.self }) c.args.at c.requires.walk c.requires.at c.requires.done
    (λ e. iff_false c.is_last.ensures c.if-is_last.false (subst (λ xs. Ends xs c.args.at) (sym c.deref.ensures.value) e))
    refl refl refl refl (c.pop.ensures.rest ∙ ap (λ k. take (k - 1) c.args.walk.now.calls.items) c.args.walk.now.calls.ok.0)
