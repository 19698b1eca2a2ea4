use Rattle.std.proofs.Common.{◌≡◌, ◌∙◌, [], ◌∷◌, ◌++◌, length, map, ap, sym, subst, arith}
use Rattle.gql_clashes.specs.Numbered.{nodes_of}
use Rattle.gql_clashes.specs.Search.{start_at}
use Rattle.gql_clashes.specs.Seen.{IsInside, IsSquare, rows_of}
use Rattle.gql_clashes.proofs.ReachWalk.{asked_in, popped_in, reach_ended, reach_less, reaching_by, reaching_first}
use Rattle.gql_clashes.proofs.Seeing.{rows_square}
use Rattle.gql_clashes.proofs.reach.reach.Goals as goal

pub loop-item-init : goal.loop-item-init
loop-item-init c =
    let q : IsSquare (length c.args.sets.now.bodies.items) (rows_of c.args.seen.now) = subst (λ n. IsSquare n (rows_of c.args.seen.now)) c.requires.count (rows_square c.args.seen.now.count c.args.seen.now.words) in
    let one : c.deref.result.now ≡ c.args.body ∷ [] = c.deref.ensures.value ∙ c.in_ok-push.ensures.items ∙ ap (λ l. l ++ c.args.body ∷ []) c.new-first.ensures.items in
    let r = reaching_first c.args.sets.now c.requires.whole c.args.body c.requires.body (rows_of c.args.seen.now) c.deref-2.result.now c.new-todo.result.items c.mark.new.todo.items (rows_of c.mark.new.seen)
    q (c.deref-2.ensures.value ∙ c.in_ok-starts.ensures ∙ ap (map start_at) one) c.new-todo.ensures.items c.in_ok-mark.ensures.seen c.in_ok-mark.ensures.todo in
    record {
      size = c.mark.ensures.count ∙ c.requires.count;
      square = r.0;
      reaching = rw (← c.new-found.ensures.items) at r.1;
    }

pub spreads_of-requires : goal.spreads_of-requires
spreads_of-requires c = popped_in c.args.sets.now c.requires.whole c.args.body c.requires.body (rows_of c.args.seen.now) _ _ _ _ c.in-Some.item c.loop-item.invariant.reaching c.in-Some.ensures.items

pub mark-requires-in-Some : goal.mark-requires-in-Some
mark-requires-in-Some c = λ x h.
    let a : c.deref-in-Some.result.now ≡ map start_at ((nodes_of c.args.sets.now).spreads c.in-Some.item.left) = c.deref-in-Some.ensures.value ∙ c.in_ok-asked.ensures ∙ ap (map start_at) c.spreads_of.ensures in
    subst (λ n. IsInside n x) (sym c.loop-item.invariant.size) (asked_in c.args.sets.now c.requires.whole c.in-Some.item.left x (rw a at h))

pub loop-item-smaller : goal.loop-item-smaller
loop-item-smaller c =
    let a : c.deref-in-Some.result.now ≡ map start_at ((nodes_of c.args.sets.now).spreads c.in-Some.item.left) = c.deref-in-Some.ensures.value ∙ c.in_ok-asked.ensures ∙ ap (map start_at) c.spreads_of.ensures in
    reach_less c.args.sets.now c.requires.whole c.args.body c.requires.body (rows_of c.args.seen.now) _ _ _ c.deref-in-Some.result.now _ _ c.in-Some.item c.loop-item.invariant.square
    c.in-Some.ensures.items a c.in_ok-mark-2.ensures.seen c.in_ok-mark-2.ensures.todo

pub loop-item-preserved : goal.loop-item-preserved
loop-item-preserved c =
    let a : c.deref-in-Some.result.now ≡ map start_at ((nodes_of c.args.sets.now).spreads c.in-Some.item.left) = c.deref-in-Some.ensures.value ∙ c.in_ok-asked.ensures ∙ ap (map start_at) c.spreads_of.ensures in
    let r = reaching_by c.args.sets.now c.requires.whole c.args.body c.requires.body (rows_of c.args.seen.now) c.loop-item.found.items c.push-in-Some.new.self.items _ _ _ c.deref-in-Some.result.now _ _ c.in-Some.item
    c.loop-item.invariant.square c.loop-item.invariant.reaching c.in-Some.ensures.items a c.in_ok-push-2.ensures.items c.in_ok-mark-2.ensures.seen c.in_ok-mark-2.ensures.todo in
    record { size = c.mark-in-Some.ensures.count ∙ c.loop-item.invariant.size; square = r.0; reaching = r.1 }

pub returns-clause-reach : goal.returns-clause-reach
returns-clause-reach c =
    let e : length c.loop-item.todo.items ≡ 0 = omega (arith, c.in_default.ensures.cases, c.loop-item.todo.ok.0) in
    reach_ended c.args.sets.now c.requires.whole c.args.body c.requires.body (rows_of c.args.seen.now) (rows_of c.loop-item.seen) c.loop-item.todo.items c.loop-item.found.items c.requires.closed e c.loop-item.invariant.reaching
