use Rattle.std.proofs.Common.{◌≡◌, ◌∙◌, ◌<◌, ◌≤◌, ℕ, List, [], ◌∷◌, ◌++◌, Contains, ap, get_or, length, rules, subst, sym}
use Rattle.std.proofs.lemmas.List.{get_or_default}
use Rattle.std.proofs.lemmas.List.Elements.{Contains-get_or}
use Rattle.gql_clashes.specs.Numbered.{nodes_of}
use Rattle.gql_clashes.specs.Reach.{across}
use Rattle.gql_clashes.specs.Seen.{rows_of}
use Rattle.gql_clashes.proofs.Members.{take_has}
use Rattle.gql_clashes.proofs.NeededPairs.{needing_ended, needing_first, needing_more}
use Rattle.gql_clashes.proofs.needed.add_needed.Goals as goal

pub loop-spread-init : goal.loop-spread-init
loop-spread-init c =
    let k : c.len.result ≡ length c.args.sets.now.bodies.items = search rules in
    let one : c.push.new.self.items ≡ c.args.body ∷ [] = c.in_ok-push.ensures.items ∙ ap (λ l. l ++ c.args.body ∷ []) c.new-done.ensures.items in
    let made : c.add_across.new.pairs.items ≡ c.args.pairs.now.items ++ across (c.args.body ∷ []) (c.args.body ∷ []) =
    c.in_ok-add_across.ensures ∙ ap (λ l. c.args.pairs.now.items ++ across l c.deref-2.result.now) (c.deref.ensures.value ∙ one) ∙ ap (λ l. c.args.pairs.now.items ++ across (c.args.body ∷ []) l) (c.deref-2.ensures.value ∙ one) in
    record {
      count = c.nothing_seen-seen.ensures.count ∙ k;
      needing = needing_first c.args.sets.now c.args.body c.args.pairs.now.items c.len.result (rows_of c.nothing_seen-seen.result) c.push.new.self.items c.add_across.new.pairs.items
          c.nothing_seen-seen.ensures.rows one made;
    }

pub reach-requires-clause-body : goal.reach-requires-clause-body
reach-requires-clause-body c = c.requires.whole.spreads c.args.body _
    (subst (λ (l : List ℕ). Contains l (get_or c.spreads_of-spread-items.result.now c.loop-spread.spread-index 0)) c.spreads_of-spread-items.ensures
    (Contains-get_or c.spreads_of-spread-items.result.now c.loop-spread.spread-index 0 c.loop-spread-test.true))

pub loop-spread-preserved : goal.loop-spread-preserved
loop-spread-preserved c =
    let spreads : List ℕ = (nodes_of c.args.sets.now).spreads c.args.body in
    let i : ℕ = c.loop-spread.spread-index in
    let e : c.spreads_of-spread-items.result.now ≡ spreads = c.spreads_of-spread-items.ensures in
    let lt : i < length spreads = subst (λ (l : List ℕ). i < length l) e c.loop-spread-test.true in
    let same : get_or c.spreads_of-spread-items.result.now i 0 ≡ get_or spreads i 0 = ap (λ (l : List ℕ). get_or l i 0) e in
    let u : ℕ = get_or c.spreads_of-spread-items.result.now i 0 in
    let here : Contains spreads u = subst (Contains spreads) (sym same) (Contains-get_or spreads i 0 lt) in
    let is : get_or spreads i u ≡ u = get_or_default spreads i u 0 lt ∙ sym same in
    let left : c.deref-in-loop-spread.result.now ≡ c.loop-spread.done.items = c.deref-in-loop-spread.ensures.value in
    let right : c.deref-in-loop-spread-2.result.now ≡ c.in_ok-new.new.items = c.deref-in-loop-spread-2.ensures.value in
    let made : c.add_across-in-loop-spread.new.pairs.items ≡ c.loop-spread.pairs.items ++ across c.loop-spread.done.items c.in_ok-new.new.items =
    c.in_ok-add_across-2.ensures ∙ ap (λ l. c.loop-spread.pairs.items ++ across l c.deref-in-loop-spread-2.result.now) left ∙ ap (λ l. c.loop-spread.pairs.items ++ across c.loop-spread.done.items l) right in
    record {
      count = c.reach.ensures.count;
      needing = needing_more c.args.sets.now c.args.body c.args.pairs.now.items _ _ u _ (rows_of c.reach.new.seen) c.loop-spread.done.items c.in_ok-new.new.items c.loop-spread.pairs.items
          c.loop-spread.invariant.needing here c.in_ok-new.ensures.reach (λ d h. take_has spreads i u d lt is h) c.append.new.self.items c.add_across-in-loop-spread.new.pairs.items made c.in_ok-append.ensures.items;
    }

pub returns : goal.returns
returns c = needing_ended c.args.sets.now c.args.body c.args.pairs.now.items c.loop-spread.spread-index (rows_of c.loop-spread.seen) c.loop-spread.done.items c.loop-spread.pairs.items
    (subst (λ (l : List ℕ). length l ≤ c.loop-spread.spread-index) c.spreads_of-spread-items.ensures c.loop-spread-test.false) c.loop-spread.invariant.needing
