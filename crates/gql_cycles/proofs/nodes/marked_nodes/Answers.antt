use Rattle.std.proofs.Common.{◌≡◌, ◌+◌, ◌++◌, ◌∷◌, [], ◌<◌, ◌↔◌, true, false, get_or, Contains, ap, sym, subst, ◌∙◌}
use Rattle.gql_cycles.specs.Path.{Rises}
use Rattle.gql_cycles.proofs.Inside.{marked_more, marked_other, rises_more}
use Rattle.gql_cycles.proofs.nodes.marked_nodes.Goals as goal
use Rattle.gql_cycles.proofs.nodes.marked_nodes.Goals.{then-mark+in_ok-push, else-mark}

pub loop-node-preserved : goal.loop-node-preserved
loop-node-preserved c =
    let marks = c.args.marks.now in
    let n = c.loop-node.node in
    let before = c.loop-node.nodes.items in
    elim c.if-mark.branch [
      | then-mark+in_ok-push w ↦
          let e : c.if-mark.nodes.items ≡ before ++ n ∷ [] = ap (λ v. v.items) w.nodes-is ∙ w.in_ok-push.ensures.items in
          record {
            once = subst (λ found. Rises found) (sym e) (rises_more marks before n c.loop-node.invariant.marked c.loop-node.invariant.once);
            marked = λ i. subst (λ found. Contains found i ↔ ((i < n + 1) × (get_or marks i false ≡ true))) (sym e) (marked_more marks before n c.loop-node.invariant.marked w.if-mark.true i);
          }
      | else-mark w ↦
          let e : c.if-mark.nodes.items ≡ before = ap (λ v. v.items) w.nodes-is in
          record {
            once = subst (λ found. Rises found) (sym e) c.loop-node.invariant.once;
            marked = λ i. subst (λ found. Contains found i ↔ ((i < n + 1) × (get_or marks i false ≡ true))) (sym e) (marked_other marks before n c.loop-node.invariant.marked w.if-mark.false i);
          }
    ]
