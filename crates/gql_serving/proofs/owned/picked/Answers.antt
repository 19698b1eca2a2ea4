use Rattle.std.proofs.Common.{◌↔◌, ◌∙◌, ◌++◌, ◌∷◌, [], IsTrue, ap, subst, rules}
use Rattle.gql_serving.specs.OwnedAmong.{IsOwnedAmong}
use Rattle.gql_serving.proofs.Owning.{none_picked, one_picked, one_left_out}
use Rattle.gql_serving.proofs.owned.picked.Goals as goal
use Rattle.gql_serving.proofs.owned.picked.Goals.{then-is_owned+in_ok-clone+in_ok-push, else-is_owned}

pub loop-fault-init : goal.loop-fault-init
loop-fault-init c = none_picked (IsOwnedAmong c.args.places.now) [] c.new-owned.result.items (search rules) c.new-owned.ensures.items

pub loop-fault-preserved : goal.loop-fault-preserved
loop-fault-preserved c =
    let P = IsOwnedAmong c.args.places.now in
    let is = subst (λ f. IsTrue c.in_ok-is_owned.is_owned ↔ IsOwnedAmong c.args.places.now f) c.get.ensures (c.in_ok-is_owned.ensures c.in_ok-owners.ensures) in
    elim c.if-is_owned.branch [
      | then-is_owned+in_ok-clone+in_ok-push w ↦
          one_picked P c.args.faults.now c.loop-fault.fault-index c.fault-item.result c.in_ok-is_owned.is_owned c.loop-fault.owned.items c.if-is_owned.owned.items
          c.loop-fault-test.true c.fault-item.is is w.if-is_owned.true
          (ap (λ v. v.items) w.owned-is ∙ w.in_ok-push.ensures.items ∙ ap (λ f. c.loop-fault.owned.items ++ f ∷ []) w.in_ok-clone.ensures.cases)
          c.loop-fault.invariant
      | else-is_owned w ↦
          one_left_out P c.args.faults.now c.loop-fault.fault-index c.fault-item.result c.in_ok-is_owned.is_owned c.loop-fault.owned.items c.if-is_owned.owned.items
          c.loop-fault-test.true c.fault-item.is is w.if-is_owned.false
          (ap (λ v. v.items) w.owned-is) c.loop-fault.invariant
    ]
