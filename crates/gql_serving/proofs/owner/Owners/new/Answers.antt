use Rattle.std.proofs.Common.{◌≡◌, subst}
use Rattle.std.specs.Prelude.{◌||◌}
use Rattle.std.specs.HashSet.{contains}
use Rattle.gql_serving.specs.Owners.{is_owner, same_place}
use Rattle.gql_serving.proofs.Places.{one_fault_more}
use Rattle.gql_serving.proofs.owner.Owners.new.Goals as goal

pub loop-fault-preserved : goal.loop-fault-preserved
loop-fault-preserved c = λ p.
    one_fault_more c.args.faults.now c.loop-fault.fault-index c.fault-item.result p
    (contains same_place c.loop-fault.places p) (contains same_place c.add_owner.new.places p) c.loop-fault-test.true c.fault-item.is
    (subst (λ f. contains same_place c.add_owner.new.places p ≡ (is_owner p f || contains same_place c.loop-fault.places p)) c.get.ensures (c.in_ok-add_owner.ensures p))
    (c.loop-fault.invariant p)
