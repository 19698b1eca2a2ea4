use Rattle.std.proofs.Common.{◌∙◌, ap, cond, true}
use Rattle.gql_found.proofs.Marks.{owner_more}
use Rattle.gql_found.specs.Owners.{is_owned_by}
use Rattle.gql_found.specs.Steps.{is_marked}
use Rattle.gql_found.proofs.owners.Owners.new.Goals as goal

pub loop-fault-preserved : goal.loop-fault-preserved
loop-fault-preserved c = λ d.
    owner_more c.args.faults.now c.loop-fault.fault-index c.fault-item.result c.loop-fault-test.true c.fault-item.is d _ _
    (c.in_ok-add_owner.ensures d ∙ ap (λ f. cond (is_owned_by d f) true (is_marked c.loop-fault.marks d)) c.get.ensures) (c.loop-fault.invariant d)
