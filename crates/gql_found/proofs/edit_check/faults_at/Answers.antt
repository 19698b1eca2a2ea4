use Rattle.gql_found.proofs.Picked.{places_more}
use Rattle.gql_found.proofs.edit_check.faults_at.Goals as goal

pub loop-place-preserved : goal.loop-place-preserved
loop-place-preserved c =
    places_more c.args.faults.now c.args.places.now c.loop-place.place-index 0 c.loop-place.picked.items c.add_fault.new.picked.items
    c.loop-place-test.true c.loop-place.invariant (c.in_ok-add_fault.ensures)
