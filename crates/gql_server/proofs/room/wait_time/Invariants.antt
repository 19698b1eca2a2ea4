use Rattle.gql_server.specs.Waits.{IsLeast}
use Rattle.gql_server.proofs.room.wait_time.Given as goal

abbrev pub invariant-loop-slot : goal.invariant-loop-slot
invariant-loop-slot g l = IsLeast l.now l.slot-index l.seats l.wait
