use Rattle.std.proofs.Common.{◌<◌, arith, refl}
use Rattle.gql_server.proofs.Growing.{grows_join}
use Rattle.gql_server.proofs.Rounding.{admits_at, admitting_none, count_one}
use Rattle.gql_server.specs.Traffic.{accepts, joined}
use Rattle.gql_server.proofs.together.admit_one.Goals as goal

pub returns-then-not-queue : goal.returns-then-not-queue
returns-then-not-queue g c = admitting_none _ _ _ _ _ _ refl

pub returns-in_default : goal.returns-in_default
returns-in_default g c = admitting_none _ _ _ _ _ _ refl

pub returns-in-Ok-Some : goal.returns-in-Ok-Some
returns-in-Ok-Some g c =
    let accepted = rw c.in-Ok-Some.field-0-is at c.in-Ok-Some.ensures in
    let line = g.S.Socket.line c.in-Ok-Some.socket in let moves = c.seat.ensures.moves in
    let some : 0 < c.args.queue.now.left = omega arith in (
      joined (accepts line) moves.0,
      grows_join _ _ _ (accepts line) moves.0 accepted moves.1,
      admits_at c.args.at_once c.in-Some.number c.from.result c.args.hub.now c.seat.new.hub c.args.seats.now c.index-seats-from.result c.seat.new.slot (joined (accepts line) moves.0) c.requires c.in-Some.ensures.0 c.from.ensures c.told-seats moves.2 c.in-Some.ensures.1 c.seat.ensures.fresh,
      count_one line moves.0.accepted c.args.queue.now.left moves.3 some,
    )

pub returns-in-Ok-None : goal.returns-in-Ok-None
returns-in-Ok-None g c =
    admitting_none _ _ _ _ _ _ (rw c.in-Ok-None.field-0-is at c.in-Ok-None.ensures)

pub returns-in-Err-Passing : goal.returns-in-Err-Passing
returns-in-Err-Passing g c = admitting_none _ _ _ _ _ _ c.in-Err-Passing.ensures

pub returns-in-Err-Failed : goal.returns-in-Err-Failed
returns-in-Err-Failed g c = admitting_none _ _ _ _ _ _ c.in-Err-Failed.ensures
