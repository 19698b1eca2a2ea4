use Rattle.std.proofs.Common.{refl}
use Rattle.gql_server.proofs.Growing.{grows_nothing}
use Rattle.gql_server.proofs.Rooming.{moves_free, moves_on, moves_over, moves_stay}
use Rattle.gql_server.proofs.Seating.{turn_ends, turn_stays}
use Rattle.gql_server.specs.Traffic.{no_traffic}
use Rattle.gql_server.proofs.room.turn_of.Goals as goal

pub returns-in_default-clause-moves : goal.returns-in_default-clause-moves
returns-in_default-clause-moves g c =
    (no_traffic, grows_nothing _ _ refl, moves_stay _ _ _ _, refl)

pub returns-then-is_over-clause-moves : goal.returns-then-is_over-clause-moves
returns-then-is_over-clause-moves g c = (
  _,
  c.leave.ensures.returned,
  moves_free _ _ _ _ _ c.leave.new.slot _ c.leave.ensures.free
      (moves_over _ _ _ _ _ _ _ c.advance-is_over.new.self.talk c.requires c.in-Some.is c.advance-is_over.ensures.moves c.leave.ensures.does),
  refl,
)

pub returns-then-is_over-clause-turn : goal.returns-then-is_over-clause-turn
returns-then-is_over-clause-turn g c =
    turn_ends c.args.number c.args.hub.now c.advance-is_over.new.hub _ c.advance-is_over.new.self c.args.slot.now c.leave.new.slot c.advance-is_over.result c.in-Some.is c.advance-is_over.ensures.ready c.if-is_over.true c.leave.ensures.free

pub returns-else-is_over-clause-turn : goal.returns-else-is_over-clause-turn
returns-else-is_over-clause-turn g c =
    turn_stays c.args.number c.args.hub.now c.advance-is_over.new.hub _ c.advance-is_over.new.self c.args.slot.now c.advance-is_over.result c.in-Some.is c.advance-is_over.ensures.ready c.advance-is_over.ensures.quiet c.if-is_over.false

pub returns-else-is_over-clause-moves : goal.returns-else-is_over-clause-moves
returns-else-is_over-clause-moves g c = (
  no_traffic,
  grows_nothing _ _ refl,
  moves_on c.args.at_once c.args.number c.args.hub.now c.advance-is_over.new.hub c.args.slot.now _ c.advance-is_over.new.self.talk c.requires c.in-Some.is c.advance-is_over.ensures.moves,
  refl,
)
