use Rattle.std.proofs.Common.{Option, Some, refl, subst, sym}
use Rattle.gql_server.proofs.Growing.{grows_join, grows_until, none_more}
use Rattle.gql_server.proofs.Rooming.{back_accepts_none, moves_free, moves_refuse, moves_replace}
use Rattle.gql_server.specs.Rooms.{Moves, taken_back, talk_in}
use Rattle.gql_server.specs.Rounds.{IsFresh}
use Rattle.gql_server.specs.Seated.{Seated}
use Rattle.gql_server.specs.Traffic.{accepts, joined, returns}
use Rattle.gql_server.specs.Turns.{Talk}
use Rattle.gql_server.proofs.together.seat.Goals as goal

pub returns-in_default-clause-moves : goal.returns-in_default-clause-moves
returns-in_default-clause-moves g c =
    let old = taken_back (talk_in c.args.slot.now) in let line = g.S.Socket.line c.args.socket in (
      joined old (returns line),
      grows_join _ _ _ old (returns line) c.leave.ensures.returned c.in_default.ensures,
      moves_free c.args.at_once c.args.number c.args.hub.now c.leave.new.hub (talk_in c.args.slot.now) c.leave.new.slot (joined (accepts line) (joined old (returns line))) c.leave.ensures.free
          (moves_refuse c.args.at_once c.args.number c.args.hub.now c.leave.new.hub (talk_in c.args.slot.now) line c.requires.number c.leave.ensures.does),
      none_more old (returns line) (back_accepts_none (talk_in c.args.slot.now)) refl,
    )

pub returns-in_default-clause-fresh : goal.returns-in_default-clause-fresh
returns-in_default-clause-fresh g c =
    subst (λ (o : Option Seated). IsFresh o) (sym c.leave.ensures.free) tt

pub returns-clause-moves : goal.returns-clause-moves
returns-clause-moves g c =
    let old = taken_back (talk_in c.args.slot.now) in let line = g.S.Socket.line c.args.socket in (
      old,
      grows_until _ _ _ old c.leave.ensures.returned c.in-Some.ensures.2,
      subst (λ (t : Talk). Moves c.args.at_once c.args.number c.args.hub.now (talk_in c.args.slot.now) (joined (accepts line) old) c.open.new.hub (Some t)) (sym c.in-Some.ensures.0)
          (moves_replace c.args.at_once c.args.number c.args.hub.now c.leave.new.hub c.open.new.hub (talk_in c.args.slot.now) line c.requires.number c.leave.ensures.does c.open.ensures),
      back_accepts_none (talk_in c.args.slot.now),
    )

pub returns-clause-fresh : goal.returns-clause-fresh
returns-clause-fresh g c = c.in-Some.ensures.1
