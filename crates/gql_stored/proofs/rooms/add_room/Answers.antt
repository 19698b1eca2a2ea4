use Rattle.std.proofs.Common.{sym}
use Rattle.gql_stored.specs.declared.additions.Room.{Room}
use Rattle.gql_stored.proofs.Rooming.{newly_covered, still_covered}
use Rattle.gql_stored.proofs.rooms.add_room.Goals as goal

pub returns-clause-is_covered : goal.returns-clause-is_covered
returns-clause-is_covered c =
    let r : Room = record { to = c.in_ok-to.to; buffer = c.in_ok-buffer.buffer } in
    newly_covered c.args.stored.now c.args.to.now c.args.count c.args.rooms.now.items c.push.new.self.items r c.in-Some.items.now
    c.in_ok-push.ensures.items c.in_ok-to.ensures.ok (sym c.in-Some.ensures) c.in_ok-buffer.ensures.has_room

pub returns-clause-stay_covered : goal.returns-clause-stay_covered
returns-clause-stay_covered c =
    let r : Room = record { to = c.in_ok-to.to; buffer = c.in_ok-buffer.buffer } in
    λ q n. still_covered c.args.stored.now q n c.args.rooms.now.items c.push.new.self.items r c.in_ok-push.ensures.items
