use Rattle.std.proofs.Common.{◌≡◌, ◌<◌, arith, length}
use Rattle.gql_server.proofs.Noting.{all_noted, all_same, none_noted, noted_more, same_after, within}
use Rattle.gql_server.proofs.Rooming.{seat_count}
use Rattle.gql_server.proofs.together.note.Goals as goal

pub loop-number-init : goal.loop-number-init
loop-number-init g c =
    (none_noted c.args.report.now c.args.seats.now, all_same c.args.seats.now, c.told-seats)

pub loop-number-preserved : goal.loop-number-preserved
loop-number-preserved g c =
    let loop = c.loop-number in let same = loop.invariant in
    let fits : loop.number < length c.args.report.now.sockets = omega arith in (
      noted_more loop.number c.args.report.now _ c.args.seats.now loop.seats c.index-seats-number.result c.note_seat.new.slot
          (within loop.number (length loop.seats) c.loop-number-test.true same.2) fits same.0 same.1 c.note_seat.ensures,
      same_after loop.number c.args.seats.now loop.seats c.note_seat.new.slot same.1,
      seat_count loop.number loop.seats c.note_seat.new.slot same.2,
    )

pub returns-clause-noted : goal.returns-clause-noted
returns-clause-noted g c =
    let size : length c.args.report.now.sockets ≡ c.loop-number.number = omega arith in
    all_noted c.args.report.now c.args.seats.now c.loop-number.seats c.loop-number.number size c.loop-number.invariant.0 c.loop-number.invariant.1
