use Rattle.std.proofs.Common.{refl, arith, get_or}
use Rattle.gql_server.proofs.Going.{one_more}
use Rattle.gql_server.proofs.Growing.{grows_join, grows_nothing, none_more}
use Rattle.gql_server.proofs.Rooming.{back_accepts_none, moves_free, moves_leave, place_of, runs_at, runs_join, runs_stay, seat_count}
use Rattle.gql_server.proofs.Rounding.{none_over, over_more}
use Rattle.gql_server.specs.Rooms.{taken_back, talk_in}
use Rattle.gql_server.specs.Traffic.{joined, no_traffic}
use Rattle.gql_server.proofs.together.leave_all.Goals as goal

pub loop-number-init : goal.loop-number-init
loop-number-init g c = (
  (no_traffic, grows_nothing _ _ refl, runs_stay _ _ _, refl),
  c.told-seats,
  none_over _,
  λ n less. absurd (omega (arith, less)),
)

pub loop-number-preserved : goal.loop-number-preserved
loop-number-preserved g c =
    let loop = c.loop-number in let same = loop.invariant in let left = c.leave.ensures in
    let back = taken_back (talk_in (get_or loop.seats c.from.result c.index-seats-from.result)) in (
      (
        joined same.0.0 back,
        grows_join _ _ _ same.0.0 back same.0.1 left.returned,
        runs_join _ _ _ _ _ _ _ _ _ same.0.2
            (runs_at c.args.at_once loop.number c.from.result loop.hub c.leave.new.hub loop.seats c.index-seats-from.result c.leave.new.slot back c.requires c.loop-number-test.true c.from.ensures same.1
            (moves_free _ _ _ _ _ c.leave.new.slot _ left.free (moves_leave _ _ _ _ _ c.loop-number-test.true left.does))),
        none_more same.0.0 back same.0.3 (back_accepts_none (talk_in (get_or loop.seats c.from.result c.index-seats-from.result))),
      ),
      seat_count c.from.result loop.seats c.leave.new.slot same.1,
      over_more loop.number c.from.result loop.seats c.leave.new.slot c.from.ensures
          (place_of c.args.at_once loop.number loop.number _ c.requires c.loop-number-test.true refl same.1) left.free same.2,
      one_more _ loop.hub c.leave.new.hub same.3 left.closed left.others,
    )
