use Rattle.std.proofs.Common.{refl}
use Rattle.gql_server.proofs.Growing.{grows_join, grows_nothing, none_more}
use Rattle.gql_server.proofs.Rooming.{place_of, runs_at, runs_join, runs_stay, seat_count}
use Rattle.gql_server.proofs.Seating.{no_turns, rest_after, turns_more}
use Rattle.gql_server.specs.Traffic.{joined, no_traffic}
use Rattle.gql_server.proofs.together.turns.Goals as goal

pub loop-number-preserved : goal.loop-number-preserved
loop-number-preserved g c =
    let loop = c.loop-number in let same = loop.invariant in let moves = c.turn_of.ensures.moves in (
      (
        joined same.0.0 moves.0,
        grows_join _ _ _ same.0.0 moves.0 same.0.1 moves.1,
        runs_join _ _ _ _ _ _ _ _ _ same.0.2
            (runs_at c.args.at_once loop.number c.from.result loop.hub c.turn_of.new.hub loop.seats c.index-seats-from.result c.turn_of.new.slot moves.0 c.requires c.loop-number-test.true c.from.ensures same.1 moves.2),
        none_more same.0.0 moves.0 same.0.3 moves.3,
      ),
      seat_count c.from.result loop.seats c.turn_of.new.slot same.1,
      turns_more loop.number c.from.result c.args.seats.now loop.seats c.index-seats-from.result c.turn_of.new.slot c.from.ensures
          (place_of c.args.at_once loop.number loop.number _ c.requires c.loop-number-test.true refl same.1) same.2 same.3 c.turn_of.ensures.turn,
      rest_after loop.number c.from.result c.args.seats.now loop.seats c.turn_of.new.slot c.from.ensures same.3,
    )

pub loop-number-init : goal.loop-number-init
loop-number-init g c = (
  (no_traffic, grows_nothing _ _ refl, runs_stay _ _ _, refl),
  c.told-seats,
  no_turns _,
  λ n above. refl,
)
