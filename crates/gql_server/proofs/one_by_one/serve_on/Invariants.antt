use Rattle.std.proofs.Common.{◌≡◌, List, length, false}
use Rattle.gql_http.specs.Hubs.{rests_of, service_of}
use Rattle.gql_server.specs.OneByOne.{AddsKnown, ArePiped, Known}
use Rattle.gql_server.proofs.one_by_one.serve_on.Given as goal

abbrev pub invariant-loop-connection : goal.invariant-loop-connection
invariant-loop-connection g l = (rests_of l.hub ≡ rests_of l.fn.hub)
    × (g.L.Listener.is_out l.listener ≡ false)
    × ((firsts lasts : List Known)
    × AddsKnown (g.L.Listener.firsts l.fn.listener) (g.L.Listener.firsts l.listener) firsts
    × AddsKnown (g.L.Listener.lasts l.fn.listener) (g.L.Listener.lasts l.listener) lasts
    × ArePiped (service_of l.fn.hub) firsts lasts (service_of l.hub)
    × (length firsts ≡ l._connection))
