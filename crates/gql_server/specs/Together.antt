-- What a server does with many connections at one time.
use Rattle.std.specs.Prelude.{ℕ, ◌≡◌, ◌<◌, List, [], ◌∷◌, None}
use Rattle.gql_http.specs.Events.{Event, Behaves, connection_of}
use Rattle.gql_http.specs.Hubs.{rests_of, service_of}
use Rattle.gql_http.specs.declared.hub.Hub.{Hub}

-- each event is on a connection with a number below the bound
abbrev pub AreBelow : ℕ → List Event → Type 0
AreBelow bound [] = Unit {0}
AreBelow bound (e ∷ events) = (connection_of e < bound) × AreBelow bound events

-- The hub did what some events make it do, one after the other, each on a connection with a number
-- below the bound.
pub record Goes (bound : ℕ) (before after : Hub) : Type 0 where
  pub events : List Event
  pub outs : List (List ℕ)
  pub behaves : Behaves (service_of before) (rests_of before) events outs
      (service_of after) (rests_of after)
  pub below : AreBelow bound events

-- the connections with numbers below the bound are closed
abbrev pub AreClosed : ℕ → Hub → Type 0
AreClosed bound hub = (c : ℕ) → c < bound → rests_of hub c ≡ None
