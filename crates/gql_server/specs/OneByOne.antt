-- What a server does that serves one connection after the other.
use Rattle.std.specs.Prelude.{ℕ, ◌≡◌, ◌+◌, List, [], ◌∷◌, ◌++◌, Bool, Option, Some, None, Result}
use Rattle.gql_wire.specs.Peer.{Passage, Adds}
use Rattle.gql_registry.specs.State.{State}
use Rattle.gql_http.specs.Pipes.{IsExchange, failed_reads, failed_writes}
use Rattle.gql_http.specs.declared.piping.PipeEnd.{PipeEnd}
use Rattle.gql_http.specs.declared.piping.PipeFault.{PipeFault}

-- what is known of a peer: what passed so far, if it reports that, how many reads and writes failed,
-- and whether its input is at its end
pub record Known : Type 0 where
  pub transcript : Option (List Passage)
  pub read_failures : ℕ
  pub write_failures : ℕ
  pub ended : Bool

-- the listener reports these peers after the earlier ones, or reports none at all
abbrev pub AddsKnown : Option (List Known) → Option (List Known) → List Known → Type 0
AddsKnown None new added = new ≡ None
AddsKnown (Some old) new added = new ≡ Some (old ++ added)

-- The peer was piped, once: the requests that it sent were answered to it, up to the end of its input,
-- to a request that closes the connection, or to a fault.
pub record IsPiped (before : State) (first last : Known) (after : State) : Type 0 where
  pub passed : List Passage
  pub result : Result PipeEnd PipeFault
  pub passes : Adds first.transcript last.transcript passed
  pub exchange : IsExchange (record { before = before; after = after; passed = passed; ended = last.ended; result = result })
  pub reads : last.read_failures ≡ first.read_failures + failed_reads result
  pub writes : last.write_failures ≡ first.write_failures + failed_writes result

-- The peers were piped one after the other, each once, from the state before the first to that after
-- the last.
pub data ArePiped : State → List Known → List Known → State → Type 0 where
  no_peers : {s : State} → ArePiped s [] [] s
  next_peer : {s t u : State} {firsts lasts : List Known} {first last : Known}
      → ArePiped s firsts lasts t → IsPiped t first last u
      → ArePiped s (firsts ++ first ∷ []) (lasts ++ last ∷ []) u
