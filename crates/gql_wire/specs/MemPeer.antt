-- A peer in memory: what it records, and which of its calls fail.
use Rattle.std.specs.Prelude.{ℕ, ◌-◌, ◌==◌, if◌then◌else◌, Option, Some, None}
use Rattle.gql_wire.specs.Peer.{Passage, received, sent}
use Rattle.gql_wire.specs.declared.mem_peer.Passed.{Passed}
use Rattle.gql_wire.specs.declared.mem_peer.Passed.TheVariants as code

-- a passage of the code, as contracts see it
abbrev pub passage : Passed → Passage
passage (code.Received bytes) = received bytes.items
passage (code.Sent bytes) = sent bytes.items

-- how many calls succeed before one fails, after one more call; after a failed call, no call fails
abbrev pub next_failing : Option ℕ → Option ℕ
next_failing None = None
next_failing (Some n) = if n == 0 then None else Some (n - 1)
