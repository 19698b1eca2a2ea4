-- Helper definitions for private contracts: what becomes of bytes that are fed in parts.
use Rattle.std.specs.Prelude.{ℕ, ◌≡◌, List, [], Option, Some, None, IsSome, ◌⊎◌}
use Rattle.gql_registry.specs.State.{State}
use Rattle.gql_wire.specs.Peer.{Passage, SendsAll, SendsFront}
use Rattle.gql_http.specs.Connections.{Serves, Breaks}
use Rattle.gql_http.specs.declared.parts.Served.{Served}
use Rattle.gql_http.specs.declared.parts.Served.TheVariants.{Open, Closed, WriteFailed, Memory}

-- these bytes are held for an unfinished request
abbrev pub Holds : State → Option (List ℕ) → List ℕ → Type 0
Holds s rest held = (rest ≡ Some held) × Serves s held [] s (Some held)

-- the requests of the bytes are made and answered, all of them or those before a failed allocation
abbrev pub Made : State → List ℕ → List ℕ → State → Type 0
Made s bytes out t = ((rest : Option (List ℕ)) × Serves s bytes out t rest)
    ⊎ ((made : ℕ) × Breaks s bytes out t made)

-- how the requests of the bytes are made, and which of their answers are written
abbrev pub IsServed : Served → Option (List Passage) → Option (List Passage) → State → List ℕ
    → State → Option (List ℕ) → Type 0
IsServed Open old new s bytes t rest = (out : List ℕ) × SendsAll old new out
    × Serves s bytes out t rest × IsSome rest
IsServed Closed old new s bytes t rest = (out : List ℕ) × SendsAll old new out
    × Serves s bytes out t rest × (rest ≡ None)
IsServed WriteFailed old new s bytes t rest = (out : List ℕ) × SendsFront old new out
    × Made s bytes out t
IsServed Memory old new s bytes t rest = (out : List ℕ) × SendsAll old new out
    × ((made : ℕ) × Breaks s bytes out t made)

-- how many writes failed
abbrev pub unwritten : Served → ℕ
unwritten Open = 0
unwritten Closed = 0
unwritten WriteFailed = 1
unwritten Memory = 0
