-- What a pipe does: the requests that it reads from its peer, answered on the same connection.
use Rattle.std.specs.Prelude.{ℕ, ◌≡◌, ◌≤◌, Contains, length, List, ◌∷◌, ◌++◌, Bool, true, false, Option, Some, None, Result, Ok, Err, ◌⊎◌}
use Rattle.gql_registry.specs.State.{State}
use Rattle.gql_wire.specs.Peer.{Passage, received, received_in, sent_in}
use Rattle.gql_http.specs.Connections.{Serves, Breaks}
use Rattle.gql_http.specs.Hubs.{is_unfinished}
use Rattle.gql_http.specs.declared.piping.PipeEnd.{PipeEnd}
use Rattle.gql_http.specs.declared.piping.PipeEnd.TheVariants.{Whole, Rest}
use Rattle.gql_http.specs.declared.piping.PipeFault.{PipeFault}
use Rattle.gql_http.specs.declared.piping.PipeFault.TheVariants.{ReadFailed, WriteFailed, TooManyReads, Memory}

-- how many reads a pipe makes at most
abbrev pub most_reads : ℕ
most_reads = 1048576

-- how many bytes a read of a pipe brings at most
abbrev pub most_bytes : ℕ
most_bytes = 4096

-- What a pipe did: the state of the service before and after it, what passed between it and its
-- peer, whether the peer's input was at its end then, and how the pipe ended.
pub record Exchange : Type 0 where
  pub before : State
  pub after : State
  pub passed : List Passage
  pub ended : Bool
  pub result : Result PipeEnd PipeFault

-- Each read comes when all answers are written: what was sent before it are the answers to all
-- requests of what was received before it, and none of these requests closed the connection.
abbrev pub IsPrompt : State → List Passage → Type 0
IsPrompt s passed = (front after : List Passage) (piece : List ℕ)
    → passed ≡ front ++ (received piece ∷ after)
    → (t : State) × (held : List ℕ) × Serves s (received_in front) (sent_in front) t (Some held)

-- no read brings more bytes than `most_bytes`
abbrev pub ReadsPieces : List Passage → Type 0
ReadsPieces passed =
    (piece : List ℕ) → Contains passed (received piece) → length piece ≤ most_bytes

-- all that was received is answered, and `held` is held then
abbrev pub IsAnswered : Exchange → Option (List ℕ) → Type 0
IsAnswered x held = Serves x.before (received_in x.passed) (sent_in x.passed) x.after held

-- nothing is left to read: a request closed the connection, or the input is at its end
abbrev pub IsOver : Exchange → Option (List ℕ) → Type 0
IsOver x held = (held ≡ None) ⊎ (x.ended ≡ true)

-- What had been sent at the end: all answers; if an allocation failed, the answers up to the
-- request that was being made; if a write failed, the first bytes of the answers.
abbrev pub Sends : Result PipeEnd PipeFault → Exchange → Type 0
Sends (Ok Whole) x = (held : Option (List ℕ)) × IsAnswered x held × IsOver x held
    × (is_unfinished held ≡ false)
Sends (Ok Rest) x = (held : Option (List ℕ)) × IsAnswered x held × IsOver x held
    × (is_unfinished held ≡ true)
Sends (Err ReadFailed) x = (held : Option (List ℕ)) × IsAnswered x held
Sends (Err TooManyReads) x = (held : Option (List ℕ)) × IsAnswered x held
Sends (Err Memory) x = (made : ℕ)
    × Breaks x.before (received_in x.passed) (sent_in x.passed) x.after made
Sends (Err WriteFailed) x = (out unsent : List ℕ) × (out ≡ sent_in x.passed ++ unsent)
    × (((held : Option (List ℕ)) × Serves x.before (received_in x.passed) out x.after held)
    ⊎ ((made : ℕ) × Breaks x.before (received_in x.passed) out x.after made))

-- a pipe does this
pub record IsExchange (x : Exchange) : Type 0 where
  pub prompt : IsPrompt x.before x.passed
  pub pieces : ReadsPieces x.passed
  pub sends : Sends x.result x

-- how many reads failed in a pipe that ended in this way
abbrev pub failed_reads : Result PipeEnd PipeFault → ℕ
failed_reads (Err ReadFailed) = 1
failed_reads (Err WriteFailed) = 0
failed_reads (Err TooManyReads) = 0
failed_reads (Err Memory) = 0
failed_reads (Ok end) = 0

-- how many writes failed in a pipe that ended in this way
abbrev pub failed_writes : Result PipeEnd PipeFault → ℕ
failed_writes (Err WriteFailed) = 1
failed_writes (Err ReadFailed) = 0
failed_writes (Err TooManyReads) = 0
failed_writes (Err Memory) = 0
failed_writes (Ok end) = 0
