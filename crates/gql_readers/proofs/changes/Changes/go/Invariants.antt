use Rattle.std.proofs.Common.{◌++◌, List, take}
use Rattle.gql_readers.specs.Changes.{AreNotes, IsNew}
use Rattle.gql_readers.specs.Merged.{AreGoing}
use Rattle.gql_readers.specs.Readers.{Reader}
use Rattle.gql_readers.proofs.Coming.{answers_of}
use Rattle.gql_readers.proofs.changes.Changes.go.Given as goal

abbrev pub invariant-loop-part : goal.invariant-loop-part
invariant-loop-part l = (coming going : List Reader) → AreNotes l.fn.self coming going → IsNew l.id going
    → AreGoing l.self coming going l.id (l.reading.own.record ++ answers_of (take l.part-index l.reading.parts.items))
