use Rattle.std.proofs.Common.{Contains, take}
use Rattle.gql_readers.specs.Indexes.{Reading}
use Rattle.gql_verdict.specs.Marks.{IsSomeAsked}
use Rattle.gql_verdict.proofs.asked.is_one_asked.Given as goal

abbrev pub invariant-loop-entry : goal.invariant-loop-entry
invariant-loop-entry l = (e : Reading) → Contains (take l.entry-index l.entries) e → IsSomeAsked e l.key → ⊥
