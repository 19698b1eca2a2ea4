use Rattle.gql_check.specs.Faults.{AreRefused}
use Rattle.gql_registry.specs.Changes.{edit_of}
use Rattle.gql_check.proofs.refusals.refused_files.Given as goal

abbrev pub invariant-loop-at : goal.invariant-loop-at
invariant-loop-at l = AreRefused l.profile (edit_of l.puts.puts.items) l.puts.indices.items l.at l.refused.items
