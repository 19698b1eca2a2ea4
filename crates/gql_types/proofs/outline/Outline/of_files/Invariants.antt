use Rattle.gql_types.proofs.FirstOutlines.{AreFirst}
use Rattle.gql_types.proofs.outline.Outline.of_files.Given as goal

abbrev pub invariant-loop-name : goal.invariant-loop-name
invariant-loop-name l = AreFirst l.files.schema l.name-iterator l.found
