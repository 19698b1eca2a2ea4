use Rattle.gql_folder_usage.proofs.Cutting.{IsLeft}
use Rattle.gql_schema_rules.proofs.FirstChecks.{AreFirst}
use Rattle.gql_folder_usage.proofs.brought.schema_left.Given as goal

abbrev pub invariant-loop-name : goal.invariant-loop-name
invariant-loop-name l = AreFirst (IsLeft l.subject) l.files l.name-iterator l.left
