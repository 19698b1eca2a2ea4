use Rattle.gql_schema_rules.specs.KeptChecks.{IsUnderAfter}
use Rattle.gql_schema_rules.proofs.FirstChecks.{AreFirst}
use Rattle.gql_schema_rules.proofs.file_checks.checks_after_edit.Given as goal

abbrev pub invariant-loop-name : goal.invariant-loop-name
invariant-loop-name l = AreFirst (IsUnderAfter l.before l.edited l.change l.schema) l.files.schema l.name-iterator l.checks
