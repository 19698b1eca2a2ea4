use Rattle.gql_schema_rules.specs.ChecksOfFiles.{IsCheckUnder}
use Rattle.gql_schema_rules.proofs.FirstChecks.{AreFirst}
use Rattle.gql_schema_rules.proofs.file_checks.checks_of.Given as goal

abbrev pub invariant-loop-name : goal.invariant-loop-name
invariant-loop-name l = AreFirst (IsCheckUnder l.schema) l.files.schema l.name-iterator l.found
