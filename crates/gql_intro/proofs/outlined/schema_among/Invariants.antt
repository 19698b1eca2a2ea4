use Rattle.std.proofs.Common.{◌≡◌, drop}
use Rattle.gql_intro.specs.Outlined.{schema_among}
use Rattle.gql_intro.proofs.outlined.schema_among.Given as goal

abbrev pub invariant-loop-definition : goal.invariant-loop-definition
invariant-loop-definition l = schema_among l.definitions ≡ schema_among (drop l.definition-index l.definitions)
