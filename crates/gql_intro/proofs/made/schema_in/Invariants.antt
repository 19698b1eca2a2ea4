use Rattle.std.proofs.Common.{◌≡◌, drop}
use Rattle.gql_intro.specs.Made.{schema_in}
use Rattle.gql_intro.proofs.made.schema_in.Given as goal

abbrev pub invariant-loop-definition : goal.invariant-loop-definition
invariant-loop-definition l = schema_in l.definitions ≡ schema_in (drop l.definition-index l.definitions)
