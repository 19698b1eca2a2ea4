-- V11, Fragment Name Uniqueness: two fragments have the same name (GraphQL 5.5.1.1).
-- Reported at each name, about the name.
use Rattle.std.specs.Prelude.{List}
use Rattle.gql_ast.specs.declared.definition.Definition.{Definition}
use Rattle.gql_ast.specs.declared.fault.Fault.{Fault}
use Rattle.gql_ast.specs.declared.rule.Rule.TheVariants as rule
use Rattle.gql_verdict.specs.Definitions.{fragment_name}
use Rattle.gql_verdict.specs.Naming.{named_by, repeated_faults}

-- the faults of all definitions
abbrev pub faults : List Definition → List Fault
faults ds = repeated_faults rule.V11 (named_by fragment_name ds)
