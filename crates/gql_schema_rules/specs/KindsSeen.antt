-- Helper definition for private contracts: the kinds of operations that a walk over roots has seen.
use Rattle.std.specs.Prelude.{Bool}
use Rattle.gql_ast.specs.declared.executable.OperationKind.{OperationKind}
use Rattle.gql_ast.specs.declared.executable.OperationKind.TheVariants.{Query, Mutation, Subscription}
use Rattle.gql_schema_rules.specs.declared.s34_duplicate_schemas.KindsSeen.{KindsSeen}

-- whether the walk has seen this kind
abbrev pub has : KindsSeen → OperationKind → Bool
has s Query = s.query
has s Mutation = s.mutation
has s Subscription = s.subscription
