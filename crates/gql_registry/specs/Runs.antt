-- Which operations are run (this registry's own rule). A call has one response, and a subscription
-- has a stream of them: it is not run.
use Rattle.std.specs.Prelude.{Bool, true, false}
use Rattle.gql_ast.specs.declared.executable.OperationKind.{OperationKind}
use Rattle.gql_ast.specs.declared.executable.OperationKind.TheVariants.{Query, Mutation, Subscription}

-- whether operations of this kind are run
abbrev pub is_run : OperationKind → Bool
is_run Query = true
is_run Mutation = true
is_run Subscription = false
