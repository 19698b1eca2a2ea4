-- The words for kinds of operations (GraphQL 2.3).
use Rattle.std.specs.Prelude.{ℕ, List, codes}
use Rattle.gql_ast.specs.declared.executable.OperationKind.{OperationKind}
use Rattle.gql_ast.specs.declared.executable.OperationKind.TheVariants.{Query, Mutation, Subscription}

-- the word for a kind of operations
abbrev pub kind_word : OperationKind → List ℕ
kind_word Query = codes "query"
kind_word Mutation = codes "mutation"
kind_word Subscription = codes "subscription"
