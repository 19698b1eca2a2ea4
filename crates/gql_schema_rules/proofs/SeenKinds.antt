-- Kinds of operations that were seen, with one more.
use Rattle.std.proofs.Common.{◌≡◌, ◌||◌, Bool, true, false, refl}
use Rattle.gql_ast.specs.declared.executable.OperationKind.{OperationKind}
use Rattle.gql_ast.specs.declared.executable.OperationKind.TheVariants.{Query, Mutation, Subscription}
use Rattle.gql_types.specs.Kinds.{same_operation}
use Rattle.gql_schema_rules.specs.KindsSeen.{has}
use Rattle.gql_schema_rules.specs.declared.s34_duplicate_schemas.KindsSeen.{KindsSeen}

or_true : (b : Bool) → true ≡ (b || true)
or_true true = refl
or_true false = refl

or_false : (b : Bool) → b ≡ (b || false)
or_false true = refl
or_false false = refl

pub with_query : (s : KindsSeen) (k : OperationKind) → has (record { query = true; mutation = s.mutation; subscription = s.subscription }) k ≡ (has s k || same_operation k Query)
unfolding same_operation
with_query s Query = or_true s.query
with_query s Mutation = or_false s.mutation
with_query s Subscription = or_false s.subscription

pub with_mutation : (s : KindsSeen) (k : OperationKind) → has (record { query = s.query; mutation = true; subscription = s.subscription }) k ≡ (has s k || same_operation k Mutation)
unfolding same_operation
with_mutation s Query = or_false s.query
with_mutation s Mutation = or_true s.mutation
with_mutation s Subscription = or_false s.subscription

pub with_subscription : (s : KindsSeen) (k : OperationKind) → has (record { query = s.query; mutation = s.mutation; subscription = true }) k ≡ (has s k || same_operation k Subscription)
unfolding same_operation
with_subscription s Query = or_false s.query
with_subscription s Mutation = or_false s.mutation
with_subscription s Subscription = or_true s.subscription
