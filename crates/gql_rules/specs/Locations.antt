-- Where directives may be applied (GraphQL 3.13).
use Rattle.std.specs.Prelude.{Bool}
use denote.Enum.Bare.{sameb}
use Rattle.gql_ast.specs.declared.executable.OperationKind.{OperationKind}
use Rattle.gql_ast.specs.declared.executable.OperationKind.TheVariants as operation
use Rattle.gql_ast.specs.declared.type_system.DirectiveLocation.{DirectiveLocation}
use Rattle.gql_ast.specs.declared.type_system.DirectiveLocation.TheVariants as location
use Rattle.gql_ast.specs.contracts.type_system.DirectiveLocation as of_location

-- the location of an operation's directives
abbrev pub location_of : OperationKind → DirectiveLocation
location_of operation.Query = location.Query
location_of operation.Mutation = location.Mutation
location_of operation.Subscription = location.Subscription

-- whether two locations are the same
unfoldable pub same_location : DirectiveLocation → DirectiveLocation → Bool
same_location = sameb of_location.the_type
