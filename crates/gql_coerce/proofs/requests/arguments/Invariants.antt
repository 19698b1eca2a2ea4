use Rattle.std.proofs.Common.{◌≡◌, map, drop}
use Rattle.serde_json.specs.Data.{no_members}
use Rattle.serde_json.specs.View.{members_view}
use Rattle.gql_coerce.specs.Coercion.{object_of}
use Rattle.gql_coerce.specs.Comes.{Eventually}
use Rattle.gql_coerce.specs.Requests.{named_argument}
use Rattle.gql_coerce.specs.Scopes.{variables_of}
use Rattle.gql_coerce.proofs.requests.arguments.Given as goal

abbrev pub invariant-loop-definition : goal.invariant-loop-definition
invariant-loop-definition l = Eventually (λ n. object_of (map (named_argument n l.scope.schema.now (variables_of l.scope) (map (λ g. g.argument.now) l.given)) l.definitions) no_members
    ≡ object_of (map (named_argument n l.scope.schema.now (variables_of l.scope) (map (λ g. g.argument.now) l.given)) (drop l.definition-index l.definitions)) (members_view l.members.entries))
