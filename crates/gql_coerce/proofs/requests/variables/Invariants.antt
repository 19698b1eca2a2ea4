use Rattle.std.proofs.Common.{◌≡◌, map, drop}
use Rattle.serde_json.specs.Data.{no_members}
use Rattle.serde_json.specs.View.{view, members_view}
use Rattle.gql_coerce.specs.Coercion.{object_of}
use Rattle.gql_coerce.specs.Comes.{Eventually}
use Rattle.gql_coerce.specs.Requests.{named_variable}
use Rattle.gql_coerce.proofs.requests.variables.Given as goal

abbrev pub invariant-loop-definition : goal.invariant-loop-definition
invariant-loop-definition l = Eventually (λ n. object_of (map (named_variable n l.schema (view l.values)) l.definitions) no_members
    ≡ object_of (map (named_variable n l.schema (view l.values)) (drop l.definition-index l.definitions)) (members_view l.members.entries))
