use Rattle.std.proofs.Common.{ap, option_map}
use Rattle.serde_json.specs.View.{view}
use Rattle.gql_coerce.specs.Coercion.{are}
use Rattle.gql_coerce.specs.Scopes.{values_in}
use Rattle.gql_coerce.proofs.literal_entries.entries_of_any.Goals as goal

pub returns : goal.returns
returns c = ap are (c.in_ok-found.ensures (values_in (option_map (λ v. view v.now) c.args.variables)))
