use Rattle.std.proofs.Common.{option_map, ap, ◌∙◌}
use Rattle.serde_json.proofs.Views.{view-lookup}
use Rattle.serde_json.specs.View.{view}
use Rattle.gql_coerce.proofs.Found.{map_copied}
use Rattle.gql_coerce.proofs.coerced_object.member_in.Goals as goal

pub returns : goal.returns
returns c = map_copied view c.get.result ∙ ap (option_map view) c.get.ensures.value ∙ view-lookup c.args.name.now c.args.members.now.entries
