use Rattle.std.proofs.Common.{ap, sym, ◌∙◌}
use Rattle.serde_json.proofs.Views.{view-Object}
use Rattle.serde_json.specs.View.{view}
use Rattle.gql_coerce.proofs.coerced_object.CoercedObject.members.Goals as goal

pub returns : goal.returns
returns c = ap view (sym c.self.view_is) ∙ view-Object c.self.inside.members
