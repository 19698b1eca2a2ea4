use Rattle.std.proofs.Common.{ap, sym, ◌∙◌}
use Rattle.serde_json.proofs.Views.{view-Object}
use Rattle.serde_json.specs.Find.{get}
use Rattle.serde_json.specs.View.{view}
use Rattle.gql_coerce.proofs.coerced_object.CoercedObject.shared.Goals as goal

pub returns : goal.returns
returns c = c.member_in.ensures ∙ ap (get c.args.name.now) (sym (ap view (sym c.self.view_is) ∙ view-Object c.self.inside.members))
