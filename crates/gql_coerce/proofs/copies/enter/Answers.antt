use Rattle.std.proofs.Common.{sym, ap, ◌∙◌}
use Rattle.serde_json.specs.Data.{object, no_members}
use Rattle.serde_json.specs.View.{view, members_view}
use Rattle.serde_json.proofs.Views.{view-Object}
use Rattle.gql_coerce.specs.Copies.{put_each}
use Rattle.gql_coerce.proofs.Copying.{put_all_members}
use Rattle.gql_coerce.proofs.copies.enter.Goals as goal

pub returns-in-Object : goal.returns-in-Object
returns-in-Object c = ap view c.in-Object.is ∙ view-Object c.in-Object.members
    ∙ ap object (sym (put_all_members c.in-Object.members.entries c.iter.ensures.ordered))
    ∙ ap (λ es. object (put_each es no_members)) (sym c.iter.ensures.rest)
    ∙ ap (λ ms. object (put_each c.iter.result (members_view ms))) (sym c.new-in-Object.ensures) ∙ c.next_member.ensures
