use Rattle.std.proofs.Common.{ap, ◌∙◌}
use Rattle.serde_json.specs.Data.{no_members}
use Rattle.serde_json.specs.View.{members_view}
use Rattle.gql_coerce.specs.Copies.{put_each}
use Rattle.gql_coerce.proofs.Copying.{put_all_members}
use Rattle.gql_coerce.proofs.coerced_object.copies_of.Goals as goal

pub loop-name-init : goal.loop-name-init
loop-name-init c = ap (λ ms. put_each c.into_iter-name-iterator.result (members_view ms)) c.new-copies.ensures
    ∙ ap (λ es. put_each es no_members) (c.into_iter-name-iterator.ensures.into_iter_gives ∙ c.iter-name-items.ensures.rest)
    ∙ put_all_members c.args.members.now.entries c.iter-name-items.ensures.ordered
