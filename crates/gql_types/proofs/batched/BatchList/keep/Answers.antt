use Rattle.gql_types.proofs.Filling.{filled_with_kept}
use Rattle.gql_types.proofs.batched.BatchList.keep.Goals as goal

pub returns : goal.returns
returns g c = filled_with_kept c.self.inside.made.items c.self.inside.slots.items
    c.push.new.self.items c.args.value.now c.in_ok-clone.field-0 c.args.self.now c.self.view_is
    c.in_ok-clone.ensures.cases c.in_ok-push.ensures.items
