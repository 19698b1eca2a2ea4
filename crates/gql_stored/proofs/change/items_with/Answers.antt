use Rattle.std.proofs.Common.{arith, subst, sym}
use Rattle.serde_json.specs.declared.value.Value.{Array}
use Rattle.gql_stored.specs.Changes.{IsReady, IsChanged}
use Rattle.gql_stored.specs.declared.change.Change.{Change}
use Rattle.gql_stored.proofs.Changing.{moved, added, room_in-Array}
use Rattle.gql_stored.proofs.change.items_with.Goals as goal

pub within-requires : goal.within-requires
within-requires c = subst (λ (d : Change). IsReady d (Array c.args.items)) c.in-Move.is c.requires

pub with_end-requires : goal.with_end-requires
with_end-requires c =
    let ready = subst (λ (d : Change). IsReady d (Array c.args.items)) c.in-Add.is c.requires in
    let fits = room_in-Array 1 c.args.items ready in
    omega (arith, fits)

pub returns-in-Move : goal.returns-in-Move
returns-in-Move c = subst (λ (d : Change). IsChanged d (Array c.args.items) (Array c.within.result)) (sym c.in-Move.is)
    (moved c.in-Move.buffer c.args.items c.within.result c.within.ensures.items c.within.ensures.len c.within.ensures.own c.within.ensures.other)

pub returns-in-Add : goal.returns-in-Add
returns-in-Add c = subst (λ (d : Change). IsChanged d (Array c.args.items) (Array c.with_end.result)) (sym c.in-Add.is)
    (added c.in-Add.value c.args.items c.with_end.result c.with_end.ensures.items c.with_end.ensures.len c.with_end.ensures.capacity)
