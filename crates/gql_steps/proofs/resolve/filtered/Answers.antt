use Rattle.std.proofs.Common.{map, All, List, OnOk, Result, Ok, Err, subst, sym}
use Rattle.serde_json.specs.View.{members_view, view}
use Rattle.gql_steps.specs.Columns.{AreColumnsOf, IsTestOf}
use Rattle.gql_steps.specs.declared.filter.Test.{Test}
use Rattle.gql_steps.proofs.Printing.{items_are}
use Rattle.gql_steps.proofs.resolve.filtered.Goals as goal

pub taken-requires : goal.taken-requires
taken-requires c =
    let whole = view c.args.member.object.now in
    let here = items_are c.args.member.name.now whole (view c.args.member.value.now) c.args.items.now c.requires.here c.requires.list in
    subst (λ (ts : List Test). All (IsTestOf (members_view c.args.arguments.now.entries) (map view c.args.items.now)) ts) (sym c.as_slice.ensures.value)
    (c.in_ok-tests.ensures whole here (c.in_ok-note_filter.ensures whole here c.requires.right))

in_any : {T E : Type 0} (P : Type 0) (r : Result T E) → P → OnOk r P
in_any P (Ok x) p = p
in_any P (Err e) p = tt

pub returns-clause-right : goal.returns-clause-right
returns-clause-right c =
    let whole = view c.args.member.object.now in
    let here = items_are c.args.member.name.now whole (view c.args.member.value.now) c.args.items.now c.requires.here c.requires.list in
    in_any (AreColumnsOf whole c.note_filter.new.self) c.taken.result (c.in_ok-note_filter.ensures whole here c.requires.right)
