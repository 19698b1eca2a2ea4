use Rattle.std.proofs.Common.{◌∙◌, option_map, sym, ap}
use Rattle.serde_json.specs.View.{members_view, view}
use Rattle.gql_registry.specs.Changes.{change_of, edit_of}
use Rattle.gql_http.specs.Batches.{file_changes, named_change}
use Rattle.gql_http.proofs.BatchLists.{after, change_more}
use Rattle.gql_http.proofs.batch.add_changes.Goals as goal

pub loop-name-preserved : goal.loop-name-preserved
loop-name-preserved c =
    let named = ap (λ name. named_change c.args.most c.args.side name (view c.in-Some.value.now)) (sym c.as_str.ensures.value) ∙ sym c.in_ok-change.ensures ∙ ap (option_map change_of) c.in-Some-2.is in
    let all = after (edit_of c.args.edit.now.items) (file_changes c.args.most c.args.side (members_view c.args.files.now.entries)) in
    change_more c.args.most c.args.side c.loop-name.name-iterator c.next.new.self c.in-Some.name.now c.in-Some.value.now c.loop-name.edit.items c.add.new.edit.items c.in-Some-2.change all
    c.in-Some.ensures.steps named c.in_ok-add.ensures c.loop-name.invariant
