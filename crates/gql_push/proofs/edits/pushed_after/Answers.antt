use Rattle.std.proofs.Common.{rules, ◌≡◌, ◌++◌, List, Option, [], ◌∷◌, ap}
use Rattle.std.specs.List.{cons_option}
use Rattle.gql_push.specs.Plans.{changes_of, kept}
use Rattle.gql_push.specs.Resources.{Entry, entry_of, entries_of}
use Rattle.gql_push.proofs.Steps.{no_entry_more, put_more}
use Rattle.gql_push.proofs.edits.pushed_after.Goals as goal
use Rattle.gql_push.proofs.edits.pushed_after.Goals.{in-Some+in_ok-add_copy-2, in_default}

pub loop-edit-preserved : goal.loop-edit-preserved
loop-edit-preserved c =
    let rs : List Entry = entries_of c.args.resources.now in
    let front : List Entry = kept rs (entries_of c.args.pushed.now) (changes_of c.args.made.now) in
    elim c.match-resource.branch [
      | in-Some+in_ok-add_copy-2 w ↦
          let entries : entries_of c.match-resource.after.items ≡ entries_of c.loop-edit.after.items ++ entry_of w.in-Some.resource.now ∷ [] = search rules in
          put_more rs c.args.made.now c.loop-edit.edit-index c.edit-item.result front (entry_of w.in-Some.resource.now ∷ []) c.loop-edit.after.items c.match-resource.after.items
          c.loop-edit-test.true c.edit-item.is (ap (λ (o : Option Entry). cons_option o []) w.in-Some.ensures) c.loop-edit.invariant entries
      | in_default w ↦
          let items : c.match-resource.after.items ≡ c.loop-edit.after.items = search rules in
          put_more rs c.args.made.now c.loop-edit.edit-index c.edit-item.result front [] c.loop-edit.after.items c.match-resource.after.items
          c.loop-edit-test.true c.edit-item.is (ap (λ (o : Option Entry). cons_option o []) w.in_default.ensures) c.loop-edit.invariant (no_entry_more c.loop-edit.after.items c.match-resource.after.items items)
    ]
