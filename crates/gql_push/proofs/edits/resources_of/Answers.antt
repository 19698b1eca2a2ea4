use Rattle.std.proofs.Common.{rules, ◌≡◌, ◌++◌, [], ◌∷◌, None, Option}
use Rattle.gql_push.specs.Resources.{Entry, entry_at}
use Rattle.gql_push.proofs.Steps.{files_more, no_entry, nothing_more, one_entry}
use Rattle.gql_push.proofs.edits.resources_of.Goals as goal
use Rattle.gql_push.proofs.edits.resources_of.Goals.{in-Some+in_ok-push, in_default}

pub loop-file-preserved : goal.loop-file-preserved
loop-file-preserved c =
    let here : Option Entry = entry_at c.args.most (c.loop-file.file, c.index-files-file.result) in
    elim c.match-branch-2.branch [
      | in-Some+in_ok-push w ↦
          let items : c.match-branch-2.resources.items ≡ c.loop-file.resources.items ++ w.in-Some.resource ∷ [] = search rules in
          files_more c.args.most c.args.files.now c.loop-file.file c.index-files-file.result (w.in-Some.resource ∷ []) c.loop-file.resources.items c.match-branch-2.resources.items c.loop-file-test.true c.index-files-file.is
          (one_entry here c.in_ok-resource.field-0 w.in-Some.resource c.in_ok-resource.ensures (search rules)) c.loop-file.invariant items
      | in_default w ↦
          let items : c.match-branch-2.resources.items ≡ c.loop-file.resources.items = search rules in
          let none : c.in_ok-resource.field-0 ≡ None = search rules in
          files_more c.args.most c.args.files.now c.loop-file.file c.index-files-file.result [] c.loop-file.resources.items c.match-branch-2.resources.items c.loop-file-test.true c.index-files-file.is
          (no_entry here c.in_ok-resource.field-0 c.in_ok-resource.ensures none) c.loop-file.invariant (nothing_more c.loop-file.resources.items c.match-branch-2.resources.items items)
    ]
