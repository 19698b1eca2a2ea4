use Rattle.std.proofs.Common.{rules, ◌≡◌, ◌∙◌, ◌++◌, [], ◌∷◌, true, false, refl, sym}
use Rattle.gql_push.specs.declared.edits.Edit.TheVariants as edit
use Rattle.gql_push.proofs.Steps.{nothing_more, puts_more}
use Rattle.gql_push.proofs.edits.plan.Goals as goal
use Rattle.gql_push.proofs.edits.plan.Goals.{then-is_to_put+in_ok-push, else-is_to_put}

pub loop-at-preserved : goal.loop-at-preserved
loop-at-preserved c =
    elim c.if-is_to_put.branch [
      | then-is_to_put+in_ok-push w ↦
          let items : c.if-is_to_put.edits.items ≡ c.loop-at.edits.items ++ edit.Put c.loop-at.at ∷ [] = search rules in
          puts_more c.args.all c.args.resources.now c.args.pushed.now c.loop-at.at c.index-resources-at.result true (edit.Put c.loop-at.at ∷ []) c.loop-at.edits.items c.if-is_to_put.edits.items
          c.loop-at-test.true c.index-resources-at.is (sym w.if-is_to_put.true ∙ c.is_to_put.ensures) refl c.loop-at.invariant items
      | else-is_to_put w ↦
          let items : c.if-is_to_put.edits.items ≡ c.loop-at.edits.items = search rules in
          puts_more c.args.all c.args.resources.now c.args.pushed.now c.loop-at.at c.index-resources-at.result false [] c.loop-at.edits.items c.if-is_to_put.edits.items
          c.loop-at-test.true c.index-resources-at.is (sym w.if-is_to_put.false ∙ c.is_to_put.ensures) refl c.loop-at.invariant (nothing_more c.loop-at.edits.items c.if-is_to_put.edits.items items)
    ]
