use Rattle.std.proofs.Common.{◌++◌, ◌∙◌, ap, sym, arith}
use Rattle.gql_facts.specs.Nodes.{field, field_node}
use Rattle.gql_vars.specs.Misuses.{directive_misuses, node_misuses, selection_misuses}
use Rattle.gql_vars.proofs.UsageVisits.{of_field, of_inline, of_spread, visited_more, selected_after}
use Rattle.gql_vars.proofs.usage_nodes.+usages.Goals as goal

pub check_field-returns-clause-found : goal.check_field-returns-clause-found
check_field-returns-clause-found g t c =
    let F = g.W.World.facts c.args.world.now in
    selected_after F _ c.args.check.now _ _ _ _ (node_misuses F c.args.check.now (field (field_node c.args.parent.now c.args.field.now)))
    _ _ _ c.in_ok-below.ensures.facts c.in_ok-below.ensures.below c.as_slice-selected.ensures c.in_ok-below.ensures.found c.in_ok-check_set.ensures.found

pub check_selection-returns-in_ok-check_field-in-Field-clause-found :
    goal.check_selection-returns-in_ok-check_field-in-Field-clause-found
check_selection-returns-in_ok-check_field-in-Field-clause-found g t c = c.in_ok-check_field-in-Field.ensures.found
    ∙ ap (λ l. c.args.faults.now.items ++ l) (sym (of_field (g.W.World.facts c.args.world.now) c.args.check.now c.args.parent.now c.args.selection.now c.in-Field.field c.in-Field.is))

pub check_selection-returns-in_ok-check_directives-in-Spread-clause-found :
    goal.check_selection-returns-in_ok-check_directives-in-Spread-clause-found
check_selection-returns-in_ok-check_directives-in-Spread-clause-found g t c =
    let F = g.W.World.facts c.args.world.now in
    c.in_ok-check_directives-in-Spread.ensures.found
    ∙ ap (λ ds. c.args.faults.now.items ++ directive_misuses F c.args.check.now ds) c.as_slice.ensures
    ∙ ap (λ l. c.args.faults.now.items ++ l) (sym (of_spread F c.args.check.now c.args.parent.now c.args.selection.now c.in-Spread.spread c.in-Spread.is))

pub check_selection-returns-in_ok-check_inline-in-InlineFragment-clause-found :
    goal.check_selection-returns-in_ok-check_inline-in-InlineFragment-clause-found
check_selection-returns-in_ok-check_inline-in-InlineFragment-clause-found g t c = c.in_ok-check_inline-in-InlineFragment.ensures.found
    ∙ ap (λ l. c.args.faults.now.items ++ l)
    (sym (of_inline (g.W.World.facts c.args.world.now) c.args.check.now c.args.parent.now c.args.selection.now c.in-InlineFragment.inline c.in-InlineFragment.is))

pub check_set-loop-selection-preserved : goal.check_set-loop-selection-preserved
check_set-loop-selection-preserved g t c =
    let F = g.W.World.facts c.args.world.now in
    let before = c.loop-selection.invariant in
    record {
      same_facts = c.in_ok-check_selection.ensures.facts ∙ before.same_facts;
      same_names = c.in_ok-check_selection.ensures.names ∙ before.same_names;
      same_lent = c.in_ok-check_selection.ensures.lent ∙ before.same_lent;
      found = visited_more F c.args.check.now c.args.parent.now c.args.set.now c.loop-selection.selection-index c.selection-item.result
          c.args.faults.now.items _ _ (omega arith) (sym c.selection-item.is) before.found
          (c.in_ok-check_selection.ensures.found
          ∙ ap (λ f. c.loop-selection.faults.items ++ selection_misuses f c.args.check.now c.args.parent.now c.selection-item.result) before.same_facts);
    }
