use Rattle.std.proofs.Common.{◌++◌, ◌∙◌, ap, sym, arith}
use Rattle.gql_facts.specs.Nodes.{field, field_node}
use Rattle.gql_rules.specs.LocalFaults.{node_faults, selection_visit}
use Rattle.gql_rules.proofs.Visiting.{of_field, of_inline, of_spread, visited_more, selected_after}
use Rattle.gql_rules.proofs.visit.+visit.Goals as goal

pub visit_field-returns-clause-found : goal.visit_field-returns-clause-found
visit_field-returns-clause-found g t c =
    let F = g.W.World.facts c.args.world.now in
    selected_after F _ c.args.owner.now _ _ _ _ (node_faults F c.args.owner.now (field (field_node c.args.parent.now c.args.field.now)))
    _ _ _ c.in_ok-below.ensures.facts c.in_ok-below.ensures.below c.as_slice.ensures c.in_ok-below.ensures.found c.in_ok-visit_set.ensures.found

pub visit_selection-returns-in_ok-visit_field-in-Field-clause-found :
    goal.visit_selection-returns-in_ok-visit_field-in-Field-clause-found
visit_selection-returns-in_ok-visit_field-in-Field-clause-found g t c = c.in_ok-visit_field-in-Field.ensures.found
    ∙ ap (λ l. c.args.faults.now.items ++ l) (sym (of_field (g.W.World.facts c.args.world.now) c.args.owner.now c.args.parent.now c.args.selection.now c.in-Field.field c.in-Field.is))

pub visit_selection-returns-in_ok-check_spread-in-Spread-clause-found :
    goal.visit_selection-returns-in_ok-check_spread-in-Spread-clause-found
visit_selection-returns-in_ok-check_spread-in-Spread-clause-found g t c = c.in_ok-check_spread-in-Spread.ensures.found
    ∙ ap (λ l. c.args.faults.now.items ++ l) (sym (of_spread (g.W.World.facts c.args.world.now) c.args.owner.now c.args.parent.now c.args.selection.now c.in-Spread.spread c.in-Spread.is))

pub visit_selection-returns-in_ok-visit_inline-in-InlineFragment-clause-found :
    goal.visit_selection-returns-in_ok-visit_inline-in-InlineFragment-clause-found
visit_selection-returns-in_ok-visit_inline-in-InlineFragment-clause-found g t c = c.in_ok-visit_inline-in-InlineFragment.ensures.found
    ∙ ap (λ l. c.args.faults.now.items ++ l) (sym (of_inline (g.W.World.facts c.args.world.now) c.args.owner.now c.args.parent.now c.args.selection.now c.in-InlineFragment.inline c.in-InlineFragment.is))

pub visit_set-loop-selection-preserved : goal.visit_set-loop-selection-preserved
visit_set-loop-selection-preserved g t c =
    let F = g.W.World.facts c.args.world.now in
    let before = c.loop-selection.invariant in
    record {
      same_facts = c.in_ok-visit_selection.ensures.facts ∙ before.same_facts;
      same_names = c.in_ok-visit_selection.ensures.names ∙ before.same_names;
      same_lent = c.in_ok-visit_selection.ensures.lent ∙ before.same_lent;
      found = visited_more F c.args.owner.now c.args.parent.now c.args.set.now c.loop-selection.selection-index c.selection-item.result
          c.args.faults.now.items _ _ (omega arith) (sym c.selection-item.is) before.found
          (c.in_ok-visit_selection.ensures.found
          ∙ ap (λ f. c.loop-selection.faults.items ++ selection_visit f c.args.owner.now c.args.parent.now c.selection-item.result) before.same_facts);
    }
