use Rattle.std.proofs.Common.{rules, ◌++◌, ◌∙◌}
use Rattle.gql_facts.specs.Nodes.{parent_below, parent_within}
use Rattle.gql_facts.specs.OwnReads.{condition_reads, directive_reads, field_reads, set_scan}
use Rattle.gql_facts.proofs.Entering.{scanned_field, scanned_inline, of_field, of_inline, of_spread, scanned_more}
use Rattle.gql_facts.proofs.Failing.{on_error, records_left, field_scan_failed, inline_scan_failed, of_field_failed, of_inline_failed, set_in_part}
use Rattle.gql_facts.proofs.scan.+scan.Goals as goal

pub scan_field-returns-clause-scanned : goal.scan_field-returns-clause-scanned
scan_field-returns-clause-scanned g t c = scanned_field (g.W.World.facts c.args.world.now) c.args.parent.now c.args.field.now c.as_slice.ensures c.as_slice-2.ensures
    c.in_ok-below.ensures.facts c.in_ok-below.ensures.parent c.in_ok-below.ensures.scanned c.in_ok-keep_directives.ensures c.in_ok-scan_set.ensures.scanned

pub scan_inline-returns-clause-scanned : goal.scan_inline-returns-clause-scanned
scan_inline-returns-clause-scanned g t c = scanned_inline (g.W.World.facts c.args.world.now) c.args.parent.now c.args.inline.now c.as_slice.ensures c.as_slice-2.ensures
    c.in_ok-within.ensures.facts c.in_ok-within.ensures.parent c.in_ok-within.ensures.scanned c.in_ok-keep_directives.ensures c.in_ok-scan_set.ensures.scanned

pub scan_selection-returns-in_ok-scan_field-in-Field-clause-scanned :
    goal.scan_selection-returns-in_ok-scan_field-in-Field-clause-scanned
scan_selection-returns-in_ok-scan_field-in-Field-clause-scanned g t c =
    of_field (g.W.World.facts c.args.world.now) c.args.parent.now c.args.selection.now c.in-Field.field _ _ _ _ c.in-Field.is c.in_ok-scan_field-in-Field.ensures.scanned

pub scan_selection-returns-in_ok-keep_spread-in-Spread-clause-scanned :
    goal.scan_selection-returns-in_ok-keep_spread-in-Spread-clause-scanned
scan_selection-returns-in_ok-keep_spread-in-Spread-clause-scanned g t c =
    of_spread (g.W.World.facts c.args.world.now) c.args.parent.now c.args.selection.now c.in-Spread.spread _ _ _ c.in-Spread.is c.in_ok-keep_spread-in-Spread.ensures

pub scan_selection-returns-in_ok-scan_inline-in-InlineFragment-clause-scanned :
    goal.scan_selection-returns-in_ok-scan_inline-in-InlineFragment-clause-scanned
scan_selection-returns-in_ok-scan_inline-in-InlineFragment-clause-scanned g t c =
    of_inline (g.W.World.facts c.args.world.now) c.args.parent.now c.args.selection.now c.in-InlineFragment.inline _ _ _ _ c.in-InlineFragment.is c.in_ok-scan_inline-in-InlineFragment.ensures.scanned

pub scan_set-loop-selection-preserved : goal.scan_set-loop-selection-preserved
scan_set-loop-selection-preserved g t c = record {
  same_facts = c.in_ok-scan_selection.ensures.facts ∙ c.loop-selection.invariant.same_facts;
  same_names = c.in_ok-scan_selection.ensures.names ∙ c.loop-selection.invariant.same_names;
  same_lent = c.in_ok-scan_selection.ensures.lent ∙ c.loop-selection.invariant.same_lent;
  scanned = scanned_more (g.W.World.facts c.args.world.now) _ c.args.parent.now c.args.set.now c.loop-selection.selection-index c.selection-item.result _ _ _ _ _ _
      (search rules) (search rules) c.loop-selection.invariant.same_facts c.loop-selection.invariant.scanned c.in_ok-scan_selection.ensures.scanned;
}

pub scan_field-returns-in_err-scan_set-clause-failed : goal.scan_field-returns-in_err-scan_set-clause-failed
scan_field-returns-in_err-scan_set-clause-failed g t c = on_error c.from_residual-in_err-scan_set.result (field_scan_failed (g.W.World.facts c.args.world.now) c.args.parent.now c.args.field.now c.as_slice-2.ensures
    c.in_ok-below.ensures.facts c.in_ok-below.ensures.parent c.in_ok-below.ensures.scanned.records c.in_err-scan_set.ensures.failed)

pub scan_inline-returns-in_err-scan_set-clause-failed : goal.scan_inline-returns-in_err-scan_set-clause-failed
scan_inline-returns-in_err-scan_set-clause-failed g t c = on_error c.from_residual-in_err-scan_set.result (inline_scan_failed (g.W.World.facts c.args.world.now) c.args.parent.now c.args.inline.now c.as_slice-2.ensures
    c.in_ok-within.ensures.facts c.in_ok-within.ensures.parent c.in_ok-within.ensures.scanned.records c.in_err-scan_set.ensures.failed)

pub scan_selection-returns-in_err-scan_field-in-Field-clause-failed : goal.scan_selection-returns-in_err-scan_field-in-Field-clause-failed
scan_selection-returns-in_err-scan_field-in-Field-clause-failed g t c = on_error c.from_residual.result
    (of_field_failed (g.W.World.facts c.args.world.now) c.args.parent.now c.args.selection.now c.in-Field.field c.in-Field.is c.in_err-scan_field-in-Field.ensures.failed)

pub scan_selection-returns-in_err-scan_inline-in-InlineFragment-clause-failed : goal.scan_selection-returns-in_err-scan_inline-in-InlineFragment-clause-failed
scan_selection-returns-in_err-scan_inline-in-InlineFragment-clause-failed g t c = on_error c.from_residual-in_err-scan_inline-in-InlineFragment.result
    (of_inline_failed (g.W.World.facts c.args.world.now) c.args.parent.now c.args.selection.now c.in-InlineFragment.inline c.in-InlineFragment.is c.in_err-scan_inline-in-InlineFragment.ensures.failed)

pub scan_set-returns-in_err-scan_selection-clause-failed : goal.scan_set-returns-in_err-scan_selection-clause-failed
scan_set-returns-in_err-scan_selection-clause-failed g t c = on_error c.from_residual.result (set_in_part (g.W.World.facts c.args.world.now) _ c.args.parent.now c.args.set.now c.loop-selection.selection-index c.selection-item.result _ _
    (search rules) (search rules) c.loop-selection.invariant.same_facts c.loop-selection.invariant.scanned c.in_err-scan_selection.ensures.failed)

pub scan_field-returns-in_err-keep_directives-clause-failed : goal.scan_field-returns-in_err-keep_directives-clause-failed
scan_field-returns-in_err-keep_directives-clause-failed g t c =
    let F = g.W.World.facts c.args.world.now in
    let p = c.args.parent.now in
    let f = c.args.field.now in
    on_error c.from_residual-in_err-keep_directives.result
    (records_left F (field_reads F p f.name.text) (directive_reads f.directives ++ set_scan F (parent_below F p f.name.text) f.selections) c.in_ok-below.ensures.scanned.records)

pub scan_inline-returns-in_err-keep_directives-clause-failed : goal.scan_inline-returns-in_err-keep_directives-clause-failed
scan_inline-returns-in_err-keep_directives-clause-failed g t c =
    let F = g.W.World.facts c.args.world.now in
    let p = c.args.parent.now in
    let i = c.args.inline.now in
    on_error c.from_residual-in_err-keep_directives.result
    (records_left F (condition_reads i.condition) (directive_reads i.directives ++ set_scan F (parent_within F p i.condition) i.selections) c.in_ok-within.ensures.scanned.records)
