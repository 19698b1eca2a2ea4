use Rattle.std.proofs.Common.{None, rules, ◌∙◌}
use Rattle.gql_facts.proofs.Entering.{scanned_field, scanned_inline, of_field, of_inline, of_spread, scanned_more}
use Rattle.gql_facts.proofs.Scanning.{kept_scan}
use Rattle.gql_reads.proofs.scan.+scan.Goals as goal

pub scan_field-returns-clause-asked : goal.scan_field-returns-clause-asked
scan_field-returns-clause-asked g t c =
    let F = g.W.World.facts c.args.world.now in
    (scanned_field F c.args.parent.now c.args.field.now c.as_slice.ensures c.as_slice-2.ensures
    (c.in_ok-note_directives.ensures.facts ∙ c.in_ok-below.ensures.facts) c.in_ok-below.ensures.parent (kept_scan F None c.in_ok-below.ensures.asked) c.in_ok-note_directives.ensures.asked
    (kept_scan _ None c.in_ok-scan_set.ensures.asked)).keys

pub scan_inline-returns-clause-asked : goal.scan_inline-returns-clause-asked
scan_inline-returns-clause-asked g t c =
    let F = g.W.World.facts c.args.world.now in
    (scanned_inline F c.args.parent.now c.args.inline.now c.as_slice.ensures c.as_slice-2.ensures
    (c.in_ok-note_directives.ensures.facts ∙ c.in_ok-within.ensures.facts) c.in_ok-within.ensures.parent (kept_scan F None c.in_ok-within.ensures.asked) c.in_ok-note_directives.ensures.asked
    (kept_scan _ None c.in_ok-scan_set.ensures.asked)).keys

pub scan_selection-returns-in_ok-scan_field-in-Field-clause-asked : goal.scan_selection-returns-in_ok-scan_field-in-Field-clause-asked
scan_selection-returns-in_ok-scan_field-in-Field-clause-asked g t c =
    let F = g.W.World.facts c.args.world.now in
    (of_field F c.args.parent.now c.args.selection.now c.in-Field.field _ _ None None c.in-Field.is (kept_scan F None c.in_ok-scan_field-in-Field.ensures.asked)).keys

pub scan_selection-returns-in_ok-note_spread-in-Spread-clause-asked : goal.scan_selection-returns-in_ok-note_spread-in-Spread-clause-asked
scan_selection-returns-in_ok-note_spread-in-Spread-clause-asked g t c =
    (of_spread (g.W.World.facts c.args.world.now) c.args.parent.now c.args.selection.now c.in-Spread.spread _ _ None c.in-Spread.is c.in_ok-note_spread-in-Spread.ensures.asked).keys

pub scan_selection-returns-in_ok-scan_inline-in-InlineFragment-clause-asked : goal.scan_selection-returns-in_ok-scan_inline-in-InlineFragment-clause-asked
scan_selection-returns-in_ok-scan_inline-in-InlineFragment-clause-asked g t c =
    let F = g.W.World.facts c.args.world.now in
    (of_inline F c.args.parent.now c.args.selection.now c.in-InlineFragment.inline _ _ None None c.in-InlineFragment.is (kept_scan F None c.in_ok-scan_inline-in-InlineFragment.ensures.asked)).keys

pub scan_set-loop-selection-preserved : goal.scan_set-loop-selection-preserved
scan_set-loop-selection-preserved g t c =
    let F = g.W.World.facts c.args.world.now in
    record {
      same_facts = c.in_ok-scan_selection.ensures.facts ∙ c.loop-selection.invariant.same_facts;
      same_names = c.in_ok-scan_selection.ensures.names ∙ c.loop-selection.invariant.same_names;
      same_lent = c.in_ok-scan_selection.ensures.lent ∙ c.loop-selection.invariant.same_lent;
      right = search rules;
      asked = (scanned_more F _ c.args.parent.now c.args.set.now c.loop-selection.selection-index c.selection-item.result _ _ _ None None None
          (search rules) (search rules) c.loop-selection.invariant.same_facts (kept_scan F None c.loop-selection.invariant.asked) (kept_scan _ None c.in_ok-scan_selection.ensures.asked)).keys;
    }
