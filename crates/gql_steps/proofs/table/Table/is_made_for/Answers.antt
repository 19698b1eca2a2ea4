use Rattle.std.proofs.Common.{◌≡◌, ap, arith, rules, sym, ◌∙◌}
use Rattle.gql_collect.specs.Borrowed.{all_selections}
use Rattle.gql_steps.proofs.Entries.{is_made_here}
use Rattle.gql_steps.proofs.table.Table.is_made_for.Goals as goal

pub returns : goal.returns
returns c = λ h.
    let same : c.as_str.result.now ≡ c.args.of_type.now = search rules in
    is_made_here c.args.self.now.entries.items c.args.number c.index-entry.result.now c.args.of_type.now (all_selections c.args.sets.now)
    (omega (arith, c.if-number-len.false, c.len.ensures)) c.index-entry.ensures
    (sym c.as_str.ensures ∙ same)
    (ap all_selections (sym c.as_slice.ensures.value) ∙ c.are_equal_sets.ensures h)
