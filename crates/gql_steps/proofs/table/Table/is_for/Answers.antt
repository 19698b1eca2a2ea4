use Rattle.std.proofs.Common.{arith, sym, ◌∙◌}
use Rattle.std.proofs.lemmas.Slice.Eq.{bytes_eq-Decides}
use Rattle.gql_steps.proofs.Entries.{is_for_here}
use Rattle.gql_steps.proofs.table.Table.is_for.Goals as goal

pub returns : goal.returns
returns c = λ h. is_for_here c.args.self.now.entries.items c.args.number c.index-entry.result.now c.args.of_type.now
    (omega (arith, c.if-number-len.false, c.len.ensures)) c.index-entry.ensures
    (sym c.as_str.ensures ∙ (bytes_eq-Decides c.as_str.result.now c.args.of_type.now).0 (sym c.eq.ensures ∙ h))
