use Rattle.std.proofs.Common.{arith, sym, ◌∙◌}
use Rattle.gql_text.proofs.Texts.{escaped_are, high_range}
use Rattle.gql_text.proofs.value.numbered_character.Goals as goal

pub overflow_add-result-then-is_high_half : goal.overflow_add-result-then-is_high_half
overflow_add-result-then-is_high_half c =
    omega (arith, (escaped_are c.args.behind.now).0, high_range c.args.number (sym c.is_high_half.ensures ∙ c.if-is_high_half.true), c.saturating_sub.ensures, c.number_ahead.ensures)
