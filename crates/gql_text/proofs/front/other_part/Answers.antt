use Rattle.std.proofs.Common.{sym, ◌∙◌}
use Rattle.gql_text.proofs.Fronts.{stands_block, stands_string, stands_plain}
use Rattle.gql_text.proofs.front.other_part.Goals as goal

pub returns-then-first-ne34 : goal.returns-then-first-ne34
returns-then-first-ne34 c = stands_plain _ _ _ _ c.requires.whole c.if-first-ne34.true c.plain.ensures

pub returns-then-is_three_quotes : goal.returns-then-is_three_quotes
returns-then-is_three_quotes c = stands_block _ _ (sym c.is_three_quotes.ensures ∙ c.if-is_three_quotes.true) c.block_part.ensures

pub returns-else-is_three_quotes : goal.returns-else-is_three_quotes
returns-else-is_three_quotes c = stands_string _ _ _ _ c.requires.whole c.if-first-ne34.false (sym c.is_three_quotes.ensures ∙ c.if-is_three_quotes.false) c.string_part.ensures
