use Rattle.std.proofs.Common.{sym, ◌∙◌}
use Rattle.tables_text.proofs.Whole as lemmas
use Rattle.tables_text.proofs.numbered_sets.whole.Goals as goal

pub returns-then-is_whole : goal.returns-then-is_whole
returns-then-is_whole c = lemmas.whole c.args.sets (sym c.is_whole.ensures ∙ c.if-is_whole.true)
