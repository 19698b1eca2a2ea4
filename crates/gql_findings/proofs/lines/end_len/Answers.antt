use Rattle.std.proofs.Common.{sym, ap, ◌∙◌}
use Rattle.gql_text.specs.Escapes.{begins_pair}
use Rattle.gql_text.proofs.Cuts.{cut_after}
use Rattle.gql_text.proofs.Lines.{one_ends, pair_ends}
use Rattle.gql_findings.proofs.lines.end_len.Goals as goal

pub returns-then-is_pair-clause-cut : goal.returns-then-is_pair-clause-cut
returns-then-is_pair-clause-cut c = cut_after c.args.text.now 2 c.utf8.text (pair_ends c.args.text.now (sym (ap begins_pair c.as_bytes.ensures.value) ∙ sym c.is_pair.ensures ∙ c.if-is_pair.true))

pub returns-else-is_pair-clause-cut : goal.returns-else-is_pair-clause-cut
returns-else-is_pair-clause-cut c = cut_after c.args.text.now 1 c.utf8.text (one_ends c.args.text.now c.requires)
