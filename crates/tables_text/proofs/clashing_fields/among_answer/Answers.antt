use Rattle.std.proofs.Common.{arith, subst, Contains}
use Rattle.tables_text.proofs.clashing_fields.among_answer.Goals as goal

pub among-requires-clause-inside : goal.among-requires-clause-inside
among-requires-clause-inside c x h =
    let below = c.in_ok-pairs.ensures x (subst (λ l. Contains l x) c.as_slice.ensures.value h) in
    (omega (arith, below.0, c.len.ensures), omega (arith, below.1, c.len.ensures))
