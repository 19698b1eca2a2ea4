use Rattle.std.proofs.Common.{subst, Contains}
use Rattle.tables_text.proofs.clashing_fields.by_pairs.Goals as goal

pub among-requires-clause-inside : goal.among-requires-clause-inside
among-requires-clause-inside c x h =
    c.in-Ok.ensures.inside x (subst (λ l. Contains l x) c.as_slice.ensures.value h)
