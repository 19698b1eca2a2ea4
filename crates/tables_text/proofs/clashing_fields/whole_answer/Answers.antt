use Rattle.std.proofs.Common.{◌<◌, length, arith, subst, Contains}
use Rattle.tables_text.proofs.Whole.{inside}
use Rattle.tables_text.proofs.clashing_fields.whole_answer.Goals as goal

pub clashes_by_parts-requires-clause-inside : goal.clashes_by_parts-requires-clause-inside
clashes_by_parts-requires-clause-inside c u h =
    let below : c.args.body < length c.args.sets.now.bodies.items = omega (arith, c.if-body-len.false, c.len.ensures) in
    inside c.args.sets.now c.requires below (c.in-Some.ensures.sound u (subst (λ l. Contains l u) c.as_slice-in-Some.ensures.value h))
