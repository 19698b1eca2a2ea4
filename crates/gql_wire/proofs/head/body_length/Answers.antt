use Rattle.std.proofs.Common.{◌∙◌, sym, ap, codes}
use Rattle.gql_wire.proofs.Fields.{length_after, field_stops, field_goes, field_skips}
use Rattle.gql_wire.proofs.head.body_length.Goals as goal
use Rattle.gql_wire.proofs.head.body_length.Goals.{then-is_same_word+in-Some, else-is_same_word}

pub returns-in_default : goal.returns-in_default
returns-in_default c =
    sym (c.loop-field.invariant ∙ field_stops c.args.head.now (codes "content-length") c.args.fields.now c.loop-field.field-index c.loop-field.earlier c.loop-field-test.true
    (rw c.of.ensures at (sym c.is_same_word.ensures ∙ c.if-is_same_word.true)) (rw c.of-then-is_same_word.ensures at (sym c.next_length.ensures ∙ c.in_default.is)))

pub loop-field-preserved : goal.loop-field-preserved
loop-field-preserved c = elim c.if-is_same_word.branch [
  | then-is_same_word+in-Some w ↦ rw w.earlier-is (c.loop-field.invariant ∙ field_goes c.args.head.now (codes "content-length") c.args.fields.now c.loop-field.field-index c.loop-field.earlier w.in-Some.length c.loop-field-test.true
      (rw c.of.ensures at (sym c.is_same_word.ensures ∙ w.if-is_same_word.true)) (rw w.of-then-is_same_word.ensures at (sym w.next_length.ensures ∙ w.in-Some.is)))
  | else-is_same_word w ↦ rw w.earlier-is (c.loop-field.invariant ∙ ap (λ vs. length_after c.loop-field.earlier vs) (field_skips c.args.head.now (codes "content-length") c.args.fields.now c.loop-field.field-index c.loop-field-test.true
      (rw c.of.ensures at (sym c.is_same_word.ensures ∙ w.if-is_same_word.false))))
]
