use Rattle.std.proofs.Common.{arith, refl}
use Rattle.gql_merge.proofs.NumberedFields.{numbers_more}
use Rattle.gql_merge.proofs.numbers.numbered_fields.Goals as goal

pub loop-place-preserved : goal.loop-place-preserved
loop-place-preserved c =
    numbers_more c.args.all.now c.args.all.now c.loop-place.place c.loop-place.fields.items c.push.new.self.items c.numbered_field.result
    (omega (arith, c.loop-place-test.true)) refl c.loop-place.invariant c.numbered_field.ensures c.in_ok-push.ensures.items
