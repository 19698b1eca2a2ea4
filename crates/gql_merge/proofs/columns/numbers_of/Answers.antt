use Rattle.std.proofs.Common.{arith, bytes_eq, subst, sym}
use Rattle.std.specs.HashMap as hash
use Rattle.gql_merge.specs.Numbers.{AddsText}
use Rattle.gql_merge.proofs.Places.{numbered_more}
use Rattle.std.proofs.lemmas.List.{length-take-le}
use Rattle.gql_merge.proofs.columns.numbers_of.Goals as goal

pub loop-place-preserved : goal.loop-place-preserved
loop-place-preserved c =
    let before = c.loop-place.invariant in
    let r = numbered_more c.args.texts.now c.loop-place.place c.index-texts-place.result
    (λ q. hash.get_by (λ k. bytes_eq q k.now) c.loop-place.places) (λ q. hash.get_by (λ k. bytes_eq q k.now) c.number_of.new.places)
    c.in_ok-number_of.field-0 c.loop-place.numbers.items c.push.new.self.items
    (omega (arith, c.loop-place-test.true)) (sym c.index-texts-place.is)
    (sym (length-take-le c.loop-place.place c.args.texts.now (omega (arith, c.loop-place-test.true))))
    before.places
    (subst (λ t. AddsText (λ q. hash.get_by (λ k. bytes_eq q k.now) c.loop-place.places) t c.loop-place.place (λ q. hash.get_by (λ k. bytes_eq q k.now) c.number_of.new.places) c.in_ok-number_of.field-0)
    c.as_str.ensures c.in_ok-number_of.ensures)
    before.numbers c.in_ok-push.ensures.items in
    record { places = r.0; numbers = r.1 }
