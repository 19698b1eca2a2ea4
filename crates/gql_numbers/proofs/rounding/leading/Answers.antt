use Rattle.std.proofs.Common.{◌≡◌, ◌+◌, ◌*◌, ◌^◌, arith, ap, ◌∙◌, sym, length, take}
use Rattle.gql_numbers.specs.Decimals.{value}
use Rattle.gql_numbers.specs.Doubles.{rounded_by}
use Rattle.gql_numbers.proofs.OfRounding.{slice_leading, slice_small}
use Rattle.gql_numbers.proofs.rounding.leading.Goals as goal

pub overflow_add-result : goal.overflow_add-result
overflow_add-result c = record {
  fits = omega (
    arith,
    c.number_of-number.ensures,
    slice_small c.args.digits.now c.args.count c.saturating_sub-cut.result c.requires.digits.below c.requires.count c.saturating_sub-cut.ensures,
  );
}

pub returns-then-rounds_up : goal.returns-then-rounds_up
returns-then-rounds_up c = c.if-rounds_up.ensures
    ∙ ap (λ q. rounded_by q (2 * value (take c.saturating_sub-cut.result c.args.digits.now)) (10 ^ length (take c.saturating_sub-cut.result c.args.digits.now))) c.number_of-number.ensures
    ∙ slice_leading c.args.digits.now c.args.count c.saturating_sub-cut.result c.requires.digits.below c.requires.digits.highest c.saturating_sub-cut.ensures

pub returns-else-rounds_up : goal.returns-else-rounds_up
returns-else-rounds_up c = omega arith ∙ c.if-rounds_up.ensures
    ∙ ap (λ q. rounded_by q (2 * value (take c.saturating_sub-cut.result c.args.digits.now)) (10 ^ length (take c.saturating_sub-cut.result c.args.digits.now))) c.number_of-number.ensures
    ∙ slice_leading c.args.digits.now c.args.count c.saturating_sub-cut.result c.requires.digits.below c.requires.digits.highest c.saturating_sub-cut.ensures
