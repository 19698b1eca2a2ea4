use Rattle.std.proofs.Common.{◌≡◌, ◌≤◌, ◌-◌}
use Rattle.gql_numbers.specs.Decimals.{value}
use Rattle.gql_numbers.specs.Doubles as spec
use Rattle.gql_numbers.proofs.shortest.shortest.Given as goal

abbrev pub invariant-more : goal.invariant-more
invariant-more l = record {
  low : 1 ≤ l.count;
  high : l.count ≤ 17;
  text : l.text.items ≡ spec.text_with l.negative (value l.digits) l.count;
  rest : spec.fewest l.x l.negative (value l.digits)
      ≡ spec.first_read (17 - l.count) (spec.reads_as l.x (spec.text_with l.negative (value l.digits) l.count)) l.x l.negative (value l.digits) l.count;
}

abbrev pub decreases-more : goal.decreases-more
decreases-more l = 17 - l.count
