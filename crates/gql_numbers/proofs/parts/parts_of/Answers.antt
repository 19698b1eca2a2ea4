use Rattle.std.proofs.Common.{arith, rules}
use Rattle.gql_numbers.proofs.OfParts.{not_nan, other_parts, zero_parts}
use Rattle.gql_numbers.proofs.parts.parts_of.Goals as goal

pub bits_of-bits-requires : goal.bits_of-bits-requires
bits_of-bits-requires c = not_nan c.args.x c.requires

pub returns-then-field-eq0 : goal.returns-then-field-eq0
returns-then-field-eq0 c = record {
  scaled = zero_parts c.args.x c.bits_of-bits.result c.bits_of-bits.ensures.same (search rules);
  significand = omega arith;
  shift = omega arith;
}

pub returns : goal.returns
returns c = record {
  scaled = other_parts c.args.x c.bits_of-bits.result c.requires c.bits_of-bits.ensures.same (omega (arith, c.if-field-eq0.false));
  significand = omega arith;
  shift = omega arith;
}
