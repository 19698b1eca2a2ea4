-- Worked examples of the text of a double.
use Rattle.std.specs.Prelude.{◌≡◌, codes, refl, true, false, ℤ, pos, negsuc}
use Rattle.std.specs.Float.Ieee.{fin, round, eq}
use Rattle.std.specs.Fmt.{digits}
use Rattle.fast_float.proofs.OnLiterals.{fast_float_on_literals}
use Rattle.gql_numbers.specs.Doubles.{double_text}

-- 0.1, which is 3602879701896397 / 2 ^ 55 as a double
tenth : double_text (fin false 3602879701896397 (negsuc 54)) ≡ codes "0.1"
unfolding round eq digits fast_float_on_literals
tenth = refl

-- a whole number has a digit after the point
one : double_text (fin false 1 (pos 0)) ≡ codes "1.0"
unfolding round eq digits fast_float_on_literals
one = refl

-- from 10 ^ 16 on with an exponent
large : double_text (fin false 476837158203125 (pos 21)) ≡ codes "1e+21"
unfolding round eq digits fast_float_on_literals
large = refl

-- a third, negative: 16 digits are the fewest that are read back
third : double_text (fin true 6004799503160661 (negsuc 53)) ≡ codes "-0.3333333333333333"
unfolding round eq digits fast_float_on_literals
third = refl

-- a zero keeps its sign
zero : double_text (fin true 0 (pos 0)) ≡ codes "-0.0"
zero = refl
