-- Worked examples of the definitions.
use Rattle.std.specs.Prelude.{◌≡◌, codes, false, true, pos, negsuc, refl, Some, None}
use Rattle.std.specs.Float.{float_is_finite}
use Rattle.std.specs.Float.Ieee.{fin, round}
use Rattle.std.specs.Float.Numeral.{scan_numeral}
use Rattle.std.specs.Float.Parse.{read_float}
use Rattle.gql_inputs.specs.Numbers.{real_of}

a_half : real_of (codes "0.5") ≡ Some (fin false 1 (negsuc 0))
unfolding round scan_numeral read_float float_is_finite
a_half = refl

-- a number that is nearer to 0 than to any other double
tiny : real_of (codes "-1e-400") ≡ Some (fin true 0 (pos 0))
unfolding round scan_numeral read_float float_is_finite
tiny = refl

-- the greatest double, and a number past the doubles
greatest : real_of (codes "1.7976931348623157e308") ≡ Some (fin false 9007199254740991 (pos 971))
unfolding round scan_numeral read_float float_is_finite
greatest = refl

past_doubles : real_of (codes "1e400") ≡ None
unfolding round scan_numeral read_float float_is_finite
past_doubles = refl
