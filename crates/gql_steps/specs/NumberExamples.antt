-- Worked examples of numbers that are the same.
use Rattle.std.specs.Prelude.{◌≡◌, true, false, pos, negsuc, refl}
use Rattle.std.specs.Float.Ieee.{fin, eq, of_int}
use Rattle.serde_json.specs.Data as json
use Rattle.gql_steps.specs.Resolution.{same_number}

-- 1 and 1.0
whole : same_number (json.unsigned 1) (json.float (fin false 1 (pos 0))) ≡ true
unfolding eq of_int
whole = refl

-- 0 and -0.0
zeros : same_number (json.unsigned 0) (json.float (fin true 0 (pos 0))) ≡ true
unfolding eq of_int
zeros = refl

-- 1 and 0.5 are not
half : same_number (json.unsigned 1) (json.float (fin false 1 (negsuc 0))) ≡ false
unfolding eq of_int
half = refl
