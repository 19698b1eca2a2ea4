-- The law of texts and doubles. `src/laws.rt` has the function.
use Rattle.std.specs.Prelude.{◌≡◌, ◌≤◌, ℕ, Bool, true, Float}
use Rattle.gql_numbers.specs.Doubles.{fewest, reads_as, text_with}

-- If the text of N / 10 ^ 1074 with n digits, from 1 to 17, is read as x, then the text that is
-- written for x is read as x, too, and has no more digits. (That 17 digits always are enough is known
-- of doubles, and is not proved.)
abbrev pub FewestAreRead : Type 0
FewestAreRead = (x : Float) (s : Bool) (N n : ℕ) → 1 ≤ n → n ≤ 17
    → reads_as x (text_with s N n) ≡ true
    → (k : ℕ) × (1 ≤ k) × (k ≤ n) × (fewest x s N ≡ text_with s N k)
    × (reads_as x (text_with s N k) ≡ true)
