-- The bucket of an operation, by its name alone.
use Rattle.std.specs.Prelude.{ℕ, ◌+◌, ◌*◌, ◌%◌, List, fold}

-- the number whose digits in base 131 are the bytes of a name
abbrev pub number_of : List ℕ → ℕ
number_of name = fold (λ number digit. number * 131 + digit) 0 name

-- that number modulo a prime, so that all bytes of a name count, modulo the number of buckets
abbrev pub bucket_of : List ℕ → ℕ
bucket_of name = number_of name % 65521 % 96
