-- The number of a name, one byte after the other, modulo a prime.
use Rattle.std.proofs.Common.{◌≡◌, ◌<◌, ◌+◌, ◌*◌, ◌%◌, ◌∙◌, ℕ, List, sym, ap, length, get_or, take, arith}
use Rattle.std.proofs.lemmas.List.Sums.{fold_more}
use Rattle.gql_manifest.specs.Buckets.{number_of}

-- one more digit, modulo the prime
digit_mod : (n b : ℕ) → (n % 65521 * 131 + b) % 65521 ≡ (n * 131 + b) % 65521
digit_mod n b = omega arith

-- the number of one more byte
pub number_more : (name : List ℕ) (i : ℕ) (old : ℕ) → i < length name → old ≡ number_of (take i name) % 65521
    → (old * 131 + get_or name i 0) % 65521 ≡ number_of (take (i + 1) name) % 65521
number_more name i old within is =
    ap (λ n. (n * 131 + get_or name i 0) % 65521) is
    ∙ digit_mod (number_of (take i name)) (get_or name i 0)
    ∙ ap (λ n. n % 65521) (sym (fold_more (λ number digit. number * 131 + digit) 0 name i 0 within))
