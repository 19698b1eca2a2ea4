-- The entries of a table.
use Rattle.std.proofs.Common.{◌≡◌, ℕ, zero, suc, ◌+◌, ◌<◌, List, [], ◌∷◌, length, get_or, ap, ◌∙◌, arith, true}
use Rattle.std.specs.Prelude.{◌==◌, IsTrue}
use Rattle.std.proofs.lemmas.Bool.{eqb-true}
use Rattle.gql_text.specs.Tables.{is_table}
use Rattle.gql_text.proofs.Cuts.{both_of}

entry_from : (f : ℕ → ℕ) (n : ℕ) (xs : List ℕ) (k : ℕ) → is_table f n xs ≡ true → k < length xs → get_or xs k 0 ≡ f (n + k)
entry_from f n [] k e h = absurd (omega arith)
entry_from f n (x ∷ xs) zero e h =
    let at : n + 0 ≡ n = omega arith in
    rw at (eqb-true x (f n) (both_of (x == f n) (is_table f (n + 1) xs) e).0)
entry_from f n (x ∷ xs) (suc k) e h =
    let at : n + suc k ≡ n + 1 + k = omega arith in
    rw at (entry_from f (n + 1) xs k (both_of (x == f n) (is_table f (n + 1) xs) e).1 (omega arith))

pub entry : (f : ℕ → ℕ) (xs : List ℕ) (k : ℕ) → IsTrue (is_table f 0 xs) → k < length xs → get_or xs k 0 ≡ f k
entry f xs k e h = let at : 0 + k ≡ k = omega arith in entry_from f 0 xs k e h ∙ ap f at
