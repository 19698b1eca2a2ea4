-- Helper definitions for private contracts: a table with an entry for each byte.
use Rattle.std.specs.Prelude.{ℕ, ◌+◌, List, [], ◌∷◌, Bool, true, ◌==◌, ◌&&◌, if◌then◌else◌}
use Rattle.std.specs.Char.{is_ascii_digit}
use Rattle.gql_text.specs.Chars.{is_name_start}

-- 2 if a name starts with the byte, 1 if it only continues a name, else 0
abbrev pub name_class : ℕ → ℕ
name_class b = if is_name_start b then 2 else if is_ascii_digit b then 1 else 0

-- whether the entries are what the function gives, from n on
abbrev pub is_table : (ℕ → ℕ) → ℕ → List ℕ → Bool
is_table f n [] = true
is_table f n (x ∷ xs) = x == f n && is_table f (n + 1) xs
