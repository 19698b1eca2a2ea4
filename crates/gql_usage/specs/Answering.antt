-- Helper definitions for private contracts: names of objects, and more of them.
use Rattle.std.specs.Prelude.{ℕ, ◌≡◌, List, ◌++◌, bytes_eq}
use Rattle.std.specs.List.{list_any}

-- the new names are the old ones and these; each of them may be there once or more often
abbrev pub HasMore : List (List ℕ) → List (List ℕ) → List (List ℕ) → Type 0
HasMore old more new =
    (n : List ℕ) → list_any (bytes_eq n) new ≡ list_any (bytes_eq n) (old ++ more)
