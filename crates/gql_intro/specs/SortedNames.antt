-- Helper definitions for private contracts: names in the order of their bytes.
use Rattle.std.specs.Prelude.{◌≡◌, ℕ, List, Contains}
use Rattle.std.specs.List.Sorted.{IsStrictlySortedBy}
use Rattle.std.specs.declared.cmp.Ordering.TheVariants.{Less}
use Rattle.gql_ast.specs.FileMaps.{name_order}

-- these names are in the order of their bytes, each once
abbrev pub AreSorted : List (List ℕ) → Type 0
AreSorted names = IsStrictlySortedBy name_order names

-- each of these names is before each of the others
abbrev pub AreBefore : List (List ℕ) → List (List ℕ) → Type 0
AreBefore names others = (n q : List ℕ) → Contains names n → Contains others q
    → name_order n q ≡ Less
