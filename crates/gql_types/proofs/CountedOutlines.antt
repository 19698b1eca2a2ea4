-- What files before or after one define, counted file by file.
use Rattle.std.proofs.Common.{◌≡◌, ◌+◌, ℕ, List, ◌∷◌, true, false, bytes_eq, if◌then◌else◌, arith}
use Rattle.std.specs.Cmp.Lexicographic.{texts_ties}
use Rattle.gql_types.specs.Outlines.{count_types, files_past, files_until}
use Rattle.gql_types.specs.declared.outline.FileOutline.{FileOutline}

module _ (name k : List ℕ) (f : FileOutline) (left rest : List (List ℕ × FileOutline)) (count total : ℕ)
    (next : left ≡ (k, f) ∷ rest) where
  -- ---- before the file of the name

  module _ (counted : count + count_types (files_until name left) ≡ total) where
    -- at that file all are counted
    pub until_found : bytes_eq name k ≡ true → count ≡ total
    until_found is = omega (arith, rw (next, ← texts_ties name k, is) at counted)

    -- a file of another name is counted
    pub until_more : bytes_eq name k ≡ false → (count + f.types) + count_types (files_until name rest) ≡ total
    until_more other = omega (arith, rw (next, ← texts_ties name k, other) at counted)

  -- ---- after it

  -- no file up to it is counted
  pub past_passed : count + count_types (files_past name left) ≡ total
      → count + count_types (if bytes_eq name k then rest else files_past name rest) ≡ total
  past_passed counted = rw (texts_ties name k) (rw next at counted)
