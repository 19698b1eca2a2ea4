-- Pieces of text that are put together in files.
use Rattle.std.specs.Prelude.{ℕ, ◌≡◌, ◌<◌, ◌≤◌, ◌+◌, ◌++◌, ◌∷◌, ◌⊎◌, [], List, All, Vec, length, map}
use Rattle.std.specs.Borrow.{Bor}
use Rattle.std.specs.List.{flat_map}
use Rattle.std.specs.declared.alloc.Global.{Global}

-- a piece, which ends with a line break, and an empty line after it
abbrev pub with_empty_line : List ℕ → List ℕ
with_empty_line piece = piece ++ 10 ∷ []

-- the text of a file of these pieces: each of them with an empty line after it
abbrev pub text_of : List (List ℕ) → List ℕ
text_of = flat_map with_empty_line

-- the groups, one after the other
abbrev pub joined : List (List (List ℕ)) → List (List ℕ)
joined = flat_map (λ group. group)

-- the group has a piece, and its text is not longer than this or that of this piece alone
abbrev pub Fits : ℕ → List (List ℕ) → Type 0
Fits most group = (0 < length group) × ((length (text_of group) ≤ most) ⊎ (length group ≡ 1))

-- The texts are those of groups of pieces that fit; the groups, one after the other, are all the
-- pieces in their order.
pub record IsPacked (most : ℕ) (pieces texts : List (List ℕ)) : Type 0 where
  pub groups : List (List (List ℕ))
  pub all : joined groups ≡ pieces
  pub texts_are : texts ≡ map text_of groups
  pub fit : All (Fits most) groups

-- what the vectors have
abbrev pub texts_of : List (Vec ℕ Global) → List (List ℕ)
texts_of = map (λ (text : Vec ℕ Global). text.items)

-- what the slices have
abbrev pub pieces_of : List (Bor (List ℕ)) → List (List ℕ)
pieces_of = map (λ (piece : Bor (List ℕ)). piece.now)

-- The text that a piece is added to is the one that is begun, if it is empty or has room; or that
-- one is done, and it is an empty one.
abbrev pub IsTextFor : ℕ → List ℕ → List (Vec ℕ Global) → Vec ℕ Global → List (Vec ℕ Global)
    → Vec ℕ Global → Type 0
IsTextFor most piece texts begun new text =
    ((new ≡ texts) × (text ≡ begun)
    × ((length begun.items ≡ 0) ⊎ (length begun.items + length piece + 1 ≤ most)))
    ⊎ ((new ≡ texts ++ begun ∷ []) × (text.items ≡ []) × (0 < length begun.items))

-- the texts, one after the other
abbrev pub texts_joined : List (Bor (List ℕ)) → List ℕ
texts_joined = flat_map (λ (text : Bor (List ℕ)). text.now)
