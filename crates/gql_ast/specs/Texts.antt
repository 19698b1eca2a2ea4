-- Helper definitions for private contracts: the bytes of a text that a tree owns.
use Rattle.std.specs.Prelude.{ℕ, List, [], ◌∷◌}

-- the bytes of a text: those of the longer form, unless it is empty
abbrev pub whole : List ℕ → List ℕ → List ℕ
whole short [] = short
whole short (b ∷ bytes) = b ∷ bytes
