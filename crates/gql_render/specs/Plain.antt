-- A check as a compiler prints it: in which order things are said.
use Rattle.std.specs.Prelude.{ℕ, ◌≡◌, List, [], ◌∷◌, ◌++◌, codes}
use Rattle.gql_render.specs.Phrases.{first_words, counts_text}
use Rattle.gql_render.specs.declared.check.Check.{Check}

-- a text in a line of its own; nothing for an empty one
abbrev pub line_of : List ℕ → List ℕ
line_of [] = []
line_of (b ∷ bs) = (b ∷ bs) ++ codes "\n"

-- a check: what is said first, the faults, their counts, and the rest
unfoldable pub plain_text : Check → List ℕ → List ℕ → List ℕ
plain_text check faults rest = line_of (first_words check) ++ faults ++ counts_text check
    ++ codes "\n" ++ rest

-- The text begins with what is said first, and its counts are those of the check.
pub record IsPlain (check : Check) (text : List ℕ) : Type 0 where
  pub faults : List ℕ
  pub rest : List ℕ
  pub parts : text ≡ plain_text check faults rest
