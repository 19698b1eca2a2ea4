-- A check as a summary for a pull request: which entries it has, and in which order.
use Rattle.std.specs.Prelude.{ℕ, ◌≡◌, List, [], ◌∷◌, ◌++◌, map, codes, Option, Some, None}
use Rattle.std.specs.List.{flat_map}
use Rattle.gql_render.specs.Phrases.{first_words, counts_text}
use Rattle.gql_render.specs.Shown.{shown, broken}
use Rattle.gql_render.specs.declared.check.Against.{Against}
use Rattle.gql_render.specs.declared.check.Check.{Check}
use Rattle.gql_page.specs.Cut.{IsCut}
use Rattle.gql_page.specs.declared.cut.Entry.{Entry}
use Rattle.gql_page.specs.declared.cut.Entry.TheVariants.{Fault, Operation, Other}
use Rattle.gql_page.specs.declared.cut.Part.{Part}

-- what is told by something: a fault or an operation, or nothing
abbrev pub telling : Entry → List Entry
telling (Fault place) = Fault place ∷ []
telling (Operation place) = Operation place ∷ []
telling Other = []

-- the faults and operations that parts tell of, in their order
abbrev pub told : List Part → List Entry
told parts = flat_map (λ p. telling p.entry) parts

-- the operations that the change heals, and the faults that it mends
abbrev pub healed_against : Option Against → List ℕ
healed_against None = []
healed_against (Some base) = base.comparison.now.healed.items

abbrev pub mended_against : Option Against → List ℕ
mended_against None = []
mended_against (Some base) = base.comparison.now.mended.items

-- the operations of a summary: those that are broken, then those that are healed
abbrev pub operations : Check → List ℕ
operations check = broken check ++ healed_against check.base

-- the faults of a summary: those that are shown, then those that are mended
abbrev pub faults : Check → List ℕ
faults check = shown check ++ mended_against check.base

-- a text in bold, with an empty line after it; nothing for an empty one
abbrev pub bold_line : List ℕ → List ℕ
bold_line [] = []
bold_line (b ∷ bs) = codes "**" ++ (b ∷ bs) ++ codes "**\n\n"

-- the head: what is said first, the heading with the counts, and a note
unfoldable pub head_text : Check → List ℕ → List ℕ
head_text check note = bold_line (first_words check) ++ codes "### GraphQL: "
    ++ counts_text check ++ codes "\n" ++ note

-- The text is made of parts that tell of each operation and then of each fault, once and in their
-- order; where it would be too long it has the first parts, whole, and counts the others.
pub record IsMarkdown (check : Check) (text : List ℕ) : Type 0 where
  pub parts : List Part
  pub all : told parts
      ≡ map Operation (operations check) ++ map Fault (faults check)
  pub short : IsCut parts text
