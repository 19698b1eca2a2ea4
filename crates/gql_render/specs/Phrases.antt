-- Phrases of a report: what is said first, and the counts.
use Rattle.std.specs.Prelude.{ℕ, List, [], ◌++◌, ◌==◌, length, codes, decimal, Option, Some, None, if◌then◌else◌}
use Rattle.gql_findings.specs.declared.finding.Findings.{Findings}
use Rattle.gql_render.specs.declared.check.Against.{Against}
use Rattle.gql_render.specs.declared.check.Check.{Check}

-- what is said first where the documents of now are hidden
abbrev pub unknown : List ℕ
unknown = codes "the schema has faults: which operations this change breaks is not known"

-- what is said first of a comparison
abbrev pub first_against : Option Against → List ℕ
first_against None = []
first_against (Some base) = if base.comparison.now.hidden then unknown else []

-- what is said first of a check: that the documents of now are hidden, if they are
abbrev pub first_words : Check → List ℕ
first_words check = first_against check.base

-- the ending of a noun after a number
abbrev pub ending : ℕ → List ℕ
ending n = if n == 1 then [] else codes "s"

-- a number of things: `1 fault`, `2 faults`
unfoldable pub count_text : ℕ → List ℕ → List ℕ
count_text n noun = decimal n ++ codes " " ++ noun ++ ending n

-- how many faults a change brings and mends
unfoldable pub change_counts : Against → List ℕ
change_counts base = count_text (length base.comparison.now.brought.items) (codes "fault")
    ++ codes " brought, " ++ count_text (length base.comparison.now.mended.items) (codes "fault")
    ++ codes " mended"

-- how many faults there are, and in how many files
unfoldable pub all_counts : Findings → List ℕ
all_counts now = count_text (length now.findings.items) (codes "fault") ++ codes " in "
    ++ count_text (length now.sources.items) (codes "file")

-- the counts, alone or against a base
abbrev pub counts_against : Findings → Option Against → List ℕ
counts_against now None = all_counts now
counts_against now (Some base) = change_counts base

-- the counts of a check
abbrev pub counts_text : Check → List ℕ
counts_text check = counts_against check.now.now check.base
