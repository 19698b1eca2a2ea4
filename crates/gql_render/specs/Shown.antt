-- What of a check is shown.
use Rattle.std.specs.Prelude.{ℕ, List, length, Option, Some, None}
use Rattle.std.specs.List.{range_with_len}
use Rattle.gql_findings.specs.declared.finding.Findings.{Findings}
use Rattle.gql_render.specs.declared.check.Against.{Against}
use Rattle.gql_render.specs.declared.check.Check.{Check}

-- all places of a list
abbrev pub every_place : {A : Type 0} → List A → List ℕ
every_place xs = range_with_len 0 (length xs)

-- the places of the faults that are shown: all, or against a base those that it brings
abbrev pub shown_against : Findings → Option Against → List ℕ
shown_against now None = every_place now.findings.items
shown_against now (Some base) = base.comparison.now.brought.items

-- the places of the faults of a check that are shown
abbrev pub shown : Check → List ℕ
shown check = shown_against check.now.now check.base

-- the places of the operations that are reported as broken: all that are not served, or against a
-- base those that the change breaks
abbrev pub broken_against : Findings → Option Against → List ℕ
broken_against now None = every_place now.affected.items
broken_against now (Some base) = base.comparison.now.broken.items

-- the places of the operations of a check that are reported as broken
abbrev pub broken : Check → List ℕ
broken check = broken_against check.now.now check.base
