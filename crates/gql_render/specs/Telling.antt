-- Which faults tell most: the order in which annotations show them.
use Rattle.std.specs.Prelude.{ℕ, ◌≡◌, List, Bool, false, ◌==◌, ◌&&◌, filter, bytes_eq, nat_eq, Option, Some, None, option_map, unwrap_or, slice_get, slice_index, if◌then◌else◌, IsPermutation}
use Rattle.std.specs.List.{list_any}
use Rattle.std.specs.List.Sorted.{IsSortedByKey}
use Rattle.std.specs.Ordering.{nat_cmp}
use Rattle.gql_findings.specs.Causes.{AreCauses}
use Rattle.gql_findings.specs.Comparing.{is_of_schema}
use Rattle.gql_findings.specs.declared.finding.Affected.{Affected}
use Rattle.gql_findings.specs.declared.finding.Finding.{Finding}
use Rattle.gql_findings.specs.declared.finding.Owner.{Owner}
use Rattle.gql_findings.specs.declared.finding.Owner.TheVariants.{Fragment, Operation, TypeSystem}
use Rattle.gql_findings.specs.declared.finding.OwnerAt.{OwnerAt}
use Rattle.gql_findings.specs.declared.finding.Spot.{Spot}
use Rattle.gql_findings.specs.declared.grouping.Cause.{Cause}
use Rattle.gql_render.specs.Picking.{picked}
use Rattle.gql_render.specs.Shown.{shown, broken}
use Rattle.gql_render.specs.declared.check.Check.{Check}

-- whether two places are the same
abbrev pub is_same : Spot → Spot → Bool
is_same a b = a.source == b.source && a.offset == b.offset

-- whether a definition is the fragment of this name
abbrev pub is_fragment : Owner → List ℕ → Bool
is_fragment (Fragment name) through = bytes_eq name through
is_fragment (Operation kind name) through = false
is_fragment (TypeSystem kind name) through = false

-- whether an operation is not served by a fault of this definition: it is the operation itself, or
-- the fragment through which the operation is not served
abbrev pub blames : Option (List ℕ) → Spot → OwnerAt → Bool
blames None spot owner = is_same spot owner.spot
blames (Some through) spot owner = is_fragment owner.owner through

-- whether an operation is not served by a fault that this definition owns
abbrev pub is_blamed : Affected → OwnerAt → Bool
is_blamed a owner = blames a.through a.spot owner

-- whether the fault at this place is one of the schema
abbrev pub is_of_schema_at : List Finding → ℕ → Bool
is_of_schema_at findings i =
    unwrap_or (option_map (λ f. is_of_schema f.rule) (slice_get findings i)) false

-- whether a definition keeps one of these operations from being served
abbrev pub is_any_blamed : List Affected → Option OwnerAt → Bool
is_any_blamed operations None = false
is_any_blamed operations (Some owner) = list_any (λ a. is_blamed a owner) operations

-- whether the fault at this place keeps one of these operations from being served
abbrev pub is_breaking_at : List Finding → List Affected → ℕ → Bool
is_breaking_at findings operations i =
    unwrap_or (option_map (λ f. is_any_blamed operations f.owner) (slice_get findings i)) false

-- the first member of a cause
abbrev pub first_member : Cause → ℕ
first_member c = slice_index c.members.items 0

-- whether a fault is the first member of one of these causes
abbrev pub is_first : List Cause → ℕ → Bool
is_first causes i = list_any (λ c. nat_eq (first_member c) i) causes

-- 0 for what passes the first test, 1 for what passes the second, else 2
abbrev pub rank_by : (ℕ → Bool) → (ℕ → Bool) → ℕ → ℕ
rank_by first second i = if first i then 0 else if second i then 1 else 2

-- These are the faults of the check that are shown, each once, those that tell most first: of the
-- faults of the schema one of each cause, of those that keep an operation from being served one of
-- each cause, and then all others.
pub record IsRanked (check : Check) (ranked : List ℕ) : Type 0 where
  pub schema : List Cause
  pub breaking : List Cause
  pub of_schema : AreCauses check.now.now.findings.items
      (filter (is_of_schema_at check.now.now.findings.items) (shown check)) schema
  pub of_breaking : AreCauses check.now.now.findings.items
      (filter (is_breaking_at check.now.now.findings.items
      (picked check.now.now.affected.items (broken check))) (shown check)) breaking
  pub all : IsPermutation (shown check) ranked
  pub rank : ℕ → ℕ
  pub ranks : (i : ℕ) → rank i ≡ rank_by (is_first schema) (is_first breaking) i
  pub order : IsSortedByKey rank nat_cmp ranked
