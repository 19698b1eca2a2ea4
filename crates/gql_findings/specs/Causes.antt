-- Faults of one cause, put together: those that break one rule about one text.
use Rattle.std.specs.Prelude.{ℕ, ◌≡◌, ◌<◌, List, [], Bool, true, false, All, filter, length, option_map, unwrap_or, slice_get, slice_index}
use Rattle.std.specs.List.{list_any, IsDistinct}
use Rattle.std.specs.List.Sorted.{IsSortedByKey}
use Rattle.std.specs.Ordering.{nat_cmp, ordering_then}
use Rattle.std.specs.declared.cmp.Ordering.{Ordering}
use Rattle.gql_ast.specs.Rules.{name_of}
use Rattle.gql_findings.specs.Marks.{Mark, same_mark, cause_mark}
use Rattle.gql_findings.specs.declared.finding.Finding.{Finding}
use Rattle.gql_findings.specs.declared.grouping.Cause.{Cause}

-- what a cause is known by
abbrev pub mark_of_cause : Cause → Mark
mark_of_cause c = record {
  kind = 0;
  rule = name_of c.rule;
  about = c.about;
  first = [];
  second = [];
  owner = [];
}

-- whether there is a fault at this place of the list that has this cause
abbrev pub has_cause : List Finding → Mark → ℕ → Bool
has_cause findings mark i =
    unwrap_or (option_map (λ f. same_mark mark (cause_mark f)) (slice_get findings i)) false

-- the rank of a cause: how many members it has, and the first of them
abbrev pub rank_of : Cause → ℕ × ℕ
rank_of c = (length c.members.items, slice_index c.members.items 0)

-- the order of ranks: more members come first, and of as many the first with the smaller place
abbrev pub rank_order : ℕ × ℕ → ℕ × ℕ → Ordering
rank_order a b = ordering_then (nat_cmp b.0 a.0) (nat_cmp a.1 b.1)

-- These are the causes of the faults at these places of the list, in some order: the members of
-- each are those of the places, in their order, whose faults have the cause, and there are some;
-- each place that has a fault is a member of one; and no two causes are the same.
pub record AreGrouped (findings : List Finding) (which : List ℕ) (causes : List Cause)
    : Type 0 where
  pub members : All (λ c. c.members.items
      ≡ filter (has_cause findings (mark_of_cause c)) which) causes
  pub some : All (λ c. 0 < length c.members.items) causes
  pub each : All (λ i. i < length findings
      → list_any (λ c. has_cause findings (mark_of_cause c) i) causes ≡ true) which
  pub once : IsDistinct (λ a b. same_mark (mark_of_cause a) (mark_of_cause b)) causes

-- These are the causes of the faults at these places of the list, in the order of their ranks.
pub record AreCauses (findings : List Finding) (which : List ℕ) (causes : List Cause) : Type 0 where
  pub groups : AreGrouped findings which causes
  pub ordered : IsSortedByKey rank_of rank_order causes
