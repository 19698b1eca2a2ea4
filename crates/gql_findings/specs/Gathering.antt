-- Helper definitions for private contracts: faults that are put to their causes one by one.
use Rattle.std.specs.Prelude.{ℕ, ◌≡◌, ◌<◌, List, [], ◌∷◌, ◌++◌, Bool, All, if◌then◌else◌, length, map}
use Rattle.std.specs.List.{IsDistinct}
use Rattle.gql_findings.specs.Causes.{mark_of_cause}
use Rattle.gql_findings.specs.Keys.{marks_of, same_key}
use Rattle.gql_findings.specs.Marks.{Mark, same_mark}
use Rattle.gql_findings.specs.declared.grouping.Cause.{Cause}
use Rattle.gql_findings.specs.declared.marks.Key.{Key}

-- the members of the cause of this mark; none where there is no such cause
abbrev pub members_at : Mark → List Cause → List ℕ
members_at m [] = []
members_at m (c ∷ cs) = if same_mark m (mark_of_cause c) then c.members.items else members_at m cs

-- the keys are those of the causes, in their order
abbrev pub Agree : List Key → List Cause → Type 0
Agree keys causes = marks_of keys ≡ map mark_of_cause causes

-- the cause has members
abbrev pub HasMembers : Cause → Type 0
HasMembers c = 0 < length c.members.items

-- a member is added to the causes whose marks pass the test, of which there is at most one
pub record Gathers (test : Mark → Bool) (member : ℕ) (keys new_keys : List Key)
    (causes new : List Cause) : Type 0 where
  pub members : (m : Mark) → members_at m new
      ≡ members_at m causes ++ (if test m then member ∷ [] else [])
  pub agree : Agree new_keys new
  pub distinct : IsDistinct same_key keys → IsDistinct same_key new_keys
  pub some : All HasMembers causes → All HasMembers new
