-- Lists in the order of reports: one whose faults are each below the next, and one that was sorted
-- and from which repeated faults were dropped.
use Rattle.std.proofs.Common.{◌≡◌, ◌↔◌, ◌+◌, ◌-◌, ◌<◌, ◌≤◌, ℕ, suc, refl, sym, ◌∙◌, subst, List, [], ◌∷◌, Bool, true, false, not, ◌==◌, Contains, length, get_or, arith}
use Rattle.std.proofs.lemmas.List.{get_or_default}
use Rattle.std.proofs.lemmas.List.Filters.{dedup_is}
use Rattle.std.proofs.lemmas.List.Kept.{Contains-dedup, Contains-from_dedup, IsStrictlySortedBy-dedup}
use Rattle.std.proofs.lemmas.List.Sorted.{Contains-permutation, IsPermutation-sym, all_adjacent_more}
use Rattle.std.proofs.lemmas.Map.Views.{tells_apart}
use Rattle.std.specs.Cmp.{eq_by_cmp_equiv}
use Rattle.std.specs.List.{AllAdjacentBelow, AllByRecursion, dedup}
use Rattle.std.specs.List.Retain.{DiffersFromLast, IsFiltered}
use Rattle.std.specs.List.Sorted.{IsPermutation, IsSorted, IsStrictlySortedBy}
use Rattle.std.specs.Ordering.{eq_by_cmp, ordering_index}
use Rattle.std.specs.declared.cmp.Ordering.{Ordering}
use Rattle.std.specs.declared.cmp.Ordering.TheVariants.{Less, Equal, Greater}
use Rattle.gql_ast.specs.declared.fault.Fault.{Fault}
use Rattle.gql_report.specs.Order.{fault_order}
use Rattle.gql_report.specs.Total.{fault_order_total}
use Rattle.gql_report.proofs.Apart.{one_fault}

-- ---- each below the next

-- each of the first so many is below the next
abbrev pub AreAdjacent : List Fault → ℕ → Type 0
AreAdjacent = AllAdjacentBelow (λ (f g : Fault). fault_order f g ≡ Less)

-- what is below the first of a list is below all of it
below : (f g : Fault) (gs : List Fault) → fault_order f g ≡ Less → AllByRecursion (λ x. fault_order g x ≡ Less) gs
    → AllByRecursion (λ x. fault_order f x ≡ Less) gs
below f g [] less all = tt
below f g (x ∷ xs) less all = (fault_order_total.trans f g x less all.0, below f g xs less all.1)

all_chained : (fs : List Fault)
    → ((k : ℕ) (d : Fault) → suc k < length fs → fault_order (get_or fs k d) (get_or fs (suc k) d) ≡ Less)
    → IsStrictlySortedBy fault_order fs
unfolding IsStrictlySortedBy
all_chained [] h = tt
all_chained (f ∷ []) h = (tt, tt)
all_chained (f ∷ g ∷ gs) h =
    let rest = all_chained (g ∷ gs) (λ k d lt. h (suc k) d (omega (arith, lt))) in
    ((h 0 f (omega arith), below f g gs (h 0 f (omega arith)) rest.0), rest)

pub all_below : (fs : List Fault) → AreAdjacent fs (length fs) → IsStrictlySortedBy fault_order fs
all_below fs h = all_chained fs (λ k d lt. subst (λ n. fault_order (get_or fs k d) (get_or fs n d) ≡ Less) (next k) (h k d (omega (arith, lt))))
  where
    next : (k : ℕ) → k + 1 ≡ suc k
    next k = omega arith

less_if : (r : Ordering) (differs : Bool) → differs ≡ not (ordering_index r == 0) → differs ≡ false → r ≡ Less
less_if Less differs is alike = refl
less_if Equal differs is alike = let e : true ≡ false = sym is ∙ alike in cc
less_if Greater differs is alike = let e : true ≡ false = sym is ∙ alike in cc

-- one fault more
pub one_more : (fs : List Fault) (i : ℕ) (f g : Fault) (r : Ordering) (differs : Bool) → 1 ≤ i → i < length fs
    → f ≡ get_or fs (i - 1) f → g ≡ get_or fs i g → r ≡ fault_order f g
    → differs ≡ not (ordering_index r == 0) → differs ≡ false → AreAdjacent fs i → AreAdjacent fs (i + 1)
one_more fs i f g r differs some inside at_f at_g is test alike before =
    all_adjacent_more fs (λ (x y : Fault). fault_order x y ≡ Less) i (omega (arith, some)) before (λ d.
    subst (λ x. fault_order x (get_or fs i d) ≡ Less) (at_f ∙ get_or_default fs (i - 1) f d (omega (arith, inside, some)))
    (subst (λ y. fault_order f y ≡ Less) (at_g ∙ get_or_default fs i g d inside) (sym is ∙ less_if r differs test alike)))

-- ---- sorted, and each once

module _ (given sorted left : List Fault) (dropped : IsFiltered (DiffersFromLast (eq_by_cmp fault_order)) [] sorted left) where
  is : left ≡ dedup (eq_by_cmp fault_order) sorted
  is = dedup_is (eq_by_cmp fault_order) sorted left dropped

  pub ordered : IsSorted fault_order sorted → IsStrictlySortedBy fault_order left
  ordered h = rw is (IsStrictlySortedBy-dedup fault_order_total (λ f g. refl) sorted h)

  pub members : IsPermutation given sorted → (f : Fault) → Contains left f ↔ Contains given f
  members moved f = (
    λ h. Contains-permutation sorted given f (IsPermutation-sym given sorted moved) (Contains-from_dedup (eq_by_cmp fault_order) sorted f (subst (λ l. Contains l f) is h)),
    λ h. subst (λ l. Contains l f) (sym is) (Contains-dedup (eq_by_cmp_equiv fault_order_total) (tells_apart one_fault) sorted f (Contains-permutation given sorted f moved h)),
  )

-- the faults of a report are those that were given, in whatever order they were sorted
pub same_members : (given moved left report : List Fault) → IsPermutation given moved
    → ((f : Fault) → Contains left f ↔ Contains moved f) → report ≡ left
    → (f : Fault) → Contains report f ↔ Contains given f
same_members given moved left report p same is f = (
  λ h. Contains-permutation moved given f (IsPermutation-sym given moved p) ((same f).0 (subst (λ l. Contains l f) is h)),
  λ h. subst (λ l. Contains l f) (sym is) ((same f).1 (Contains-permutation given moved f p h)),
)
