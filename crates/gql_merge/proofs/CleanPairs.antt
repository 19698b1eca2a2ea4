-- Where a definition has no fault by the merging of fields, nothing is bad between two fragments that
-- one of its sets spreads.
use Rattle.std.specs.Prelude.{◌≡◌, Bool, true, false, ◌||◌}
use Rattle.std.proofs.Common.{sym, inl, inr, true≢false}
use Rattle.gql_ast.specs.declared.definition.Definition.{Definition}
use Rattle.gql_ast.specs.declared.fault.Fault.{Fault}
use Rattle.gql_ast.specs.declared.rule.Rule.TheVariants as rule
use Rattle.gql_clashes.specs.Clashes.{is_bad_call, is_bad_shape}
use Rattle.gql_facts.specs.ListMembers.{either}
use Rattle.gql_facts.specs.Worlds.{Facts}
use Rattle.gql_facts.specs.declared.fact.FragmentFact.{FragmentFact}
use Rattle.gql_rules.specs.LocalFaults.{owner_of}
use Rattle.gql_merge.proofs.ByNames.{of_pairs}
use Rattle.gql_merge.proofs.BySetsBack.{back}
use Rattle.gql_merge.specs.Between as between
use Rattle.gql_merge.specs.Between.{IsBadBetween, bad_pair}
use Rattle.gql_merge.specs.ByFragments as by
use Rattle.gql_merge.specs.ByFragments.{IsBadOf, IsFaultByPairs, IsPairOf}
use Rattle.gql_merge.specs.MergeFaults.{IsMergeFault}
use Rattle.gql_merge.specs.MergedNodes.{nodes}
use Rattle.gql_merge.specs.declared.bad_pair.BadPair.{BadPair}

other : (a b : Bool) → a ≡ false → (a || b) ≡ true → b ≡ true
other true b e o = absurd (true≢false e)
other false b e o = o

module _ (F : Facts) (d : Definition) (none : (f : Fault) → IsMergeFault F d f → ⊥) where
  no_fault : (f : Fault) → IsFaultByPairs F d f → ⊥
  no_fault f k = none f (back F d f (of_pairs F d f k))

  pub nothing_bad : (g h : FragmentFact) → IsPairOf F d g h → (p : BadPair) → IsBadBetween F g h p → ⊥
  nothing_bad g h pair p (between.clash {x = x} {y = y} {m = m} c l) =
      let b = bad_pair F x y m in
      let bad : IsBadOf F d b = by.by_two {g = g} {h = h} pair (between.clash {x = x} {y = y} {m = m} c l) in
      elim (either (is_bad_shape (nodes F) x y)) [
        | inl t ↦ no_fault (by.fault_of (owner_of d) rule.V06 b) (by.shapes_differ {p = b} bad t)
        | inr f ↦ no_fault (by.fault_of (owner_of d) rule.V05 b) (by.calls_differ {p = b} bad (other (is_bad_shape (nodes F) x y) (is_bad_call (nodes F) m x y) f c.1))
      ]
