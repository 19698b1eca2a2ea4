-- The faults of a definition by its sets are those by the fragments that its sets spread.
use Rattle.std.specs.Prelude.{◌≡◌, ℕ, List, [], true, refl, Contains}
use Rattle.std.proofs.Common.{sym, subst}
use Rattle.gql_ast.specs.declared.definition.Definition.{Definition}
use Rattle.gql_ast.specs.declared.fault.Fault.{Fault}
use Rattle.gql_ast.specs.declared.rule.Rule.TheVariants as rule
use Rattle.gql_clashes.specs.Clashes.{IsClash, SeedsBetween}
use Rattle.gql_clashes.specs.Parts as parts
use Rattle.gql_clashes.specs.Parts.{IsClashBySet, SpreadsOn}
use Rattle.gql_clashes.specs.declared.sets.Mode.{Mode}
use Rattle.gql_facts.specs.ListMembers.{Contains-flat_map, Contains-flat_map_from, Contains-here}
use Rattle.gql_facts.specs.Worlds.{Facts}
use Rattle.gql_facts.specs.declared.fact.Fact.TheVariants as fact
use Rattle.gql_facts.specs.declared.fact.FragmentFact.{FragmentFact}
use Rattle.gql_facts.specs.declared.key.Key.TheVariants as key
use Rattle.gql_rules.specs.LocalFaults.{owner_of}
use Rattle.gql_merge.proofs.Cleanness.{both_by}
use Rattle.gql_merge.specs.Between as between
use Rattle.gql_merge.specs.Between.{IsBadBetween, bad_pair}
use Rattle.gql_merge.specs.ByFragments as by
use Rattle.gql_merge.specs.ByFragments.{IsBadOf, IsFaultByPairs, IsOwnBad, IsPairOf, Spreads}
use Rattle.gql_merge.specs.BySets as sets
use Rattle.gql_merge.specs.BySets.{IsConflictBySets, IsFaultBySets}
use Rattle.gql_merge.specs.FieldNodes.{FieldNode, SetNode, names_spread}
use Rattle.gql_merge.specs.MergedNodes.{fragment_set, is_before, nodes, sets_by, sets_in, sets_named}
use Rattle.gql_merge.specs.declared.bad_pair.BadPair.{BadPair}

module _ (F : Facts) where
  -- what a set spreads itself
  named : (s t : SetNode) → Contains ((nodes F).spreads s) t → (n : List ℕ) × (g : FragmentFact) × Contains (names_spread s) n × (F (key.FragmentOf n) ≡ fact.Fragment g) × (t ≡ fragment_set F g)
  named s t c =
      let r = Contains-flat_map_from (sets_named F) (names_spread s) t c in
      let b = both_by F (F (key.FragmentOf r.0)) t t r.2 r.2 in
      (r.0, b.0, r.1, b.1, b.2)

  there_by : (s : SetNode) (n : List ℕ) (g : FragmentFact) → Contains (names_spread s) n → F (key.FragmentOf n) ≡ fact.Fragment g → Contains ((nodes F).spreads s) (fragment_set F g)
  there_by s n g c e = Contains-flat_map (sets_named F) (names_spread s) n (fragment_set F g) c
      (subst (λ f. Contains (sets_by F f) (fragment_set F g)) (sym e) (Contains-here (fragment_set F g) []))

  to_fragment : {s t : SetNode} → SpreadsOn (nodes F) s t → (g : FragmentFact) × Spreads F s g × (t ≡ fragment_set F g)
  to_fragment {s} (parts.by_set {t} c) = let r = named s t c in (r.1, by.by_set {n = r.0} {g = r.1} r.2 r.3, r.4)
  to_fragment {s} (parts.by_spread {t} {u} a c) =
      let f = to_fragment a in
      let r = named t u c in
      (r.1, by.by_fragment {n = r.0} {f = f.0} {g = r.1} f.1 (subst (λ z. Contains (names_spread z) r.0) f.2 r.2) r.3, r.4)

  of_fragment : {s : SetNode} {g : FragmentFact} → Spreads F s g → SpreadsOn (nodes F) s (fragment_set F g)
  of_fragment {s} (by.by_set {n} {g} c e) = parts.by_set (there_by s n g c e)
  of_fragment {s} (by.by_fragment {n} {f} {g} a c e) = parts.by_spread (of_fragment a) (there_by (fragment_set F f) n g c e)

  module _ (d : Definition) where
    bad_of_set : (s : SetNode) (f g : FieldNode) (m : Mode) → Contains (sets_in F d) s → IsClashBySet (nodes F) s f g m → is_before f.its g.its ≡ true → IsBadOf F d (bad_pair F f g m)
    bad_of_set s f g m c (parts.by_own k) l = by.by_own (by.clash {s = s} {x = f} {y = g} {m = m} c k l)
    bad_of_set s f g m c (parts.by_two t u a b k) l =
        let i = to_fragment a in
        let j = to_fragment b in
        let here : IsClash (nodes F) (SeedsBetween (nodes F) t (fragment_set F j.0)) f g m = subst (λ z. IsClash (nodes F) (SeedsBetween (nodes F) t z) f g m) j.2 k in
        by.by_two {g = i.0} {h = j.0} (s, c, i.1, j.1)
        (between.clash {x = f} {y = g} {m = m} (subst (λ z. IsClash (nodes F) (SeedsBetween (nodes F) z (fragment_set F j.0)) f g m) i.2 here) l)

    abbrev Conflict : BadPair → Type 0
    Conflict p = (f g : FieldNode) × (m : Mode) × IsConflictBySets F d f g m × (p ≡ bad_pair F f g m)

    own_conflict : (p : BadPair) → IsOwnBad F d p → Conflict p
    own_conflict p (by.clash {s = s} {x = x} {y = y} {m = m} c k l) = (x, y, m, ((s, c, parts.by_own k), l), refl)

    two_conflict : (g h : FragmentFact) (p : BadPair) → IsPairOf F d g h → IsBadBetween F g h p → Conflict p
    two_conflict g h p pair (between.clash {x = x} {y = y} {m = m} k l) =
        (x, y, m, ((pair.0, pair.1, parts.by_two (fragment_set F g) (fragment_set F h) (of_fragment pair.2) (of_fragment pair.3) k), l), refl)

    conflict : (p : BadPair) → IsBadOf F d p → Conflict p
    conflict p (by.by_own b) = own_conflict p b
    conflict p (by.by_two {g = g} {h = h} pair b) = two_conflict g h p pair b

    pub to_pairs : (x : Fault) → IsFaultBySets F d x → IsFaultByPairs F d x
    to_pairs x (sets.calls_differ {f = f} {g = g} {m = m} c bad) = by.calls_differ {p = bad_pair F f g m} (bad_of_set c.0.0 f g m c.0.1 c.0.2 c.1) bad
    to_pairs x (sets.shapes_differ {f = f} {g = g} {m = m} c bad) = by.shapes_differ {p = bad_pair F f g m} (bad_of_set c.0.0 f g m c.0.1 c.0.2 c.1) bad

    pub of_pairs : (x : Fault) → IsFaultByPairs F d x → IsFaultBySets F d x
    of_pairs x (by.calls_differ {p = p} b t) =
        let r = conflict p b in
        subst (λ p. IsFaultBySets F d (by.fault_of (owner_of d) rule.V05 p)) (sym r.4)
        (sets.calls_differ {f = r.0} {g = r.1} {m = r.2} r.3 (subst (λ (p : BadPair). p.by_call ≡ true) r.4 t))
    of_pairs x (by.shapes_differ {p = p} b t) =
        let r = conflict p b in
        subst (λ p. IsFaultBySets F d (by.fault_of (owner_of d) rule.V06 p)) (sym r.4)
        (sets.shapes_differ {f = r.0} {g = r.1} {m = r.2} r.3 (subst (λ (p : BadPair). p.by_shape ≡ true) r.4 t))
