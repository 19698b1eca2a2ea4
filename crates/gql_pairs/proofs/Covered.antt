-- Groups for what a definition spreads, and the members that other groups have.
use Rattle.std.specs.Prelude.{◌≡◌, ◌<◌, ◌+◌, ℕ, List, [], ◌∷◌, length, map, refl, Contains}
use Rattle.std.proofs.Common.{ap, sym, ◌∙◌, subst, inl, inr, get_or, take}
use Rattle.std.proofs.lemmas.List.Elements.{Contains-append_left, Contains-append_right}
use Rattle.gql_ast.specs.declared.definition.Definition.{Definition}
use Rattle.gql_ast.specs.declared.fault.Fault.{Fault}
use Rattle.gql_facts.specs.ListMembers.{Contains-here, Contains-map}
use Rattle.gql_facts.specs.Members.{Lists}
use Rattle.gql_facts.specs.Reads.{Reaches, by_definition, by_fragment}
use Rattle.gql_facts.specs.Worlds.{Facts}
use Rattle.gql_facts.specs.declared.fact.Fact.TheVariants as fact
use Rattle.gql_facts.specs.declared.fact.FragmentFact.{FragmentFact}
use Rattle.gql_facts.specs.declared.key.Key.TheVariants as key
use Rattle.gql_merge.proofs.CleanPairs.{nothing_bad}
use Rattle.gql_merge.specs.Between.{name_of}
use Rattle.gql_merge.proofs.NamesRead.{of_fragment_asked, of_tree_asked}
use Rattle.gql_merge.specs.ByFragments as by
use Rattle.gql_merge.specs.ByFragments.{IsPairOf, Spreads}
use Rattle.gql_merge.specs.FieldNodes.{SetNode}
use Rattle.gql_merge.specs.FieldSets.{set_of}
use Rattle.gql_merge.specs.MergedNodes.{fragment_part, fragment_set, sets_in, sets_of}
use Rattle.gql_merge.specs.MergeFaults.{IsMergeFault}
use Rattle.gql_merge.specs.SpreadSets.{AreSpreadSets}
use Rattle.gql_merge.specs.declared.spreading.SpreadSet.{SpreadSet}
use Rattle.gql_reads.proofs.Members.{Contains-map_from}
use Rattle.gql_reads.proofs.Takes.{seen_more}
use Rattle.gql_reads.specs.Observations.{Hold}
use Rattle.gql_pairs.specs.Fragments.{IsCertified, IsFragmentOfName, KeptFragment}
use Rattle.gql_pairs.specs.Groups.{AreClean, AreCleanBetween, AreMembersFor, KeptGroup, pair_of}
use Rattle.gql_pairs.specs.Tables.{AllHold, HasPair, HasPairs, IsKnown, Keeps}
use Rattle.gql_pairs.proofs.Entries.{pair_here}

-- ---- a member that some group has

module _ (F : Facts) (table : List KeptGroup) (hold : AllHold F table) (g : FragmentFact) (x : KeptFragment) (known : IsKnown table (name_of g) x) where
  pub known_holds : Hold F x.observations
  known_holds o c = hold (name_of x.fragment) (name_of x.fragment) (pair_of known.0 x x) (known.0, known.1, pair_here known.0 x x known.2 known.2)
      o (Contains-append_left x.observations x.observations o c)

  -- it is the fragment of its name
  pub known_fragment : IsFragmentOfName F g → IsCertified x → x.fragment ≡ g
  known_fragment named certified =
      let e : fact.Fragment x.fragment ≡ fact.Fragment g = sym (certified F known_holds).named ∙ ap (λ l. F (key.FragmentOf l)) known.3 ∙ named in cc e

-- ---- the members for some fragments

module _ (F : Facts) (fs : List FragmentFact) (xs : List KeptFragment) (are : AreMembersFor fs xs) where
  pub clean_members : AreCleanBetween F fs → AreClean F xs
  clean_members clean x y cx cy p bad = clean x.fragment y.fragment (are.from x cx) (are.from y cy) p bad

-- the members in their order
pub in_order : (fs : List FragmentFact) (xs : List KeptFragment) → map (λ (m : KeptFragment). m.fragment) xs ≡ fs → AreMembersFor fs xs
in_order fs xs is = record {
  from = λ x c. subst (λ l. Contains l x.fragment) is (Contains-map (λ (m : KeptFragment). m.fragment) xs x c);
  all = λ g c. Contains-map_from (λ (m : KeptFragment). m.fragment) xs g (subst (λ l. Contains l g) (sym is) c);
}

-- a table with a group of them has the pairs
pub pairs_of_group : (table : List KeptGroup) (x : KeptGroup) → Contains table x → (fs : List FragmentFact) → AreMembersFor fs x.members → HasPairs table fs
pairs_of_group table x c fs are g h cg ch =
    let a = are.all g cg in
    let b = are.all h ch in (
      pair_of x a.0 b.0,
      (x, c, record { left = a.0; right = b.0; is_left = a.1; is_right = b.1; first = ap name_of a.2; second = ap name_of b.2; is = refl }),
    )

-- ---- the sets of a definition

module _ (F : Facts) (d : Definition) (sets : List SpreadSet) (are : AreSpreadSets F d sets) where
  pub set_clean : ((f : Fault) → IsMergeFault F d f → ⊥) → (s : SpreadSet) → Contains sets s → AreCleanBetween F s.fragments.items
  set_clean none s c g h cg ch p bad = nothing_bad F d none g h ((are.pairs g h).1 (s, c, cg, ch)) p bad

  -- each pair of the definition is in one of the sets
  pub sets_have : (table : List KeptGroup) → ((s : SpreadSet) → Contains sets s → HasPairs table s.fragments.items)
      → (g h : FragmentFact) → IsPairOf F d g h → HasPair table (name_of g) (name_of h)
  sets_have table has g h pair = let b = (are.pairs g h).0 pair in has b.0 b.1 g h b.2 b.3

-- entries that are kept are still there
pub still_has : (old new : List KeptGroup) (fs : List FragmentFact) → Keeps old new → HasPairs old fs → HasPairs new fs
still_has old new fs keeps has g h cg ch = let e = has g h cg ch in (e.0, keeps (name_of g) (name_of h) e.0 e.1)

module _ (sets : List SpreadSet) (i : ℕ) (s : SpreadSet) (lt : i < length sets) (is : s ≡ get_or sets i s) (old new : List KeptGroup) (keeps : Keeps old new) where
  pub has_more : ((t : SpreadSet) → Contains (take i sets) t → HasPairs old t.fragments.items) → HasPairs new s.fragments.items
      → (t : SpreadSet) → Contains (take (i + 1) sets) t → HasPairs new t.fragments.items
  has_more before here t c = elim (seen_more sets i s lt is t c) [
    | inl b ↦ still_has old new t.fragments.items keeps (before t b)
    | inr e ↦ subst (λ (u : SpreadSet). HasPairs new u.fragments.items) e here
  ]

-- ---- what a definition spreads, it reaches

module _ (F : Facts) (d : Definition) where
  own_set : (g : FragmentFact) → Contains (sets_of (fragment_part F g.file g.fragment)) (fragment_set F g)
  own_set g = let p = fragment_part F g.file g.fragment in Contains-append_right p.sets (set_of p ∷ []) (set_of p) (Contains-here (set_of p) [])

  module _ (s : SetNode) (c : Contains (sets_in F d) s) where
    pub spread_reached : (g : FragmentFact) → Spreads F s g → Reaches F d g
    spread_reached g (by.by_set {n} h e) = by_definition (of_tree_asked F d.file d.tree s c n h) e
    spread_reached g (by.by_fragment {n} {f} r h e) = by_fragment (spread_reached f r) (of_fragment_asked F f.file f.fragment (fragment_set F f) (own_set f) n h) e

  -- a table that has all pairs of what is reached has those of the definition
  pub reached_have : (members : List FragmentFact) → Lists members (Reaches F d) → (table : List KeptGroup) → HasPairs table members
      → (g h : FragmentFact) → IsPairOf F d g h → HasPair table (name_of g) (name_of h)
  reached_have members lists table has g h pair = has g h (lists.complete g (spread_reached pair.0 pair.1 g pair.2)) (lists.complete h (spread_reached pair.0 pair.1 h pair.3))
