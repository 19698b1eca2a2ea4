-- A search over the groups of a table, and what a pair that is found says of two fragments.
use Rattle.std.specs.Prelude.{◌≡◌, ◌<◌, ◌≤◌, ◌+◌, ℕ, List, length, map, refl, is_some, Bool, false, true, Option, Some, None, IfSome, IsSome, MatchBool, MatchOption, Contains}
use Rattle.std.proofs.Common.{ap, sym, ◌∙◌, subst, inl, inr, get_or, take}
use Rattle.std.proofs.lemmas.List.{take_all}
use Rattle.gql_ast.specs.declared.definition.Definition.{Definition}
use Rattle.gql_ast.specs.declared.definition.Tree.TheVariants as tree
use Rattle.gql_facts.specs.Members.{Lists}
use Rattle.gql_facts.specs.Worlds.{Facts}
use Rattle.gql_facts.specs.declared.fact.Fact.TheVariants as fact
use Rattle.gql_facts.specs.declared.fact.FragmentFact.{FragmentFact}
use Rattle.gql_facts.specs.declared.key.Key.TheVariants as key
use Rattle.gql_merge.specs.Between.{IsBadBetween, PairReads, definition_of, name_of}
use Rattle.gql_reads.proofs.Members.{Contains-map_from}
use Rattle.gql_reads.proofs.Takes.{seen_more}
use Rattle.gql_reads.specs.Observations.{Hold, keys_of}
use Rattle.gql_pairs.specs.Fragments.{IsFragmentOfName, KeptFragment}
use Rattle.gql_pairs.specs.Groups.{HasMember, IsPairCertified, IsPairIn, JudgesPair, KeptGroup, KeptPair, pair_of}
use Rattle.gql_pairs.specs.Tables.{HasPair, HasPairs, IsEntry}

-- ---- one group after another

module _ (groups : List KeptGroup) (i : ℕ) (x : KeptGroup) (lt : i < length groups) (is : x ≡ get_or groups i x) where
  -- no entry among the groups before this one, and none in it
  pub none_more : (n m : List ℕ) → ((k : KeptPair) → IsEntry (take i groups) n m k → ⊥) → ((k : KeptPair) → IsPairIn x n m k → ⊥) → (k : KeptPair) → IsEntry (take (i + 1) groups) n m k → ⊥
  none_more n m before never k e = elim (seen_more groups i x lt is e.0 e.1) [
    | inl s ↦ before k (e.0, s, e.2)
    | inr q ↦ never k (subst (λ (z : KeptGroup). IsPairIn z n m k) (sym q) e.2)
  ]

  -- what this group keeps is an entry
  pub entry_here : (n m : List ℕ) (k : KeptPair) → IsPairIn x n m k → IsEntry groups n m k
  entry_here n m k p = (x, (i, lt, sym is), p)

  -- this group has all these fragments
  pub pairs_here : (fs : List FragmentFact) → ((g : FragmentFact) → Contains fs g → HasMember x.members (name_of g)) → HasPairs groups fs
  pairs_here fs each g h cg ch =
      let a = each g cg in
      let b = each h ch in (
        pair_of x a.0 b.0,
        entry_here (name_of g) (name_of h) (pair_of x a.0 b.0)
            (record { left = a.0; right = b.0; is_left = a.1; is_right = b.1; first = a.2; second = b.2; is = refl }),
      )

pub has_not : (x y : KeptGroup) (n m : List ℕ) (b : Bool) → b ≡ false → y ≡ x → MatchBool b ((k : KeptPair) × IsPairIn y n m k) ((k : KeptPair) → IsPairIn y n m k → ⊥) → (k : KeptPair) → IsPairIn x n m k → ⊥
has_not x y n m true e s v = absurd (cc e)
has_not x y n m false e s v = subst (λ (z : KeptGroup). (k : KeptPair) → IsPairIn z n m k → ⊥) s v

pub none_all : (groups : List KeptGroup) (i : ℕ) (n m : List ℕ) → length groups ≤ i → ((k : KeptPair) → IsEntry (take i groups) n m k → ⊥) → (k : KeptPair) → IsEntry groups n m k → ⊥
none_all groups i n m le never = subst (λ (gs : List KeptGroup). (k : KeptPair) → IsEntry gs n m k → ⊥) (take_all i groups le) never

pub not_found : (x y : KeptGroup) (n m : List ℕ) (o : Option KeptPair) → is_some o ≡ false → y ≡ x → MatchOption o ((k : KeptPair) → IsPairIn y n m k → ⊥) (λ p. IsPairIn y n m p) → (k : KeptPair) → IsPairIn x n m k → ⊥
not_found x y n m (Some p) e s v = absurd (cc e)
not_found x y n m None e s v = subst (λ (z : KeptGroup). (k : KeptPair) → IsPairIn z n m k → ⊥) s v

-- what is found in the groups of a table
pub as_entry : (groups table : List KeptGroup) (n m : List ℕ) (o : Option KeptPair) → groups ≡ table → MatchOption o ((k : KeptPair) → IsEntry groups n m k → ⊥) (λ p. IsEntry groups n m p)
    → MatchOption o (HasPair table n m → ⊥) (λ p. IsEntry table n m p)
as_entry groups table n m (Some p) e v = subst (λ (gs : List KeptGroup). IsEntry gs n m p) e v
as_entry groups table n m None e v = λ h. v h.0 (subst (λ (gs : List KeptGroup). IsEntry gs n m h.0) (sym e) h.1)

-- ---- a group of these fragments

pub pair_of_two : (x : KeptGroup) (fs : List FragmentFact) → map (λ (m : KeptFragment). m.fragment) x.members ≡ fs → (g h : FragmentFact) → Contains fs g → Contains fs h → (k : KeptPair) × IsPairIn x (name_of g) (name_of h) k
pair_of_two x fs e g h cg ch =
    let a = Contains-map_from (λ (m : KeptFragment). m.fragment) x.members g (subst (λ (l : List FragmentFact). Contains l g) (sym e) cg) in
    let b = Contains-map_from (λ (m : KeptFragment). m.fragment) x.members h (subst (λ (l : List FragmentFact). Contains l h) (sym e) ch) in
    (pair_of x a.0 b.0, record { left = a.0; right = b.0; is_left = a.1; is_right = b.1; first = ap name_of a.2; second = ap name_of b.2; is = refl })

-- ---- the fragments of two names

module _ (F : Facts) (k : KeptPair) (g h : FragmentFact) (is_g : F (key.FragmentOf (name_of g)) ≡ fact.Fragment g) (is_h : F (key.FragmentOf (name_of h)) ≡ fact.Fragment h) (judges : JudgesPair F (name_of g) (name_of h) k) where
  left_is : judges.left ≡ g
  left_is = let e : fact.Fragment judges.left ≡ fact.Fragment g = sym judges.is_left ∙ is_g in cc e

  right_is : judges.right ≡ h
  right_is = let e : fact.Fragment judges.right ≡ fact.Fragment h = sym judges.is_right ∙ is_h in cc e

  pub judged_bad : Lists k.bad (IsBadBetween F g h)
  judged_bad = subst (λ (z : FragmentFact). Lists k.bad (IsBadBetween F z h)) left_is (subst (λ (z : FragmentFact). Lists k.bad (IsBadBetween F judges.left z)) right_is judges.bad)

  pub judged_keys : Lists (keys_of k.observations) (PairReads F g h)
  judged_keys = subst (λ (z : FragmentFact). Lists (keys_of k.observations) (PairReads F z h)) left_is (subst (λ (z : FragmentFact). Lists (keys_of k.observations) (PairReads F judges.left z)) right_is judges.keys)

-- a definition that is a fragment is no other one
pub same_fragment : (f g : FragmentFact) → definition_of f ≡ definition_of g → f ≡ g
same_fragment f g e =
    let a : f.file ≡ g.file = ap (λ (d : Definition). d.file) e in
    let b : tree.Fragment f.fragment ≡ tree.Fragment g.fragment = ap (λ (d : Definition). d.tree) e in
    let c : f.fragment ≡ g.fragment = cc b in
    subst (λ y. f ≡ (record { file = g.file; fragment = y })) c (subst (λ x. f ≡ (record { file = x; fragment = f.fragment })) a refl)

pub own_name_of : (F : Facts) (d : Definition) (f : FragmentFact) → d ≡ definition_of f → (g : FragmentFact) × (d ≡ definition_of g) × IsFragmentOfName F g → IsFragmentOfName F f
own_name_of F d f e h = subst (IsFragmentOfName F) (same_fragment h.0 f (sym h.1 ∙ e)) h.2

-- a pair that is found
module _ (table : List KeptGroup) (n m : List ℕ) (o : Option KeptPair) (value : MatchOption o (HasPair table n m → ⊥) (λ p. IsEntry table n m p)) where
  pub some_entry : (p : KeptPair) → o ≡ Some p → IsEntry table n m p
  some_entry p e = subst (λ (z : Option KeptPair). MatchOption z (HasPair table n m → ⊥) (λ q. IsEntry table n m q)) e value

pub is_found : (table : List KeptGroup) (n m : List ℕ) (o : Option KeptPair) → HasPair table n m → MatchOption o (HasPair table n m → ⊥) (λ p. IsEntry table n m p) → IsSome o
is_found table n m (Some p) has v = refl
is_found table n m None has v = absurd (v has)

pub some_certified : (n m : List ℕ) (o : Option KeptPair) (p : KeptPair) → o ≡ Some p → IfSome o (λ q. IsPairCertified n m q) → IsPairCertified n m p
some_certified n m o p e v = subst (λ (z : Option KeptPair). IfSome z (λ q. IsPairCertified n m q)) e v

-- it is what clashes between the two fragments that the definitions are
module _ (F : Facts) (d e : Definition) (f1 f2 : FragmentFact) (is_first : d ≡ definition_of f1) (is_second : e ≡ definition_of f2) (named : IsFragmentOfName F f1) (named2 : IsFragmentOfName F f2)
    (k : KeptPair) (hold : Hold F k.observations) (certificate : IsPairCertified (name_of f1) (name_of f2) k) where
  pub bad_right : (g h : FragmentFact) → d ≡ definition_of g → e ≡ definition_of h → Lists k.bad (IsBadBetween F g h)
  bad_right g h eg eh =
      subst (λ (z : FragmentFact). Lists k.bad (IsBadBetween F z h)) (same_fragment f1 g (sym is_first ∙ eg))
      (subst (λ (z : FragmentFact). Lists k.bad (IsBadBetween F f1 z)) (same_fragment f2 h (sym is_second ∙ eh)) (judged_bad F k f1 f2 named named2 (certificate F hold)))

  pub keys_right : (g h : FragmentFact) → d ≡ definition_of g → e ≡ definition_of h → Lists (keys_of k.observations) (PairReads F g h)
  keys_right g h eg eh =
      subst (λ (z : FragmentFact). Lists (keys_of k.observations) (PairReads F z h)) (same_fragment f1 g (sym is_first ∙ eg))
      (subst (λ (z : FragmentFact). Lists (keys_of k.observations) (PairReads F f1 z)) (same_fragment f2 h (sym is_second ∙ eh)) (judged_keys F k f1 f2 named named2 (certificate F hold)))
