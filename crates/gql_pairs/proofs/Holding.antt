-- What was observed of a member, part by part.
use Rattle.std.specs.Prelude.{◌≡◌, ◌<◌, ◌≤◌, ◌+◌, ℕ, List, ◌∷◌, ◌++◌, length, Bool, true, false, MatchBool, Contains}
use Rattle.std.proofs.Common.{sym, subst, inl, inr, get_or, take}
use Rattle.std.proofs.lemmas.List.{take_all}
use Rattle.std.proofs.lemmas.List.Elements.{Contains-append_left, Contains-append_right, Contains-append_cases}
use Rattle.gql_facts.specs.ListMembers.{Contains-cases, Contains-flat_map, Contains-flat_map_from, Contains-here, Contains-there}
use Rattle.gql_facts.specs.Worlds.{Facts}
use Rattle.gql_facts.specs.declared.fact.Fact.TheVariants as fact
use Rattle.gql_facts.specs.declared.fact.FragmentFact.{FragmentFact}
use Rattle.gql_facts.specs.declared.key.Key.TheVariants as key
use Rattle.gql_merge.specs.Between.{name_of}
use Rattle.gql_reads.proofs.Takes.{seen_more}
use Rattle.gql_reads.specs.Observations.{Hold, IsBroken, observed_in}
use Rattle.gql_reads.specs.Readings.{own_name, seen_in}
use Rattle.gql_reads.specs.Records.{Kept}
use Rattle.gql_reads.specs.declared.observation.Observation.{Observation}

-- the parts of a member
module _ (F : Facts) (parts : List Kept) (i : ℕ) (p : Kept) (lt : i < length parts) (is : p ≡ get_or parts i p) where
  pub part_broken : IsBroken F (observed_in p.seen) → IsBroken F (seen_in parts)
  part_broken b = (b.0, Contains-flat_map (λ (q : Kept). observed_in q.seen) parts p b.0 (i, lt, sym is) b.1, b.2)

  pub part_more : Hold F (seen_in (take i parts)) → Hold F (observed_in p.seen) → Hold F (seen_in (take (i + 1) parts))
  part_more before here o c =
      let r = Contains-flat_map_from (λ (q : Kept). observed_in q.seen) (take (i + 1) parts) o c in
      elim (seen_more parts i p lt is r.0 r.1) [
        | inl s ↦ before o (Contains-flat_map (λ (q : Kept). observed_in q.seen) (take i parts) r.0 o s r.2)
        | inr e ↦ here o (subst (λ (q : Kept). Contains (observed_in q.seen) o) (sym e) r.2)
      ]

pub parts_all : (F : Facts) (parts : List Kept) (i : ℕ) → length parts ≤ i → Hold F (seen_in (take i parts)) → Hold F (seen_in parts)
parts_all F parts i le h = subst (λ ps. Hold F (seen_in ps)) (take_all i parts le) h

-- the name, the own reads and the parts
module _ (F : Facts) (g : FragmentFact) (own parts : List Observation) where
  pub all_hold : F (key.FragmentOf (name_of g)) ≡ fact.Fragment g → Hold F own → Hold F parts → Hold F (own_name g ∷ (own ++ parts))
  all_hold named a b o c = elim (Contains-cases o (own_name g) (own ++ parts) c) [
    | inl e ↦ subst (λ (p : Observation). F p.key ≡ p.fact) (sym e) named
    | inr t ↦ elim (Contains-append_cases own parts o t) [ inl i ↦ a o i | inr i ↦ b o i ]
  ]

  pub name_broken : (F (key.FragmentOf (name_of g)) ≡ fact.Fragment g → ⊥) → IsBroken F (own_name g ∷ (own ++ parts))
  name_broken never = (own_name g, Contains-here (own_name g) (own ++ parts), never)

  pub own_broken : IsBroken F own → IsBroken F (own_name g ∷ (own ++ parts))
  own_broken b = (b.0, Contains-there b.0 (own_name g) (own ++ parts) (Contains-append_left own parts b.0 b.1), b.2)

  pub parts_broken : IsBroken F parts → IsBroken F (own_name g ∷ (own ++ parts))
  parts_broken b = (b.0, Contains-there b.0 (own_name g) (own ++ parts) (Contains-append_right own parts b.0 b.1), b.2)

  pub either_way : (b : Bool) (os : List Observation) → os ≡ own_name g ∷ (own ++ parts) → F (key.FragmentOf (name_of g)) ≡ fact.Fragment g → Hold F own → MatchBool b (Hold F parts) (IsBroken F parts) → MatchBool b (Hold F os) (IsBroken F os)
  either_way true os is named a h = subst (λ l. Hold F l) (sym is) (all_hold named a h)
  either_way false os is named a b = subst (λ l. IsBroken F l) (sym is) (parts_broken b)
