-- Own reads depend on themselves alone, and what a definition reads is its own reads and those of
-- the fragments that it reaches.
use Rattle.std.proofs.Common.{◌≡◌, ◌⊎◌, inl, inr, sym, subst, Contains}
use Rattle.gql_ast.specs.declared.definition.Definition.{Definition}
use Rattle.gql_ast.specs.declared.definition.Tree.{Tree}
use Rattle.gql_facts.specs.declared.fact.FragmentFact.{FragmentFact}
use Rattle.gql_facts.specs.declared.key.Key.{Key}
use Rattle.gql_facts.specs.Floats.{float_read}
use Rattle.gql_facts.specs.ListMembers.{Contains-cases, Contains-here, Contains-there}
use Rattle.gql_facts.specs.OwnReads.{executable_reads, fragment_reads, own_reads, tree_reads}
use Rattle.gql_facts.specs.Reads.{Reaches, Reads, own, of_fragment, of_type, types_in}
use Rattle.gql_facts.specs.Worlds.{Facts}
use Rattle.gql_facts.proofs.Agreement.{tree_same}
use Rattle.gql_reads.specs.Own.{AgreeOwn, Own, by_node, by_type, tree_of}

-- ---- own reads alone

module _ (v u : Facts) (t : Tree) (agree : AgreeOwn v u t) where
  same_reads : tree_reads u t ≡ tree_reads v t
  same_reads = tree_same v u t (λ k c. agree k (by_node c))

  pub own_there : {k : Key} → Own v t k → Own u t k
  own_there (by_node {k} c) = by_node (subst (λ l. Contains l k) (sym same_reads) c)
  own_there (by_type {j} {k} {n} o c h) = by_type (own_there o) (subst (λ f. Contains (types_in f) n) (sym (agree j o)) c) h

  pub own_back : {k : Key} → Own u t k → Own v t k
  own_back (by_node {k} c) = by_node (subst (λ l. Contains l k) same_reads c)
  own_back (by_type {j} {k} {n} o c h) = let b = own_back o in by_type b (subst (λ f. Contains (types_in f) n) (agree j b) c) h

-- ---- all that a definition reads

module _ (F : Facts) (d : Definition) where
  pub own_read : {k : Key} → Own F d.tree k → Reads F d k
  own_read (by_node {k} c) = own c
  own_read (by_type {j} {k} {n} o c h) = of_type (own_read o) c h

  pub fragment_read : {g : FragmentFact} {k : Key} → Reaches F d g → Own F (tree_of g) k → Reads F d k
  fragment_read {g} {k} r (by_node c) = elim (Contains-cases k float_read (fragment_reads F g.fragment) c) [
    | inl e ↦ own (subst (Contains (own_reads F d)) (sym e) (Contains-here float_read (executable_reads F d.tree)))
    | inr h ↦ of_fragment r h
  ]
  fragment_read {g} {k} r (by_type o c h) = of_type (fragment_read r o) c h

  pub split : {k : Key} → Reads F d k → Own F d.tree k ⊎ ((g : FragmentFact) × Reaches F d g × Own F (tree_of g) k)
  split (own {k} c) = inl (by_node c)
  split (of_fragment {g} {k} r c) = inr (g, r, by_node (Contains-there k float_read (fragment_reads F g.fragment) c))
  split (of_type {j} {k} {t} r c h) = elim (split r) [
    | inl o ↦ inl (by_type o c h)
    | inr q ↦ inr (q.0, q.1, by_type q.2 c h)
  ]

  pub joined : {k : Key} → Own F d.tree k ⊎ ((g : FragmentFact) × Reaches F d g × Own F (tree_of g) k) → Reads F d k
  joined (inl o) = own_read o
  joined (inr q) = fragment_read q.1 q.2
