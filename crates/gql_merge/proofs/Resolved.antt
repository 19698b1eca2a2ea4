-- The numbers of fragments are right for the names that are spread.
use Rattle.std.specs.Prelude.{◌≡◌, ◌+◌, ◌<◌, ℕ, zero, suc, List, [], ◌∷◌, ◌++◌, map, flat_map, length, refl, Option, Some, None, Contains}
use Rattle.std.specs.List.{range_with_len}
use Rattle.std.proofs.Common.{ap, sym, ◌∙◌, subst, inl, inr, get_or, arith}
use Rattle.std.proofs.Math.Numerals.{suc-eq-add-one}
use Rattle.std.proofs.Math.Seq.{get_or-append_seam}
use Rattle.std.proofs.lemmas.List.{length-append}
use Rattle.std.proofs.lemmas.List.Elements.{Contains-append_cases}
use Rattle.std.proofs.lemmas.Option.{get_or_from_slice_get, slice_get_within}
use Rattle.gql_ast.specs.declared.definition.Definition.{Definition}
use Rattle.gql_facts.specs.ListMembers.{Contains-cases, Contains-flat_map_from, Contains-nil}
use Rattle.gql_facts.specs.Members.{Lists}
use Rattle.gql_facts.specs.Reads.{Reaches, by_definition, by_fragment}
use Rattle.gql_facts.specs.Worlds.{Facts, IsWorld}
use Rattle.gql_facts.specs.declared.fact.Fact.{Fact}
use Rattle.gql_facts.specs.declared.fact.Fact.TheVariants as fact
use Rattle.gql_facts.specs.declared.fact.FragmentFact.{FragmentFact}
use Rattle.gql_facts.specs.declared.key.Key.TheVariants as key
use Rattle.gql_merge.proofs.Appending.{append_assoc}
use Rattle.gql_merge.proofs.FlatNodes.{empty_set, set_at}
use Rattle.gql_merge.proofs.Matching.{AreInside, AreResolved}
use Rattle.gql_merge.proofs.NamesRead.{of_fragment_asked, of_tree_asked}
use Rattle.gql_merge.specs.FieldNodes.{SetNode, names_spread}
use Rattle.gql_merge.specs.FieldSets.{list_of}
use Rattle.gql_merge.specs.Flattened.{IsIndex, IsIndexAt, all_sets, fragment_sets}
use Rattle.gql_merge.specs.MergedNodes.{fragment_set, sets_by, sets_in, sets_named}
use Rattle.gql_merge.specs.Numbers.{numbers_to}

-- the first sets, by their numbers
first_map : (pre own rest : List SetNode) → map (λ i. get_or (pre ++ (own ++ rest)) i empty_set) (range_with_len (length pre) (length own)) ≡ own
first_map pre [] rest = refl
first_map pre (s ∷ own) rest =
    let more = pre ++ s ∷ [] in
    let there : more ++ (own ++ rest) ≡ pre ++ (s ∷ (own ++ rest)) = append_assoc pre (s ∷ []) (own ++ rest) in
    let at : length more ≡ length pre + 1 = length-append pre (s ∷ []) in
    ap (λ t. t ∷ map (λ i. get_or (pre ++ (s ∷ (own ++ rest))) i empty_set) (range_with_len (length pre + 1) (length own))) (get_or-append_seam pre s (own ++ rest) empty_set)
    ∙ ap (λ l. s ∷ map (λ i. get_or l i empty_set) (range_with_len (length pre + 1) (length own))) (sym there)
    ∙ ap (λ n. s ∷ map (λ i. get_or (more ++ (own ++ rest)) i empty_set) (range_with_len n (length own))) (sym at)
    ∙ ap (λ l. s ∷ l) (first_map more own rest)

-- numbers, one more
range_end : (a n : ℕ) → range_with_len a (suc n) ≡ range_with_len a n ++ (a + n) ∷ []
range_end a zero = ap (λ k. k ∷ []) (let e : a ≡ a + 0 = omega arith in e)
range_end a (suc n) = ap (λ l. a ∷ l) (range_end (a + 1) n) ∙ ap (λ k. a ∷ (range_with_len (a + 1) n ++ k ∷ [])) (let e : a + 1 + n ≡ a + suc n = omega arith in e)

pub numbers_more : (n : ℕ) → numbers_to (n + 1) ≡ numbers_to n ++ n ∷ []
numbers_more n = ap (range_with_len 0) (sym (suc-eq-add-one n)) ∙ range_end 0 n ∙ ap (λ k. range_with_len 0 n ++ k ∷ []) (let e : 0 + n ≡ n = omega arith in e)

range_below : (a n s : ℕ) → Contains (range_with_len a n) s → s < a + n
range_below a zero s c = absurd (Contains-nil s c)
range_below a (suc n) s c = elim (Contains-cases s a (range_with_len (a + 1) n) c) [
  | inl e ↦ omega (arith, e)
  | inr t ↦ let h = range_below (a + 1) n s t in omega (arith, h)
]

pub numbers_below : (n s : ℕ) → Contains (numbers_to n) s → s < n
numbers_below n s c = let h = range_below 0 n s c in omega (arith, h)

pub seeds_are : (own rest : List SetNode) (n : ℕ) → n ≡ length own → map (set_at (own ++ rest)) (numbers_to n) ≡ own
seeds_are own rest n e = ap (λ k. map (set_at (own ++ rest)) (range_with_len 0 k)) e ∙ first_map [] own rest

module _ (F : Facts) (all : List (List ℕ)) (world : IsWorld F all) (d : Definition) (members : List FragmentFact) (reach : Lists members (Reaches F d))
    (number : List ℕ → Option ℕ) (index : IsIndex F (all_sets F d members) members number) where
  abbrev ns : List SetNode
  ns = all_sets F d members

  -- a fragment that is reached is the answer to its own name
  by_its_name : (m : List ℕ) (g : FragmentFact) → F (key.FragmentOf m) ≡ fact.Fragment g → F (key.FragmentOf g.fragment.name.text) ≡ fact.Fragment g
  by_its_name m g e = subst (λ n. F (key.FragmentOf n) ≡ fact.Fragment g) (sym (world.named m g e)) e

  pub own_name : {g : FragmentFact} → Reaches F d g → F (key.FragmentOf g.fragment.name.text) ≡ fact.Fragment g
  own_name (by_definition {n} {g} c e) = by_its_name n g e
  own_name (by_fragment {n} {f} {g} r c e) = by_its_name n g e

  -- and what a set names is reached
  reached : (s : SetNode) → Contains ns s → (n : List ℕ) → Contains (names_spread s) n → (g : FragmentFact) → F (key.FragmentOf n) ≡ fact.Fragment g → Reaches F d g
  reached s c n h g e = elim (Contains-append_cases (sets_in F d) (flat_map (fragment_sets F) members) s c) [
    | inl i ↦ by_definition (of_tree_asked F d.file d.tree s i n h) e
    | inr o ↦
        let r = Contains-flat_map_from (fragment_sets F) members s o in
        by_fragment (reach.sound r.0 r.1) (of_fragment_asked F r.0.file r.0.fragment s r.2 n h) e
  ]

  nothing : (f : Fact) → ((g : FragmentFact) → f ≡ fact.Fragment g → ⊥) → sets_by F f ≡ []
  nothing fact.Absent never = refl
  nothing (fact.Kind k) never = refl
  nothing (fact.Field x) never = refl
  nothing (fact.Possible x) never = refl
  nothing (fact.Input x) never = refl
  nothing (fact.Enum x) never = refl
  nothing (fact.Directive x) never = refl
  nothing (fact.Root x) never = refl
  nothing (fact.Fragment g) never = absurd (never g refl)

  right_at : (s : SetNode) → Contains ns s → (n : List ℕ) → Contains (names_spread s) n → (o : Option ℕ) → IsIndexAt F ns members n o
      → map (set_at ns) (list_of o) ≡ sets_named F n
  right_at s c n h None at = sym (nothing (F (key.FragmentOf n)) (λ g e. at g (reach.complete g (reached s c n h g e)) (world.named n g e)))
  right_at s c n h (Some i) at =
      let e : F (key.FragmentOf n) ≡ fact.Fragment at.0 = subst (λ m. F (key.FragmentOf m) ≡ fact.Fragment at.0) at.2 (own_name (reach.sound at.0 at.1)) in
      ap (λ t. t ∷ []) (get_or_from_slice_get ns i (fragment_set F at.0) empty_set at.3) ∙ ap (sets_by F) (sym e)

  pub resolved : AreResolved F ns number
  resolved s c n h = right_at s c n h (number n) (index n)

  pub inside : AreInside ns number
  inside n i e = let at : IsIndexAt F ns members n (Some i) = subst (λ o. IsIndexAt F ns members n o) e (index n) in
      slice_get_within ns i (fragment_set F at.0) at.3
