-- The places of fragments by their names.
use Rattle.std.specs.Prelude.{◌≡◌, ◌<◌, ◌≤◌, ◌+◌, ℕ, List, [], length, take, bytes_eq, cond, true, false, Option, Some, None, Contains, refl}
use Rattle.std.specs.List.{slice_get}
use Rattle.std.specs.Map.{update}
use Rattle.std.proofs.Common.{ap, sym, ◌∙◌, subst, inl, inr, get_or}
use Rattle.std.proofs.lemmas.List.{take_all}
use Rattle.std.proofs.lemmas.List.Elements.{Contains-get_or}
use Rattle.std.proofs.lemmas.Option.{get_or_from_slice_get, slice_get_read, slice_get_within}
use Rattle.std.proofs.lemmas.Slice.Eq.{bytes_eq-Decides}
use Rattle.gql_facts.specs.ListMembers.{Contains-nil, either}
use Rattle.gql_facts.specs.Worlds.{Facts}
use Rattle.gql_facts.specs.declared.fact.Fact.TheVariants as fact
use Rattle.gql_facts.specs.declared.fact.FragmentFact.{FragmentFact}
use Rattle.gql_facts.specs.declared.key.Key.TheVariants as key
use Rattle.gql_single_root.specs.Walks.{ArePlaces, IsPlaceAt, fragment_name}
use Rattle.gql_single_root.proofs.Lists.{taken_cases}

pub places_none : (members seen : List FragmentFact) (f : List ℕ → Option ℕ) → seen ≡ [] → ((q : List ℕ) → f q ≡ None) → ArePlaces members seen f
places_none members seen f empty none q = subst (IsPlaceAt members seen q) (sym (none q)) (λ g c e. Contains-nil g (subst (λ l. Contains l g) empty c))

same_place : (members seen : List FragmentFact) (i : ℕ) (g : FragmentFact) (q : List ℕ) (o : Option ℕ) → i < length seen → get_or seen i g ≡ g
    → bytes_eq (fragment_name g) q ≡ false → IsPlaceAt members (take i seen) q o → IsPlaceAt members (take (i + 1) seen) q o
same_place members seen i g q None within item other at = λ h c e. elim (taken_cases seen i g h within item c) [
  | inl a ↦ at h a e
  | inr s ↦ absurd (let t = (bytes_eq-Decides (fragment_name g) q).1 (ap fragment_name (sym s) ∙ e) in let f : true ≡ false = sym t ∙ other in cc f)
]
same_place members seen i g q (Some k) within item other at = at

pub places_more : (members : List FragmentFact) (i : ℕ) (g : FragmentFact) (bs : List ℕ) (f h : List ℕ → Option ℕ) → i < length members → g ≡ get_or members i g
    → bs ≡ fragment_name g → ((q : List ℕ) → h q ≡ update bytes_eq f bs (Some i) q)
    → ArePlaces members (take i members) f → ArePlaces members (take (i + 1) members) h
places_more members i g bs f h within item named is before q = elim (either (bytes_eq bs q)) [
  | inl t ↦ subst (IsPlaceAt members (take (i + 1) members) q) (sym (is q ∙ ap (λ b. cond b (Some i) (f q)) t))
      (g, slice_get_read members (length members) i g refl within item, sym named ∙ (bytes_eq-Decides bs q).0 t)
  | inr n ↦ subst (IsPlaceAt members (take (i + 1) members) q) (sym (is q ∙ ap (λ b. cond b (Some i) (f q)) n))
      (same_place members members i g q (f q) within (sym item) (ap (λ x. bytes_eq x q) (sym named) ∙ n) (before q))
]

pub places_all : (members : List FragmentFact) (i : ℕ) (f : List ℕ → Option ℕ) → length members ≤ i → ArePlaces members (take i members) f → ArePlaces members members f
places_all members i f le a = subst (λ l. ArePlaces members l f) (take_all i members le) a

pub has_at : (members : List FragmentFact) (i : ℕ) (g : FragmentFact) → slice_get members i ≡ Some g → Contains members g
has_at members i g e = subst (Contains members) (get_or_from_slice_get members i g g e) (Contains-get_or members i g (slice_get_within members i g e))

module _ (members : List FragmentFact) (place : List ℕ → Option ℕ) (at : ArePlaces members members place)
    (F : Facts) (owned : (g : FragmentFact) → Contains members g → F (key.FragmentOf (fragment_name g)) ≡ fact.Fragment g)
    (named : (n : List ℕ) (g : FragmentFact) → F (key.FragmentOf n) ≡ fact.Fragment g → fragment_name g ≡ n) where
  one : (n : List ℕ) (g h : FragmentFact) → F (key.FragmentOf n) ≡ fact.Fragment g → Contains members h → fragment_name h ≡ n → h ≡ g
  one n g h e c s = let k : fact.Fragment h ≡ fact.Fragment g = sym (owned h c) ∙ ap (λ m. F (key.FragmentOf m)) s ∙ e in cc k

  abbrev pub HasOwn : List ℕ → FragmentFact → Type 0
  HasOwn n g = (i : ℕ) × (place n ≡ Some i) × (slice_get members i ≡ Some g)

  place_by : (n : List ℕ) (g : FragmentFact) → F (key.FragmentOf n) ≡ fact.Fragment g → Contains members g → (o : Option ℕ) → place n ≡ o → IsPlaceAt members members n o
      → HasOwn n g
  place_by n g e c None is p = absurd (p g c (named n g e))
  place_by n g e c (Some i) is p = (i, is, subst (λ x. slice_get members i ≡ Some x) (one n g p.0 e (has_at members i p.0 p.1) p.2) p.1)

  -- the place of the fragment of a name
  pub place_is : (n : List ℕ) (g : FragmentFact) → F (key.FragmentOf n) ≡ fact.Fragment g → Contains members g → HasOwn n g
  place_is n g e c = place_by n g e c (place n) refl (at n)

  -- the fragment at the place of a name
  pub at_name : (n : List ℕ) (i : ℕ) → place n ≡ Some i → (g : FragmentFact) × (slice_get members i ≡ Some g) × (F (key.FragmentOf n) ≡ fact.Fragment g)
  at_name n i e =
      let p : IsPlaceAt members members n (Some i) = subst (IsPlaceAt members members n) e (at n) in
      (p.0, p.1, subst (λ m. F (key.FragmentOf m) ≡ fact.Fragment p.0) p.2 (owned p.0 (has_at members i p.0 p.1)))
