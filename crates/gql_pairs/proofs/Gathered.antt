-- Fragments that are gathered, one after another.
use Rattle.std.specs.Prelude.{◌≡◌, ◌⊎◌, ◌<◌, ◌≤◌, ◌+◌, ℕ, List, [], ◌∷◌, ◌++◌, map, flat_map, length, bytes_eq, true, refl, Contains}
use Rattle.std.specs.List.{list_any}
use Rattle.std.proofs.Common.{ap, sym, ◌∙◌, subst, inl, inr, get_or, take}
use Rattle.std.proofs.lemmas.List.{take_all}
use Rattle.std.proofs.lemmas.List.Elements.{Contains-append_left, Contains-push, Contains-push_cases}
use Rattle.indexmap.specs.IndexSet.{insert_key}
use Rattle.gql_facts.specs.ListMembers.{Contains-cases, Contains-flat_map, Contains-flat_map_from, Contains-here, Contains-nil, Contains-there}
use Rattle.gql_facts.specs.declared.fact.FragmentFact.{FragmentFact}
use Rattle.gql_merge.proofs.CleanNames.{name_added, name_there}
use Rattle.gql_merge.specs.Between.{name_of}
use Rattle.gql_reads.proofs.Takes.{one_more, seen_more}
use Rattle.gql_pairs.specs.Fragments.{KeptFragment, with_reached}
use Rattle.gql_pairs.specs.Gathering.{AreNames, Gathers}

pub gathers_then : (P Q R : FragmentFact → Type 0) (a b c : List FragmentFact) → ((g : FragmentFact) → R g → P g ⊎ Q g) → ((g : FragmentFact) → P g → R g) → ((g : FragmentFact) → Q g → R g)
    → Gathers P a b → Gathers Q b c → Gathers R a c
gathers_then P Q R a b c cases left right p q = record {
  kept = λ g k. q.kept g (p.kept g k);
  from = λ g k. elim (q.from g k) [
    | inl o ↦ elim (p.from g o) [ inl i ↦ inl i | inr h ↦ inr (left g h) ]
    | inr h ↦ inr (right g h)
  ];
  has = λ g r. elim (cases g r) [
    | inl h ↦ let k = p.has g h in (k.0, q.kept k.0 k.1, k.2)
    | inr h ↦ q.has g h
  ];
}

pub gathers_none : (P : FragmentFact → Type 0) (old : List FragmentFact) → ((g : FragmentFact) → P g → ⊥) → Gathers P old old
gathers_none P old never = record { kept = λ g c. c; from = λ g c. inl c; has = λ g h. absurd (never g h) }

-- one fragment
module _ (names : List (List ℕ)) (found : List FragmentFact) (are : AreNames names found) (x : FragmentFact) where
  pub was_found : list_any (bytes_eq (name_of x)) names ≡ true → Gathers (λ g. g ≡ x) found found
  was_found e = record {
    kept = λ g c. c;
    from = λ g c. inl c;
    has = λ g s. let h = are (name_of x) (name_there names (name_of x) e) in (h.0, h.1, h.2 ∙ sym (ap name_of s));
  }

  pub now_found : (new : List FragmentFact) → new ≡ found ++ x ∷ [] → Gathers (λ g. g ≡ x) found new
  now_found new is = rw is (record {
    kept = λ g c. Contains-append_left found (x ∷ []) g c;
    from = λ g c. elim (Contains-push_cases found x g c) [ inl o ↦ inl o | inr e ↦ inr (sym e) ];
    has = λ g s. (x, Contains-push found x, sym (ap name_of s));
  })

  pub now_named : (keys : List (List ℕ)) (new : List FragmentFact) → keys ≡ insert_key bytes_eq names (name_of x) → new ≡ found ++ x ∷ [] → AreNames keys new
  now_named keys new put is n c = elim ((name_added names keys (name_of x) put).from n c) [
    | inl o ↦ let h = are n o in (h.0, subst (λ l. Contains l h.0) (sym is) (Contains-append_left found (x ∷ []) h.0 h.1), h.2)
    | inr e ↦ (x, subst (λ l. Contains l x) (sym is) (Contains-push found x), sym e)
  ]

-- a loop over things that have fragments
module _ {A : Type 0} (of : A → List FragmentFact) (xs : List A) (i : ℕ) (x : A) (lt : i < length xs) (is : x ≡ get_or xs i x) (a b c : List FragmentFact) where
  pub gathers_more : Gathers (Contains (flat_map of (take i xs))) a b → Gathers (Contains (of x)) b c → Gathers (Contains (flat_map of (take (i + 1) xs))) a c
  gathers_more = gathers_then (Contains (flat_map of (take i xs))) (Contains (of x)) (Contains (flat_map of (take (i + 1) xs))) a b c
      (λ g h.
      let r = Contains-flat_map_from of (take (i + 1) xs) g h in
      elim (seen_more xs i x lt is r.0 r.1) [
        | inl s ↦ inl (Contains-flat_map of (take i xs) r.0 g s r.2)
        | inr e ↦ inr (subst (λ z. Contains (of z) g) (sym e) r.2)
      ])
      (λ g h.
      let r = Contains-flat_map_from of (take i xs) g h in
      Contains-flat_map of (take (i + 1) xs) r.0 g (subst (λ zs. Contains zs r.0) (sym (one_more xs i x lt is)) (Contains-append_left (take i xs) (x ∷ []) r.0 r.1)) r.2)
      (λ g h. Contains-flat_map of (take (i + 1) xs) x g (subst (λ zs. Contains zs x) (sym (one_more xs i x lt is)) (Contains-push (take i xs) x)) h)

pub gathers_all : {A : Type 0} (of : A → List FragmentFact) (xs : List A) (i : ℕ) (a b : List FragmentFact) → length xs ≤ i → Gathers (Contains (flat_map of (take i xs))) a b → Gathers (Contains (flat_map of xs)) a b
gathers_all of xs i a b le g = subst (λ zs. Gathers (Contains (flat_map of zs)) a b) (take_all i xs le) g

pub gathers_first : {A : Type 0} (of : A → List FragmentFact) (xs : List A) (a b : List FragmentFact) → b ≡ a → Gathers (Contains (flat_map of (take 0 xs))) a b
gathers_first of [] a b e = rw e (gathers_none (Contains []) a (λ g c. Contains-nil g c))
gathers_first of (x ∷ xs) a b e = rw e (gathers_none (Contains []) a (λ g c. Contains-nil g c))

-- a fragment alone as a list
pub alone : {A : Type 0} (f : A → FragmentFact) (xs : List A) → flat_map (λ x. f x ∷ []) xs ≡ map f xs
alone f [] = refl
alone f (x ∷ xs) = ap (λ l. f x ∷ l) (alone f xs)

pub one_of : (x : FragmentFact) (a b : List FragmentFact) → Gathers (λ g. g ≡ x) a b → Gathers (Contains (x ∷ [])) a b
one_of x a b k = record {
  kept = k.kept;
  from = λ g c. elim (k.from g c) [ inl o ↦ inl o | inr e ↦ inr (subst (Contains (x ∷ [])) (sym e) (Contains-here x [])) ];
  has = λ g c. elim (Contains-cases g x [] c) [ inl e ↦ k.has g e | inr n ↦ absurd (Contains-nil g n) ];
}

-- a fragment, and then those that it reaches
pub gathers_reached : (x : KeptFragment) (a b c : List FragmentFact) → Gathers (λ g. g ≡ x.fragment) a b → Gathers (Contains x.reached) b c → Gathers (Contains (with_reached x)) a c
gathers_reached x a b c = gathers_then (λ g. g ≡ x.fragment) (Contains x.reached) (Contains (with_reached x)) a b c
    (λ g h. Contains-cases g x.fragment x.reached h)
    (λ g e. subst (Contains (with_reached x)) (sym e) (Contains-here x.fragment x.reached))
    (λ g h. Contains-there g x.fragment x.reached h)

-- the fragments of members, one more
pub mapped_more : (fs : List FragmentFact) (i : ℕ) (f : FragmentFact) → i < length fs → f ≡ get_or fs i f → (old : List KeptFragment) (x : KeptFragment) (new : List KeptFragment) → new ≡ old ++ x ∷ [] → x.fragment ≡ f
    → map (λ (m : KeptFragment). m.fragment) old ≡ take i fs → map (λ (m : KeptFragment). m.fragment) new ≡ take (i + 1) fs
mapped_more fs i f lt is old x new pushed e so_far = ap (map (λ (m : KeptFragment). m.fragment)) pushed ∙ map_end old x
    ∙ ap (λ l. l ++ x.fragment ∷ []) so_far ∙ ap (λ z. take i fs ++ z ∷ []) e ∙ sym (one_more fs i f lt is)
  where
    map_end : (xs : List KeptFragment) (y : KeptFragment) → map (λ (m : KeptFragment). m.fragment) (xs ++ y ∷ []) ≡ map (λ (m : KeptFragment). m.fragment) xs ++ y.fragment ∷ []
    map_end [] y = refl
    map_end (z ∷ xs) y = ap (λ l. z.fragment ∷ l) (map_end xs y)
