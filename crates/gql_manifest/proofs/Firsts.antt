-- The first fragment of each name, after one more fragment.
use Rattle.std.proofs.Common.{◌≡◌, ◌∙◌, ◌⊎◌, inl, inr, [], ◌∷◌, ◌++◌, ℕ, zero, suc, List, Bool, true, false, true≢false, Contains, append-nil, refl, sym, ap, subst, cond, not, bytes_eq, arith, filter}
use Rattle.std.proofs.lemmas.List.Elements.{filter-append}
use Rattle.std.proofs.lemmas.Slice.Eq.{bytes_eq-Decides}
use Rattle.gql_manifest.specs.Definitions.{firsts, others}
use Rattle.gql_manifest.specs.Fragments.{Fragment, IsFresh, IsKept}

-- the first of a list is in it
here : {X : Type 0} (x : X) (xs : List X) → Contains (x ∷ xs) x
here x xs = (0, omega arith, refl)

-- what is in the rest is in the list
later : {X : Type 0} (x : X) (xs : List X) (y : X) → Contains xs y → Contains (x ∷ xs) y
later x xs y there = (suc there.0, omega (arith, there.1), there.2)

-- what is in a list is the first or in the rest
cons_cases : {X : Type 0} (x : X) (xs : List X) (y : X) → Contains (x ∷ xs) y → (x ≡ y) ⊎ Contains xs y
cons_cases x xs y (zero, within, is) = inl is
cons_cases x xs y (suc k, within, is) = inr (k, omega (arith, within), is)

-- what passes is kept
in_filter : {X : Type 0} (p : X → Bool) (xs : List X) (x : X) → Contains xs x → p x ≡ true → Contains (filter p xs) x
in_filter p [] x there passes = absurd (omega (arith, there.1))
in_filter p (y ∷ ys) x there passes = elim (cons_cases y ys x there) [
  | inl first ↦ subst (λ b. Contains (cond b (y ∷ filter p ys) (filter p ys)) x) (sym (ap p first ∙ passes)) (subst (λ z. Contains (z ∷ filter p ys) x) (sym first) (here x (filter p ys)))
  | inr rest ↦ elim (p y) as (λ b. Contains (cond b (y ∷ filter p ys) (filter p ys)) x) [
    | true ↦ later y (filter p ys) x (in_filter p ys x rest passes)
    | false ↦ in_filter p ys x rest passes
  ]
]

-- what is kept was there
from_filter : {X : Type 0} (p : X → Bool) (xs : List X) (x : X) → Contains (filter p xs) x → Contains xs x
from_filter p [] x there = there
from_filter p (y ∷ ys) x there = by (p y) there (from_filter p ys x)
  where
    by : (b : Bool) → Contains (cond b (y ∷ filter p ys) (filter p ys)) x → (Contains (filter p ys) x → Contains ys x) → Contains (y ∷ ys) x
    by true c back = elim (cons_cases y (filter p ys) x c) [
      | inl first ↦ subst (λ z. Contains (z ∷ ys) x) (sym first) (here x ys)
      | inr rest ↦ later y ys x (back rest)
    ]
    by false c back = later y ys x (back c)

-- a fragment of the name goes
goes : (name : List ℕ) (fs : List Fragment) (f : Fragment) → bytes_eq f.name name ≡ true → others name (fs ++ f ∷ []) ≡ others name fs
goes name fs f same =
    filter-append (λ (g : Fragment). not (bytes_eq g.name name)) fs (f ∷ []) ∙ ap (λ b. others name fs ++ cond (not b) (f ∷ []) []) same ∙ append-nil (others name fs)

-- one of another name stays
stays : (name : List ℕ) (fs : List Fragment) (f : Fragment) → bytes_eq f.name name ≡ false → others name (fs ++ f ∷ []) ≡ others name fs ++ f ∷ []
stays name fs f other =
    filter-append (λ (g : Fragment). not (bytes_eq g.name name)) fs (f ∷ []) ∙ ap (λ b. others name fs ++ cond (not b) (f ∷ []) []) other

-- one of its name was there, and nothing changes
record Again (fs : List Fragment) (f : Fragment) : Type 0 where
  k : Fragment
  kept : IsKept f.name (firsts fs) k
  same : firsts (fs ++ f ∷ []) ≡ firsts fs

-- none of its name was there, and it stands at the end
record Anew (fs : List Fragment) (f : Fragment) : Type 0 where
  fresh : IsFresh f.name (firsts fs)
  added : firsts (fs ++ f ∷ []) ≡ firsts fs ++ f ∷ []

first_step : (g : Fragment) (fs : List Fragment) (f : Fragment) (b : Bool) → bytes_eq f.name g.name ≡ b → Again fs f ⊎ Anew fs f → Again (g ∷ fs) f ⊎ Anew (g ∷ fs) f
first_step g fs f true same old = inl (record {
  k = g;
  kept = (here g (others g.name (firsts fs)), sym ((bytes_eq-Decides f.name g.name).0 same));
  same = elim old [
    | inl again ↦ ap (λ r. g ∷ others g.name r) again.same
    | inr anew ↦ ap (λ r. g ∷ others g.name r) anew.added ∙ ap (λ r. g ∷ r) (goes g.name (firsts fs) f same)
  ];
})
first_step g fs f false other old = elim old [
  | inl again ↦ inl (record {
    k = again.k;
    kept = (
      later g (others g.name (firsts fs)) again.k
          (in_filter (λ (h : Fragment). not (bytes_eq h.name g.name)) (firsts fs) again.k again.kept.0 (ap (λ n. not (bytes_eq n g.name)) again.kept.1 ∙ ap not other)),
      again.kept.1,
    );
    same = ap (λ r. g ∷ others g.name r) again.same;
  })
  | inr anew ↦ inr (record {
    fresh = λ h there is. elim (cons_cases g (others g.name (firsts fs)) h there) [
      | inl first ↦ true≢false (sym ((bytes_eq-Decides f.name g.name).1 (sym (ap (λ (e : Fragment). e.name) first ∙ is))) ∙ other)
      | inr rest ↦ anew.fresh h (from_filter (λ (e : Fragment). not (bytes_eq e.name g.name)) (firsts fs) h rest) is
    ];
    added = ap (λ r. g ∷ others g.name r) anew.added ∙ ap (λ r. g ∷ r) (stays g.name (firsts fs) f other);
  })
]

first_cases : (fs : List Fragment) (f : Fragment) → Again fs f ⊎ Anew fs f
first_cases [] f = inr (record { fresh = λ h there is. absurd (omega (arith, there.1)); added = refl })
first_cases (g ∷ fs) f = first_step g fs f (bytes_eq f.name g.name) refl (first_cases fs f)

-- one of a new name
pub firsts_new : (fs : List Fragment) (f : Fragment) → IsFresh f.name (firsts fs) → firsts (fs ++ f ∷ []) ≡ firsts fs ++ f ∷ []
firsts_new fs f fresh = elim (first_cases fs f) [
  | inl again ↦ absurd (fresh again.k again.kept.0 again.kept.1)
  | inr anew ↦ anew.added
]

-- one of a name that is there
pub firsts_there : (fs : List Fragment) (f k : Fragment) → IsKept f.name (firsts fs) k → firsts (fs ++ f ∷ []) ≡ firsts fs
firsts_there fs f k kept = elim (first_cases fs f) [
  | inl again ↦ again.same
  | inr anew ↦ absurd (anew.fresh k kept.0 kept.1)
]
