-- A group that a larger one takes the place of.
use Rattle.std.specs.Prelude.{◌≡◌, ◌⊎◌, ◌<◌, ◌+◌, ℕ, List, [], ◌∷◌, ◌++◌, length, bytes_eq, drop, refl, Some, Contains}
use Rattle.std.specs.List.{slice_get}
use Rattle.std.proofs.Common.{ap, sym, ◌∙◌, subst, inl, inr, get_or, take, arith, length-append}
use Rattle.std.proofs.lemmas.List.{drop-append-le, get_or_append_left, take-append-drop, take_more}
use Rattle.std.proofs.lemmas.List.Elements.{Contains-append_left, Contains-append_right, Contains-append_cases, Contains-push, Contains-push_cases}
use Rattle.std.proofs.lemmas.Option.{get_or_from_slice_get, slice_get_within}
use Rattle.indexmap.specs.IndexSet.{insert_key}
use Rattle.gql_facts.specs.ListMembers.{Contains-nil}
use Rattle.gql_facts.specs.Worlds.{Facts}
use Rattle.gql_facts.specs.declared.fact.FragmentFact.{FragmentFact}
use Rattle.gql_merge.proofs.CleanNames.{name_added}
use Rattle.gql_merge.specs.Between.{name_of}
use Rattle.gql_reads.proofs.Takes.{one_more, seen_more}
use Rattle.gql_pairs.specs.Fragments.{IsCertified, IsFragmentOfName, KeptFragment}
use Rattle.gql_pairs.specs.Gathering.{AreNames, HasName}
use Rattle.gql_pairs.specs.Groups.{AreMembersFor, HasMember, IsPairIn, KeptGroup, KeptPair, MembersHold, bad_under}
use Rattle.gql_pairs.specs.Growing.{AddsOther, Grows, IsFor}
use Rattle.gql_pairs.specs.Tables.{AllHold, Keeps}
use Rattle.gql_pairs.proofs.Covered.{known_fragment, known_holds}
use Rattle.gql_pairs.proofs.Entries.{pair_holds}

-- ---- names

module _ (fs : List FragmentFact) (i : ℕ) (f : FragmentFact) (lt : i < length fs) (is : f ≡ get_or fs i f) where
  pub names_more : (names keys : List (List ℕ)) → keys ≡ insert_key bytes_eq names (name_of f) → AreNames names (take i fs) → AreNames keys (take (i + 1) fs)
  names_more names keys put before n c = elim ((name_added names keys (name_of f) put).from n c) [
    | inl o ↦ let h = before n o in (h.0, subst (λ l. Contains l h.0) (sym (one_more fs i f lt is)) (Contains-append_left (take i fs) (f ∷ []) h.0 h.1), h.2)
    | inr e ↦ (f, subst (λ l. Contains l f) (sym (one_more fs i f lt is)) (Contains-push (take i fs) f), sym e)
  ]

module _ (xs : List KeptFragment) (i : ℕ) (x : KeptFragment) (lt : i < length xs) (is : x ≡ get_or xs i x) (names : List (List ℕ)) where
  pub within_more : ((y : KeptFragment) → Contains (take i xs) y → Contains names (name_of y.fragment)) → Contains names (name_of x.fragment)
      → (y : KeptFragment) → Contains (take (i + 1) xs) y → Contains names (name_of y.fragment)
  within_more before here y c = elim (seen_more xs i x lt is y c) [
    | inl s ↦ before y s
    | inr e ↦ subst (λ (z : KeptFragment). Contains names (name_of z.fragment)) e here
  ]

-- ---- members

module _ (F : Facts) (base : KeptGroup) (g : FragmentFact) (old : List KeptFragment) where
  pub other_there : HasMember base.members (name_of g) → (new : List KeptFragment) → new ≡ old → AddsOther F base g old new
  other_there h new is = rw is (record { kept = λ x c. c; from = λ x c. inl c; here = inl h })

  pub other_pushed : (y : KeptFragment) → IsFor F g y → (new : List KeptFragment) → new ≡ old ++ y ∷ [] → AddsOther F base g old new
  other_pushed y f new is = rw is (record {
    kept = λ x c. Contains-append_left old (y ∷ []) x c;
    from = λ x c. elim (Contains-push_cases old y x c) [ inl o ↦ inl o | inr e ↦ inr (subst (IsFor F g) e f) ];
    here = inr (y, Contains-push old y, f.is);
  })

pub grows_first : (F : Facts) (base : KeptGroup) (fs : List FragmentFact) (ms : List KeptFragment) → ms ≡ base.members → Grows F base (take 0 fs) ms
grows_first F base fs ms is = rw is (record {
  kept = λ x c. c;
  from = λ x c. inl c;
  all = λ g c. absurd (Contains-nil g (none fs g c));
}) where
  none : (xs : List FragmentFact) (y : FragmentFact) → Contains (take 0 xs) y → Contains [] y
  none [] y c = c
  none (x ∷ xs) y c = c

module _ (F : Facts) (base : KeptGroup) (fs : List FragmentFact) (i : ℕ) (f : FragmentFact) (lt : i < length fs) (is : f ≡ get_or fs i f) (old new : List KeptFragment) where
  pub grows_more : Grows F base (take i fs) old → AddsOther F base f old new → Grows F base (take (i + 1) fs) new
  grows_more w a = record {
    kept = λ x c. a.kept x (w.kept x c);
    from = λ x c. elim (a.from x c) [
      | inl o ↦ elim (w.from x o) [
        | inl b ↦ inl b
        | inr h ↦ inr (h.0, subst (λ l. Contains l h.0) (sym (one_more fs i f lt is)) (Contains-append_left (take i fs) (f ∷ []) h.0 h.1), h.2)
      ]
      | inr h ↦ inr (f, subst (λ l. Contains l f) (sym (one_more fs i f lt is)) (Contains-push (take i fs) f), h)
    ];
    all = λ g c. elim (seen_more fs i f lt is g c) [
      | inl s ↦ elim (w.all g s) [ inl m ↦ inl m | inr h ↦ inr (h.0, a.kept h.0 h.1, h.2) ]
      | inr e ↦ subst (λ (z : FragmentFact). HasMember base.members (name_of z) ⊎ ((x : KeptFragment) × Contains new x × (x.fragment ≡ z))) e a.here
    ];
  }

module _ (F : Facts) (table : List KeptGroup) (hold : AllHold F table) (base : KeptGroup) (there : Contains table base) (each : (x : KeptFragment) → Contains base.members x → IsCertified x)
    (fs : List FragmentFact) (named : (g : FragmentFact) → Contains fs g → IsFragmentOfName F g) (within : (x : KeptFragment) → Contains base.members x → HasName fs (name_of x.fragment))
    (ms : List KeptFragment) (grows : Grows F base fs ms) where
  base_is : (x : KeptFragment) (g : FragmentFact) → Contains base.members x → Contains fs g → name_of x.fragment ≡ name_of g → x.fragment ≡ g
  base_is x g cx cg e = known_fragment F table hold g x (base, there, cx, e) (named g cg) (each x cx)

  pub grown_for : AreMembersFor fs ms
  grown_for = record {
    from = λ x c. elim (grows.from x c) [
      | inl b ↦ let h = within x b in subst (Contains fs) (sym (base_is x h.0 b h.1 (sym h.2))) h.1
      | inr h ↦ subst (Contains fs) (sym h.2.is) h.1
    ];
    all = λ g c. elim (grows.all g c) [
      | inl m ↦ (m.0, grows.kept m.0 m.1, base_is m.0 g m.1 c m.2)
      | inr h ↦ h
    ];
  }

  pub grown_hold : MembersHold F ms
  grown_hold x c = elim (grows.from x c) [
    | inl b ↦ known_holds F table hold x.fragment x (base, there, b, refl)
    | inr h ↦ h.2.hold
  ]

  pub grown_certified : (x : KeptFragment) → Contains ms x → IsCertified x
  grown_certified x c = elim (grows.from x c) [
    | inl b ↦ each x b
    | inr h ↦ h.2.certified
  ]

-- ---- the table

-- the group that stands at a place
pub base_here : (groups table : List KeptGroup) (at : ℕ) (x r b : KeptGroup) → groups ≡ table → slice_get table at ≡ Some x → r ≡ get_or groups at r → b ≡ r → b ≡ x
base_here groups table at x r b same is got e = e ∙ (got ∙ get_or_from_slice_get groups at x r (subst (λ l. slice_get l at ≡ Some x) (sym same) is))

module _ (old : List KeptGroup) (at : ℕ) (base group : KeptGroup) (is : slice_get old at ≡ Some base) (new : List KeptGroup) (made : new ≡ take at (old ++ group ∷ []) ++ drop (at + 1) (old ++ group ∷ [])) where
  lt : at < length old
  lt = slice_get_within old at base is

  abbrev more : List KeptGroup
  more = old ++ group ∷ []

  short : at < length more
  short = omega (arith, lt, length-append old (group ∷ []))

  base_at : get_or more at base ≡ base
  base_at = get_or_append_left old (group ∷ []) base at lt ∙ get_or_from_slice_get old at base base is

  split : more ≡ (take at more ++ base ∷ []) ++ drop (at + 1) more
  split = sym (take-append-drop (at + 1) more) ∙ ap (λ l. l ++ drop (at + 1) more) (take_more more at base short ∙ ap (λ y. take at more ++ y ∷ []) base_at)

  -- all groups but the one are there, and the new one
  pub still_there : (y : KeptGroup) → Contains old y → (base ≡ y) ⊎ Contains new y
  still_there y c = elim (Contains-append_cases (take at more ++ base ∷ []) (drop (at + 1) more) y (subst (λ l. Contains l y) split (Contains-append_left old (group ∷ []) y c))) [
    | inl t ↦ elim (Contains-push_cases (take at more) base y t) [
      | inl s ↦ inr (subst (λ l. Contains l y) (sym made) (Contains-append_left (take at more) (drop (at + 1) more) y s))
      | inr e ↦ inl e
    ]
    | inr r ↦ inr (subst (λ l. Contains l y) (sym made) (Contains-append_right (take at more) (drop (at + 1) more) y r))
  ]

  pub group_there : Contains new group
  group_there = subst (λ l. Contains l group) (sym made) (Contains-append_right (take at more) (drop (at + 1) more) group
      (subst (λ l. Contains l group) (sym (drop-append-le (at + 1) old (group ∷ []) (omega (arith, lt)))) (Contains-push (drop (at + 1) old) group)))

  pub came_from : (y : KeptGroup) → Contains new y → Contains old y ⊎ (group ≡ y)
  came_from y c = elim (Contains-append_cases (take at more) (drop (at + 1) more) y (subst (λ l. Contains l y) made c)) [
    | inl t ↦ Contains-push_cases old group y (subst (λ l. Contains l y) (take-append-drop at more) (Contains-append_left (take at more) (drop at more) y t))
    | inr d ↦ Contains-push_cases old group y (subst (λ l. Contains l y) (take-append-drop (at + 1) more) (Contains-append_right (take (at + 1) more) (drop (at + 1) more) y d))
  ]

  pub replaced_hold : (F : Facts) → AllHold F old → MembersHold F group.members → AllHold F new
  replaced_hold F hold members n m k e = elim (came_from e.0 e.1) [
    | inl o ↦ hold n m k (e.0, o, e.2)
    | inr s ↦ pair_holds F e.0 (subst (λ (x : KeptGroup). MembersHold F x.members) s members) n m k e.2
  ]

  -- what the old group keeps, the new one does
  pair_kept : base.clashes ≡ group.clashes → ((x : KeptFragment) → Contains base.members x → Contains group.members x) → (n m : List ℕ) (k : KeptPair) → IsPairIn base n m k → IsPairIn group n m k
  pair_kept clashes members n m k p = record {
    left = p.left;
    right = p.right;
    is_left = members p.left p.is_left;
    is_right = members p.right p.is_right;
    first = p.first;
    second = p.second;
    is = p.is ∙ ap (λ c. record { bad = bad_under (name_of p.left.fragment) (name_of p.right.fragment) c; observations = p.left.observations ++ p.right.observations }) clashes;
  }

  pub replaced_keeps : base.clashes ≡ group.clashes → ((x : KeptFragment) → Contains base.members x → Contains group.members x) → Keeps old new
  replaced_keeps clashes members n m k e = elim (still_there e.0 e.1) [
    | inl s ↦ (group, group_there, pair_kept clashes members n m k (subst (λ (x : KeptGroup). IsPairIn x n m k) (sym s) e.2))
    | inr c ↦ (e.0, c, e.2)
  ]
