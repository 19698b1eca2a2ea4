-- The entries of tables: of one with a group more, and of one without what does not hold.
use Rattle.std.specs.Prelude.{◌≡◌, ◌⊎◌, ◌<◌, ◌≤◌, ◌+◌, ℕ, List, [], ◌∷◌, ◌++◌, length, refl, Contains}
use Rattle.std.proofs.Common.{ap, sym, ◌∙◌, subst, inl, inr, get_or, take}
use Rattle.std.proofs.lemmas.List.{take_all}
use Rattle.std.proofs.lemmas.List.Elements.{Contains-append_left, Contains-append_right, Contains-append_cases, Contains-push, Contains-push_cases}
use Rattle.gql_facts.specs.ListMembers.{Contains-nil}
use Rattle.gql_facts.specs.Members.{Lists}
use Rattle.gql_facts.specs.Worlds.{Facts}
use Rattle.gql_merge.specs.Between.{name_of}
use Rattle.gql_reads.proofs.Takes.{one_more, seen_more}
use Rattle.gql_reads.specs.Observations.{Hold}
use Rattle.gql_reads.specs.declared.observation.Observation.{Observation}
use Rattle.gql_pairs.specs.Fragments.{KeptFragment}
use Rattle.gql_pairs.specs.Groups.{IsPairIn, KeptGroup, KeptPair, MembersHold, bad_under, pair_of}
use Rattle.gql_pairs.specs.Sweeps.{AreGroupsKept, IsGroupKept, IsKeptOf, KeepsGroup, KeepsMember}
use Rattle.gql_pairs.specs.Tables.{AllHold, HasPair, IsEntry, Keeps, KeepsHolding}

-- ---- one group

both_hold : (F : Facts) (xs ys : List Observation) → Hold F xs → Hold F ys → Hold F (xs ++ ys)
both_hold F xs ys a b o c = elim (Contains-append_cases xs ys o c) [ inl i ↦ a o i | inr i ↦ b o i ]

-- what a group keeps holds, if its members do
pub pair_holds : (F : Facts) (group : KeptGroup) → MembersHold F group.members → (n m : List ℕ) (k : KeptPair) → IsPairIn group n m k → Hold F k.observations
pair_holds F group hold n m k p = subst (λ (z : KeptPair). Hold F z.observations) (sym p.is)
    (both_hold F p.left.observations p.right.observations (hold p.left p.is_left) (hold p.right p.is_right))

-- a group of two members keeps a pair of the two
pub pair_here : (group : KeptGroup) (x y : KeptFragment) → Contains group.members x → Contains group.members y → IsPairIn group (name_of x.fragment) (name_of y.fragment) (pair_of group x y)
pair_here group x y cx cy = record { left = x; right = y; is_left = cx; is_right = cy; first = refl; second = refl; is = refl }

pub turned : (group : KeptGroup) (n m : List ℕ) (k : KeptPair) → IsPairIn group n m k → (j : KeptPair) × IsPairIn group m n j
turned group n m k p = (
  pair_of group p.right p.left,
  record {
    left = p.right;
    right = p.left;
    is_left = p.is_right;
    is_right = p.is_left;
    first = p.second;
    second = p.first;
    is = refl;
  },
)

pub no_order : (table : List KeptGroup) (n m : List ℕ) → HasPair table n m → HasPair table m n
no_order table n m h = let t = turned h.1.0 n m h.0 h.1.2 in (t.0, (h.1.0, h.1.1, t.1))

-- ---- a group more

module _ (F : Facts) (old : List KeptGroup) (group : KeptGroup) (new : List KeptGroup) (is : new ≡ old ++ group ∷ []) where
  cases : (x : KeptGroup) → Contains new x → Contains old x ⊎ (group ≡ x)
  cases x c = Contains-push_cases old group x (subst (λ l. Contains l x) is c)

  pub hold_more : AllHold F old → ((n m : List ℕ) (k : KeptPair) → IsPairIn group n m k → Hold F k.observations) → AllHold F new
  hold_more hold here n m k e = elim (cases e.0 e.1) [
    | inl o ↦ hold n m k (e.0, o, e.2)
    | inr s ↦ here n m k (subst (λ x. IsPairIn x n m k) (sym s) e.2)
  ]

  pub keeps_more : Keeps old new
  keeps_more n m k e = (e.0, subst (λ l. Contains l e.0) (sym is) (Contains-append_left old (group ∷ []) e.0 e.1), e.2)

  pub has_more : (n m : List ℕ) (k : KeptPair) → IsPairIn group n m k → HasPair new n m
  has_more n m k p = (k, (group, subst (λ l. Contains l group) (sym is) (Contains-push old group), p))

-- ---- what still holds

module _ (F : Facts) (x : KeptFragment) (old : List KeptFragment) where
  pub member_pushed : Hold F x.observations → (new : List KeptFragment) → new ≡ old ++ x ∷ [] → KeepsMember F x old new
  member_pushed h new is = rw is (record {
    kept = λ y c. Contains-append_left old (x ∷ []) y c;
    here = λ k. Contains-push old x;
    from = λ y c. elim (Contains-push_cases old x y c) [ inl o ↦ inl o | inr s ↦ inr (sym s, h) ];
  })

  pub member_left : (Hold F x.observations → ⊥) → (new : List KeptFragment) → new ≡ old → KeepsMember F x old new
  member_left never new is = rw is (record {
    kept = λ y c. c;
    here = λ k. absurd (never k);
    from = λ y c. inl c;
  })

module _ (F : Facts) (xs : List KeptFragment) (i : ℕ) (x : KeptFragment) (lt : i < length xs) (is : x ≡ get_or xs i x) (old new : List KeptFragment) where
  -- a member more was looked at
  pub members_more : Lists old (IsKeptOf F (take i xs)) → KeepsMember F x old new → Lists new (IsKeptOf F (take (i + 1) xs))
  members_more l k = record {
    sound = λ y c. elim (k.from y c) [
      | inl o ↦ let s = l.sound y o in (subst (λ zs. Contains zs y) (sym (one_more xs i x lt is)) (Contains-append_left (take i xs) (x ∷ []) y s.0), s.1)
      | inr e ↦ (
        subst (λ zs. Contains zs y) (sym (one_more xs i x lt is)) (subst (λ z. Contains (take i xs ++ x ∷ []) z) (sym e.0) (Contains-push (take i xs) x)),
        subst (λ (z : KeptFragment). Hold F z.observations) (sym e.0) e.1,
      )
    ];
    complete = λ y h. elim (seen_more xs i x lt is y h.0) [
      | inl s ↦ k.kept y (l.complete y (s, h.1))
      | inr e ↦ subst (Contains new) e (k.here (subst (λ (z : KeptFragment). Hold F z.observations) (sym e) h.1))
    ];
  }

pub members_none : (F : Facts) (xs old : List KeptFragment) → old ≡ [] → Lists old (IsKeptOf F (take 0 xs))
members_none F xs old e = rw e (record {
  sound = λ y c. absurd (Contains-nil y c);
  complete = λ y h. absurd (Contains-nil y (none xs y h.0));
}) where
  none : (xs : List KeptFragment) (y : KeptFragment) → Contains (take 0 xs) y → Contains [] y
  none [] y c = c
  none (x ∷ xs) y c = c

-- a group is kept
module _ (F : Facts) (x : KeptGroup) where
  pub whole_kept : MembersHold F x.members → IsGroupKept F x x
  whole_kept hold = record {
    members = record { sound = λ m c. (c, hold m c); complete = λ m h. h.0 };
    clashes = refl;
  }

  pub group_pushed : (y : KeptGroup) → IsGroupKept F x y → (old new : List KeptGroup) → new ≡ old ++ y ∷ [] → KeepsGroup F x old new
  group_pushed y k old new is = rw is (record {
    kept = λ z c. Contains-append_left old (y ∷ []) z c;
    here = λ m h. (y, Contains-push old y, k);
    from = λ z c. elim (Contains-push_cases old y z c) [ inl o ↦ inl o | inr e ↦ inr (subst (IsGroupKept F x) e k) ];
  })

  pub group_left : (y : KeptGroup) → IsGroupKept F x y → y.members ≡ [] → (old new : List KeptGroup) → new ≡ old → KeepsGroup F x old new
  group_left y k none old new is = rw is (record {
    kept = λ z c. c;
    here = λ m h. absurd (Contains-nil m (subst (λ l. Contains l m) none (k.members.complete m h)));
    from = λ z c. inl c;
  })

module _ (F : Facts) (xs : List KeptGroup) (i : ℕ) (x : KeptGroup) (lt : i < length xs) (is : x ≡ get_or xs i x) (old new : List KeptGroup) where
  pub groups_more : AreGroupsKept F (take i xs) old → KeepsGroup F x old new → AreGroupsKept F (take (i + 1) xs) new
  groups_more k g = record {
    kept = λ z c m h. elim (seen_more xs i x lt is z c) [
      | inl s ↦ let r = k.kept z s m h in (r.0, g.kept r.0 r.1, r.2)
      | inr e ↦ let r = g.here m (subst (λ (w : KeptGroup). IsKeptOf F w.members m) (sym e) h) in (r.0, r.1, subst (λ w. IsGroupKept F w r.0) e r.2)
    ];
    from = λ z c. elim (g.from z c) [
      | inl o ↦ let r = k.from z o in (r.0, subst (λ zs. Contains zs r.0) (sym (one_more xs i x lt is)) (Contains-append_left (take i xs) (x ∷ []) r.0 r.1), r.2)
      | inr e ↦ (x, subst (λ zs. Contains zs x) (sym (one_more xs i x lt is)) (Contains-push (take i xs) x), e)
    ];
  }

pub groups_none : (F : Facts) (xs old : List KeptGroup) → old ≡ [] → AreGroupsKept F (take 0 xs) old
groups_none F xs old e = rw e (record {
  kept = λ z c m h. absurd (Contains-nil z (none xs z c));
  from = λ z c. absurd (Contains-nil z c);
}) where
  none : (xs : List KeptGroup) (y : KeptGroup) → Contains (take 0 xs) y → Contains [] y
  none [] y c = c
  none (x ∷ xs) y c = c

pub groups_all : (F : Facts) (xs : List KeptGroup) (i : ℕ) (new : List KeptGroup) → length xs ≤ i → AreGroupsKept F (take i xs) new → AreGroupsKept F xs new
groups_all F xs i new le k = subst (λ l. AreGroupsKept F l new) (take_all i xs le) k

module _ (F : Facts) (old new : List KeptGroup) (groups : AreGroupsKept F old new) where
  same_pair : (x y : KeptGroup) → y.clashes ≡ x.clashes → (a b : KeptFragment) → pair_of x a b ≡ pair_of y a b
  same_pair x y e a b = ap (λ c. record { bad = bad_under (name_of a.fragment) (name_of b.fragment) c; observations = a.observations ++ b.observations }) (sym e)

  pub kept_hold : AllHold F new
  kept_hold n m k e =
      let r = groups.from e.0 e.1 in
      pair_holds F e.0 (λ x c. (r.2.members.sound x c).1) n m k e.2

  pub kept_keep : KeepsHolding F old new
  kept_keep n m k e holds =
      let p = e.2 in
      let h : Hold F (p.left.observations ++ p.right.observations) = subst (λ (z : KeptPair). Hold F z.observations) p.is holds in
      let left : Hold F p.left.observations = λ o i. h o (Contains-append_left p.left.observations p.right.observations o i) in
      let r = groups.kept e.0 e.1 p.left (p.is_left, left) in (
        r.0,
        r.1,
        record {
          left = p.left;
          right = p.right;
          is_left = r.2.members.complete p.left (p.is_left, left);
          is_right = r.2.members.complete p.right (p.is_right, λ o i. h o (Contains-append_right p.left.observations p.right.observations o i));
          first = p.first;
          second = p.second;
          is = p.is ∙ same_pair e.0 r.0 r.2.clashes p.left p.right;
        },
      )

  pub kept_from : (n m : List ℕ) (k : KeptPair) → IsEntry new n m k → IsEntry old n m k
  kept_from n m k e =
      let r = groups.from e.0 e.1 in
      let p = e.2 in (
        r.0,
        r.1,
        record {
          left = p.left;
          right = p.right;
          is_left = (r.2.members.sound p.left p.is_left).0;
          is_right = (r.2.members.sound p.right p.is_right).0;
          first = p.first;
          second = p.second;
          is = p.is ∙ sym (same_pair r.0 e.0 r.2.clashes p.left p.right);
        },
      )
