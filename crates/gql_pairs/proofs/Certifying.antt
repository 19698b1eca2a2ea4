-- What was observed of a fragment, and of two, is right wherever the observations hold.
use Rattle.std.specs.Prelude.{◌≡◌, ◌⊎◌, ℕ, List, [], ◌∷◌, ◌++◌, map, flat_map, Bool, true, false, ◌&&◌, bytes_eq, if◌then◌else◌, find, Option, Some, None, refl, IfSome, MatchBool, MatchOption, Contains}
use Rattle.std.proofs.Common.{ap, sym, ◌∙◌, subst, inl, inr, true≢false}
use Rattle.std.proofs.lemmas.List.Elements.{Contains-append_left, Contains-append_right, Contains-append_cases}
use Rattle.std.proofs.lemmas.Slice.Eq.{bytes_eq-Decides}
use Rattle.gql_facts.proofs.Agreement.{reaches_there, reaches_back, reads_there, reads_back}
use Rattle.gql_facts.specs.Floats.{float_read}
use Rattle.gql_facts.specs.ListMembers.{Contains-cases, Contains-flat_map, Contains-flat_map_from, Contains-here, Contains-map, Contains-nil, Contains-there, either, found_in}
use Rattle.gql_facts.specs.OwnReads.{fragment_reads}
use Rattle.gql_facts.specs.Members.{Lists}
use Rattle.gql_facts.specs.Reads.{Agree, Reaches, Reads, by_definition, by_fragment}
use Rattle.gql_facts.specs.Worlds.{Facts, IsWorld}
use Rattle.gql_facts.specs.declared.fact.Fact.TheVariants as fact
use Rattle.gql_facts.specs.declared.fact.FragmentFact.{FragmentFact}
use Rattle.gql_facts.specs.declared.key.Key.{Key}
use Rattle.gql_facts.specs.declared.key.Key.TheVariants as key
use Rattle.gql_merge.proofs.View.{bad_back, bad_there}
use Rattle.gql_merge.specs.BadPairs.{AreClosed, IsClashOfTwo}
use Rattle.gql_merge.specs.Between.{IsBadBetween, PairReads, definition_of, name_of}
use Rattle.gql_merge.specs.declared.bad_pair.BadPair.{BadPair}
use Rattle.gql_merge.specs.declared.two_fragments.FragmentClash.{FragmentClash}
use Rattle.gql_reads.proofs.Members.{Contains-map_from}
use Rattle.gql_reads.specs.Observations.{Hold, keys_of}
use Rattle.gql_reads.specs.Readings.{own_name}
use Rattle.gql_reads.specs.declared.observation.Observation.{Observation}
use Rattle.gql_pairs.specs.Fragments.{FragmentReads, IsRight, KeptFragment, with_reached}
use Rattle.gql_pairs.specs.Fragments.{IsCertified as IsFragmentCertified}
use Rattle.gql_pairs.specs.Gathering.{Gathers}
use Rattle.gql_pairs.specs.Groups.{AreClashesOf, AreSomewhereClean, IsCertified, IsPairCertified, HasMember, IsPairIn, KeptGroup, KeptPair, MembersHold, bad_if_named, bad_under, named_clash, pair_of}

-- ---- one fragment

module _ (v u : Facts) (x : KeptFragment) (right : IsRight v x) (here : Hold v x.observations) (there : Hold u x.observations) where
  -- where the observations hold, the facts agree on what is asked of the fragment
  pub agrees : (k : Key) → FragmentReads v x.fragment k → u k ≡ v k
  agrees k r =
      let m = Contains-map_from (λ (o : Observation). o.key) x.observations k (right.keys.complete k r) in
      subst (λ j. u j ≡ v j) m.2 (there m.0 m.1 ∙ sym (here m.0 m.1))

  agree : Agree v u (definition_of x.fragment)
  agree k r = agrees k (inr r)

  reads_to : (k : Key) → FragmentReads v x.fragment k → FragmentReads u x.fragment k
  reads_to k r = elim r [ inl e ↦ inl e | inr h ↦ inr (reads_there v u (definition_of x.fragment) agree h) ]

  reads_from : (k : Key) → FragmentReads u x.fragment k → FragmentReads v x.fragment k
  reads_from k r = elim r [ inl e ↦ inl e | inr h ↦ inr (reads_back v u (definition_of x.fragment) agree h) ]

  pub still_right : IsRight u x
  still_right = record {
    named = agrees (key.FragmentOf (name_of x.fragment)) (inl refl) ∙ right.named;
    reached = record {
      sound = λ g c. reaches_there v u (definition_of x.fragment) agree (right.reached.sound g c);
      complete = λ g r. right.reached.complete g (reaches_back v u (definition_of x.fragment) agree r);
    };
    keys = record {
      sound = λ k c. reads_to k (right.keys.sound k c);
      complete = λ k r. right.keys.complete k (reads_from k r);
    };
  }

pub certified : (v : Facts) (x : KeptFragment) → IsRight v x → Hold v x.observations → IsFragmentCertified x
certified v x right here u there = still_right v u x right here there

-- what a walk has observed, with the name
module _ (F : Facts) (g : FragmentFact) (named : F (key.FragmentOf (name_of g)) ≡ fact.Fragment g) (os : List Observation) (hold : Hold F os) where
  pub named_hold : Hold F (own_name g ∷ os)
  named_hold o c = elim (Contains-cases o (own_name g) os c) [
    | inl e ↦ subst (λ (p : Observation). F p.key ≡ p.fact) (sym e) named
    | inr t ↦ hold o t
  ]

  pub named_right : (reached : List FragmentFact) → Lists reached (Reaches F (definition_of g)) → Lists (keys_of os) (Reads F (definition_of g))
      → IsRight F (record { fragment = g; reached = reached; observations = own_name g ∷ os })
  named_right reached members keys = record {
    named = named;
    reached = members;
    keys = record {
      sound = λ k c. elim (Contains-cases k (key.FragmentOf (name_of g)) (keys_of os) c) [ inl e ↦ inl e | inr t ↦ inr (keys.sound k t) ];
      complete = λ k r. elim r [
        | inl e ↦ subst (Contains (keys_of (own_name g ∷ os))) (sym e) (Contains-here (key.FragmentOf (name_of g)) (keys_of os))
        | inr h ↦ Contains-there k (key.FragmentOf (name_of g)) (keys_of os) (keys.complete k h)
      ];
    };
  }

-- ---- the fragments that some reach

module _ (F : Facts) (names : List (List ℕ)) (world : IsWorld F names) where
  own_fragment : (m : List ℕ) (g : FragmentFact) → F (key.FragmentOf m) ≡ fact.Fragment g → F (key.FragmentOf (name_of g)) ≡ fact.Fragment g
  own_fragment m g e = subst (λ n. F (key.FragmentOf n) ≡ fact.Fragment g) (sym (world.named m g e)) e

  reached_named : (d : FragmentFact) (g : FragmentFact) → Reaches F (definition_of d) g → F (key.FragmentOf (name_of g)) ≡ fact.Fragment g
  reached_named d g (by_definition {n} c e) = own_fragment n g e
  reached_named d g (by_fragment {n} {f} r c e) = own_fragment n g e

  module _ (xs : List KeptFragment) (right : (x : KeptFragment) → Contains xs x → IsRight F x) where
    of_one : (x : KeptFragment) (g : FragmentFact) → IsRight F x → Contains (with_reached x) g → (g ≡ x.fragment) ⊎ Reaches F (definition_of x.fragment) g
    of_one x g r c = elim (Contains-cases g x.fragment x.reached c) [ inl e ↦ inl e | inr t ↦ inr (r.reached.sound g t) ]

    named_one : (g : FragmentFact) → Contains (flat_map with_reached xs) g → F (key.FragmentOf (name_of g)) ≡ fact.Fragment g
    named_one g c =
        let m = Contains-flat_map_from with_reached xs g c in
        elim (of_one m.0 g (right m.0 m.1) m.2) [
          | inl e ↦ subst (λ z. F (key.FragmentOf (name_of z)) ≡ fact.Fragment z) (sym e) (right m.0 m.1).named
          | inr r ↦ reached_named m.0.fragment g r
        ]

    closed_one : (f g : FragmentFact) (n : List ℕ) → Contains (flat_map with_reached xs) f → Contains (fragment_reads F f.fragment) (key.FragmentOf n) → F (key.FragmentOf n) ≡ fact.Fragment g → Contains (flat_map with_reached xs) g
    closed_one f g n c h e =
        let m = Contains-flat_map_from with_reached xs f c in
        let x = m.0 in
        let r : Reaches F (definition_of x.fragment) g = elim (of_one x f (right x m.1) m.2) [
          | inl s ↦ by_definition (Contains-there (key.FragmentOf n) float_read (fragment_reads F x.fragment.fragment)
              (subst (λ (z : FragmentFact). Contains (fragment_reads F z.fragment) (key.FragmentOf n)) s h)) e
          | inr t ↦ by_fragment t h e
        ] in
        Contains-flat_map with_reached xs x g m.1 (Contains-there g x.fragment x.reached ((right x m.1).reached.complete g r))

    module _ (found : List FragmentFact) (gathered : Gathers (Contains (flat_map with_reached xs)) [] found) where
      in_full : (g : FragmentFact) → Contains found g → Contains (flat_map with_reached xs) g
      in_full g c = elim (gathered.from g c) [ inl n ↦ absurd (Contains-nil g n) | inr h ↦ h ]

      -- what is to be there is there, since it is the one of its name
      in_found : (g : FragmentFact) → Contains (flat_map with_reached xs) g → Contains found g
      in_found g c =
          let h = gathered.has g c in
          let k : fact.Fragment h.0 ≡ fact.Fragment g = sym (named_one h.0 (in_full h.0 h.1)) ∙ ap (λ l. F (key.FragmentOf l)) h.2 ∙ named_one g c in
          let e : h.0 ≡ g = cc k in
          subst (Contains found) e h.1

      pub shut : AreClosed F found
      shut = record {
        named = λ g c. named_one g (in_full g c);
        closed = λ f g n c h e. in_found g (closed_one f g n (in_full f c) h e);
      }

      pub among : (g : FragmentFact) → Contains (map (λ (x : KeptFragment). x.fragment) xs) g → Contains found g
      among g c =
          let m = Contains-map_from (λ (x : KeptFragment). x.fragment) xs g c in
          in_found g (Contains-flat_map with_reached xs m.0 g m.1 (subst (Contains (with_reached m.0)) m.2 (Contains-here m.0.fragment m.0.reached)))

-- ---- what clashes between two members

module _ (F : Facts) (xs : List KeptFragment) (clashes : List FragmentClash) (each : (x : KeptFragment) → Contains xs x → IsFragmentCertified x)
    (hold : MembersHold F xs) (listed : Lists clashes (IsClashOfTwo F (map (λ (x : KeptFragment). x.fragment) xs))) where
  right : (x : KeptFragment) → Contains xs x → IsRight F x
  right x c = each x c F (hold x c)

  -- the one fragment of a name
  one : (x : KeptFragment) (g : FragmentFact) → Contains xs x → Contains (map (λ (x : KeptFragment). x.fragment) xs) g → name_of x.fragment ≡ name_of g → g ≡ x.fragment
  one x g cx cg e =
      let m = Contains-map_from (λ (x : KeptFragment). x.fragment) xs g cg in
      let n : F (key.FragmentOf (name_of g)) ≡ fact.Fragment g = subst (λ z. F (key.FragmentOf (name_of z)) ≡ fact.Fragment z) m.2 (right m.0 m.1).named in
      let k : fact.Fragment g ≡ fact.Fragment x.fragment = sym n ∙ ap (λ l. F (key.FragmentOf l)) (sym e) ∙ (right x cx).named in
      cc k

  clashes_of : (x y : KeptFragment) → Contains xs x → Contains xs y → AreClashesOf clashes x y
  clashes_of x y cx cy u hx hy b =
      let agree : (k : Key) → PairReads F x.fragment y.fragment k → u k ≡ F k = λ k r. elim r [
        | inl p ↦ agrees F u x (right x cx) (hold x cx) hx k p
        | inr q ↦ agrees F u y (right y cy) (hold y cy) hy k q
      ] in (
        λ c.
            let s = listed.sound (named_clash (name_of x.fragment) (name_of y.fragment) b) c in
            let g : s.0 ≡ x.fragment = one x s.0 cx s.2 s.4 in
            let h : s.1 ≡ y.fragment = one y s.1 cy s.3 s.5 in
            bad_there F u x.fragment y.fragment agree b (subst (λ z. IsBadBetween F z y.fragment b) g (subst (λ z. IsBadBetween F s.0 z b) h s.6)),
        λ bad. listed.complete (named_clash (name_of x.fragment) (name_of y.fragment) b) (
          x.fragment,
          y.fragment,
          Contains-map (λ (x : KeptFragment). x.fragment) xs x cx,
          Contains-map (λ (x : KeptFragment). x.fragment) xs y cy,
          refl,
          refl,
          bad_back F u x.fragment y.fragment agree b bad,
        ),
      )

  pub group_certified : IsCertified (record { members = xs; clashes = clashes })
  group_certified = record { each = each; two = clashes_of }

-- the same of members between which nothing is bad
pub clean_certified : (xs : List KeptFragment) → AreSomewhereClean xs → ((x : KeptFragment) → Contains xs x → IsFragmentCertified x) → IsCertified (record { members = xs; clashes = [] })
clean_certified xs c each = group_certified c.0 xs [] each c.1 (record {
  sound = λ k h. absurd (Contains-nil k h);
  complete = λ k t. absurd (
      let x = Contains-map_from (λ (x : KeptFragment). x.fragment) xs t.0 t.2 in
      let y = Contains-map_from (λ (x : KeptFragment). x.fragment) xs t.1 t.3 in
      c.2 x.0 y.0 x.1 y.1 k.bad (subst (λ z. IsBadBetween c.0 z y.0.fragment k.bad) (sym x.2) (subst (λ z. IsBadBetween c.0 t.0 z k.bad) (sym y.2) t.6)));
})

-- the same of some of the members
pub fewer_certified : (group : KeptGroup) (xs : List KeptFragment) → ((x : KeptFragment) → Contains xs x → Contains group.members x) → IsCertified group
    → IsCertified (record { members = xs; clashes = group.clashes })
fewer_certified group xs among c = record {
  each = λ x k. c.each x (among x k);
  two = λ x y k l. c.two x y (among x k) (among y l);
}

-- ---- what is kept of two fragments

the_one : (x b : BadPair) → Contains (x ∷ []) b → b ≡ x
the_one x b c = elim (Contains-cases b x [] c) [ inl e ↦ e | inr n ↦ absurd (Contains-nil b n) ]

both_true : (p q : Bool) → (p && q) ≡ true → (p ≡ true) × (q ≡ true)
both_true true true e = (refl, refl)
both_true true false e = absurd (true≢false (sym e))
both_true false q e = absurd (true≢false (sym e))

and_true : (p q : Bool) → p ≡ true → q ≡ true → (p && q) ≡ true
and_true p q a b = ap (λ x. x && q) a ∙ b

if_listed : (p : Bool) (x b : BadPair) → Contains (if p then x ∷ [] else []) b → (p ≡ true) × (b ≡ x)
if_listed true x b c = (refl, the_one x b c)
if_listed false x b c = absurd (Contains-nil b c)

module _ (n m : List ℕ) (clashes : List FragmentClash) (b : BadPair) where
  pub under_from : Contains (bad_under n m clashes) b → Contains clashes (named_clash n m b)
  under_from h =
      let r = Contains-flat_map_from (bad_if_named n m) clashes b h in
      let c : FragmentClash = r.0 in
      let i = if_listed (bytes_eq n c.first && bytes_eq m c.second) c.bad b r.2 in
      let t = both_true (bytes_eq n c.first) (bytes_eq m c.second) i.0 in
      let e : n ≡ c.first = (bytes_eq-Decides n c.first).0 t.0 in
      let f : m ≡ c.second = (bytes_eq-Decides m c.second).0 t.1 in
      subst (λ z. Contains clashes (named_clash n m z)) (sym i.1)
      (subst (λ z. Contains clashes (named_clash z m c.bad)) (sym e)
      (subst (λ z. Contains clashes (named_clash c.first z c.bad)) (sym f) r.1))

  pub under_to : Contains clashes (named_clash n m b) → Contains (bad_under n m clashes) b
  under_to c = Contains-flat_map (bad_if_named n m) clashes (named_clash n m b) b c
      (subst (λ p. Contains (if p then b ∷ [] else []) b) (sym (and_true (bytes_eq n n) (bytes_eq m m) ((bytes_eq-Decides n n).1 refl) ((bytes_eq-Decides m m).1 refl))) (Contains-here b []))

pub pair_certified : (group : KeptGroup) (n m : List ℕ) (k : KeptPair) → IsCertified group → IsPairIn group n m k → IsPairCertified n m k
pair_certified group n m k c p u holds =
    let x = p.left in
    let y = p.right in
    let h : Hold u (x.observations ++ y.observations) = subst (λ (z : KeptPair). Hold u z.observations) p.is holds in
    let hx : Hold u x.observations = λ o i. h o (Contains-append_left x.observations y.observations o i) in
    let hy : Hold u y.observations = λ o i. h o (Contains-append_right x.observations y.observations o i) in
    let rx = c.each x p.is_left u hx in
    let ry = c.each y p.is_right u hy in
    let two = c.two x y p.is_left p.is_right u hx hy in
    record {
      left = x.fragment;
      right = y.fragment;
      is_left = subst (λ l. u (key.FragmentOf l) ≡ fact.Fragment x.fragment) p.first rx.named;
      is_right = subst (λ l. u (key.FragmentOf l) ≡ fact.Fragment y.fragment) p.second ry.named;
      bad = subst (λ (z : KeptPair). Lists z.bad (IsBadBetween u x.fragment y.fragment)) (sym p.is) (record {
        sound = λ b i. (two b).0 (under_from (name_of x.fragment) (name_of y.fragment) group.clashes b i);
        complete = λ b bad. under_to (name_of x.fragment) (name_of y.fragment) group.clashes b ((two b).1 bad);
      });
      keys = subst (λ (z : KeptPair). Lists (keys_of z.observations) (PairReads u x.fragment y.fragment)) (sym p.is)
          (two_keys x.observations y.observations (FragmentReads u x.fragment) (FragmentReads u y.fragment) rx.keys ry.keys);
    }
  where
    key_append : (os ps : List Observation) → keys_of (os ++ ps) ≡ keys_of os ++ keys_of ps
    key_append [] ps = refl
    key_append (o ∷ os) ps = ap (λ l. o.key ∷ l) (key_append os ps)

    two_keys : (os ps : List Observation) (P Q : Key → Type 0) → Lists (keys_of os) P → Lists (keys_of ps) Q → Lists (keys_of (os ++ ps)) (λ k. P k ⊎ Q k)
    two_keys os ps P Q a b = subst (λ l. Lists l (λ k. P k ⊎ Q k)) (sym (key_append os ps)) (record {
      sound = λ k c. elim (Contains-append_cases (keys_of os) (keys_of ps) k c) [ inl i ↦ inl (a.sound k i) | inr i ↦ inr (b.sound k i) ];
      complete = λ k q. elim q [
        | inl i ↦ Contains-append_left (keys_of os) (keys_of ps) k (a.complete k i)
        | inr i ↦ Contains-append_right (keys_of os) (keys_of ps) k (b.complete k i)
      ];
    })

-- ---- a search by name

pub named_found : (n : List ℕ) (xs : List KeptFragment) (x : KeptFragment) → find (λ (y : KeptFragment). bytes_eq n (name_of y.fragment)) xs ≡ Some x → Contains xs x × (name_of x.fragment ≡ n)
named_found n xs x e = let f = found_in (λ (y : KeptFragment). bytes_eq n (name_of y.fragment)) xs x e in
    (f.0, sym ((bytes_eq-Decides n (name_of x.fragment)).0 f.1))

none_found : (p : KeptFragment → Bool) (xs : List KeptFragment) (x : KeptFragment) → find p xs ≡ None → Contains xs x → p x ≡ true → ⊥
none_found p [] x e c t = Contains-nil x c
none_found p (y ∷ ys) x e c t = elim (either (p y)) [
  | inl q ↦ let f : Some y ≡ None = sym (rw q refl) ∙ e in absurd (cc f)
  | inr q ↦ let f : find p ys ≡ None = sym (rw q refl) ∙ e in
      elim (Contains-cases x y ys c) [
        | inl s ↦ let g : true ≡ false = sym t ∙ ap p s ∙ q in absurd (cc g)
        | inr k ↦ none_found p ys x f k t
      ]
]

pub not_named : (n : List ℕ) (xs : List KeptFragment) (x : KeptFragment) → find (λ (y : KeptFragment). bytes_eq n (name_of y.fragment)) xs ≡ None → Contains xs x → name_of x.fragment ≡ n → ⊥
not_named n xs x e c i = none_found (λ (y : KeptFragment). bytes_eq n (name_of y.fragment)) xs x e c ((bytes_eq-Decides n (name_of x.fragment)).1 (sym i))

-- what is found is right
pub if_found : (n : List ℕ) (xs : List KeptFragment) (o : Option KeptFragment) → MatchOption o (HasMember xs n → ⊥) (λ m. Contains xs m × (name_of m.fragment ≡ n)) → IfSome o (λ m. Contains xs m × (name_of m.fragment ≡ n))
if_found n xs (Some x) v = v
if_found n xs None v = tt

pub found_certified : (group : KeptGroup) (n : List ℕ) (o : Option KeptFragment) → IsCertified group → IfSome o (λ m. Contains group.members m × (name_of m.fragment ≡ n)) → IfSome o IsFragmentCertified
found_certified group n (Some x) c v = c.each x v.0
found_certified group n None c v = tt

abbrev kept_pair : List BadPair → KeptFragment → KeptFragment → KeptPair
kept_pair b x y = record { bad = b; observations = x.observations ++ y.observations }

-- what is found by two names is a pair of the group
module _ (group : KeptGroup) (n m : List ℕ) (x y : KeptFragment) (fx : Contains group.members x × (name_of x.fragment ≡ n)) (fy : Contains group.members y × (name_of y.fragment ≡ m)) where
  pub pair_made : (clashes : List FragmentClash) (bad : List BadPair) (x' y' : KeptFragment) → clashes ≡ group.clashes → bad ≡ bad_under n m clashes → x' ≡ x → y' ≡ y
      → IsPairIn group n m (record { bad = bad; observations = x'.observations ++ y'.observations })
  pair_made clashes bad x' y' same is ex ey =
      let bads : bad ≡ bad_under (name_of x.fragment) (name_of y.fragment) group.clashes =
      is ∙ ap (bad_under n m) same ∙ ap (λ z. bad_under z m group.clashes) (sym fx.1) ∙ ap (λ z. bad_under (name_of x.fragment) z group.clashes) (sym fy.1) in
      record {
        left = x;
        right = y;
        is_left = fx.0;
        is_right = fy.0;
        first = fx.1;
        second = fy.1;
        is = ap (λ b. kept_pair b x' y') bads ∙ ap (λ u. kept_pair (bad_under (name_of x.fragment) (name_of y.fragment) group.clashes) u y') ex
            ∙ ap (λ v. kept_pair (bad_under (name_of x.fragment) (name_of y.fragment) group.clashes) x v) ey;
      }

pub both_named : (group : KeptGroup) (n m : List ℕ) (b : Bool) → HasMember group.members n → MatchBool b (HasMember group.members m) (HasMember group.members m → ⊥)
    → MatchBool b ((k : KeptPair) × IsPairIn group n m k) ((k : KeptPair) → IsPairIn group n m k → ⊥)
both_named group n m true hn hm = (pair_of group hn.0 hm.0, record { left = hn.0; right = hm.0; is_left = hn.1; is_right = hm.1; first = hn.2; second = hm.2; is = refl })
both_named group n m false hn never = λ k p. never (p.right, p.is_right, p.second)
