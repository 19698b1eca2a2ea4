-- Classes and their places by the signatures of their fields, with one field more.
use Rattle.std.proofs.Common.{◌≡◌, ℕ, ◌<◌, ◌⊎◌, inl, inr, List, [], ◌∷◌, ◌++◌, Bool, true, false, cond, ◌&&◌, nat_eq, Option, Some, None, map, length, get_or, set, ap, sym, subst, ◌∙◌, refl, arith, length-append, Contains}
use Rattle.std.specs.HashMap as hash
use Rattle.std.specs.HashMap.{HashMap}
use Rattle.std.specs.Cmp.{booleans_Decides}
use Rattle.std.proofs.Math.Bool.{beq}
use Rattle.std.proofs.Math.ListN.{length-set}
use Rattle.std.proofs.lemmas.Bool.{cases_eq, cases_lt}
use Rattle.std.proofs.lemmas.Bool.Decides.{Decides-eqb}
use Rattle.std.proofs.lemmas.List.{get_or-set_other, get_or-set_same, get_or_append_left, get_or_past, get_or_push, get_or-map, length-map, map-set}
use Rattle.std.proofs.lemmas.List.Elements.{Contains-append_left, Contains-push_cases}
use Rattle.gql_clashes.specs.declared.sets.NumberedField.{NumberedField}
use Rattle.gql_clashes.specs.declared.sets.Sets.{Sets}
use Rattle.gql_clashes.specs.Classed.{AreFew, ArePlaced, MayJoin, Signature, same_signature, signature_of}
use Rattle.gql_clashes.specs.Compared.{AreLeaves, kind_at}
use Rattle.gql_clashes.specs.Numbered.{field_at}
use Rattle.gql_clashes.proofs.Classing.{IsLike}
use Rattle.gql_clashes.proofs.Members.{Contains-cases, Contains-here, Contains-nil}

-- ---- signatures

of_both : (a b : Bool) → (a && b) ≡ true → (a ≡ true) × (b ≡ true)
of_both true b h = (refl, h)
of_both false b h = cc

same_five : (a b c d : ℕ) (o : Bool) (e f g h : ℕ) (p : Bool) → a ≡ e → b ≡ f → o ≡ p → c ≡ g → d ≡ h → ◌≡◌ {A = Signature} (a, b, o, c, d) (e, f, p, g, h)
same_five a b c d o e f g h p x y z u v = rw (x, y, z, u, v) refl

pub same_exact : (x y : Signature) → same_signature x y ≡ true → x ≡ y
same_exact x y h =
    let d = of_both (nat_eq x.0 y.0 && nat_eq x.1 y.1 && beq x.2 y.2 && nat_eq x.3 y.3) (nat_eq x.4 y.4) h in
    let c = of_both (nat_eq x.0 y.0 && nat_eq x.1 y.1 && beq x.2 y.2) (nat_eq x.3 y.3) d.0 in
    let b = of_both (nat_eq x.0 y.0 && nat_eq x.1 y.1) (beq x.2 y.2) c.0 in
    let a = of_both (nat_eq x.0 y.0) (nat_eq x.1 y.1) b.0 in
    same_five x.0 x.1 x.3 x.4 x.2 y.0 y.1 y.3 y.4 y.2 ((Decides-eqb x.0 y.0).0 a.0) ((Decides-eqb x.1 y.1).0 a.1) ((booleans_Decides x.2 y.2).0 b.1) ((Decides-eqb x.3 y.3).0 c.1) ((Decides-eqb x.4 y.4).0 d.1)

-- a signature has all of a kind
kind_from : Signature → NumberedField
kind_from x = record { file = 0; start = 0; response_name = x.0; parent = x.1; of_object = x.2; call = x.3; shape = x.4; below = None }

kinds_by : (z : Sets) (f g : ℕ) → signature_of (field_at z f) ≡ signature_of (field_at z g) → kind_at z f ≡ kind_at z g
unfolding kind_from
kinds_by z f g e = ap (λ x. kind_from x) e

signatures_by : (z : Sets) (f g : ℕ) → kind_at z f ≡ kind_at z g → signature_of (field_at z f) ≡ signature_of (field_at z g)
signatures_by z f g e = ap (λ x. signature_of x) e

some_same : (i j : ℕ) → ◌≡◌ {A = Option ℕ} (Some i) (Some j) → i ≡ j
some_same i j e = cc

none_some : (i : ℕ) → ◌≡◌ {A = Option ℕ} None (Some i) → ⊥
none_some i e = cc

-- two fields that may be joined
both_join : (join : Bool) (f g : NumberedField) → MayJoin join f → MayJoin join g → AreLeaves f g ⊎ (join ≡ true)
both_join join f g a b = elim a [
  | inr j ↦ inr j
  | inl x ↦ elim b [ inr j ↦ inr j | inl y ↦ inl (x, y) ]
]

module _ {S : Type 0} (z : Sets) (join : Bool) (places : HashMap Signature ℕ S) (cs : List (List ℕ)) (h : ArePlaced z join places cs) where
  abbrev at : Signature → Option ℕ
  at x = hash.get same_signature places x

  pub few_by : AreFew z join cs
  few_by i j f g a b e p q = some_same i j (sym (h.has i f a p) ∙ ap (λ x. at x) (signatures_by z f g e) ∙ h.has j g b q)

  module _ (n : ℕ) (may : MayJoin join (field_at z n)) where
    abbrev key : Signature
    key = signature_of (field_at z n)

    -- the class of the signature
    module _ (i : ℕ) (found : at key ≡ Some i) where
      pub found_inside : i < length cs
      found_inside = (h.from key i found).0

      pub found_like : IsLike z (join ≡ true) (get_or cs i []) n
      found_like = let r = h.from key i found in (r.1, r.2, kinds_by z r.1 n r.3, both_join join (field_at z r.1) (field_at z n) r.4 may)

      abbrev more : List (List ℕ)
      more = set cs i (get_or cs i [] ++ n ∷ [])

      has_more : (j f : ℕ) → Contains (get_or more j []) f → MayJoin join (field_at z f) → at (signature_of (field_at z f)) ≡ Some j
      has_more j f a p = elim (cases_eq j i) [
        | inr ne ↦ h.has j f (subst (λ l. Contains l f) (get_or-set_other cs i j (get_or cs i [] ++ n ∷ []) [] ne) a) p
        | inl e ↦
            let b : Contains (get_or cs i [] ++ n ∷ []) f = subst (λ l. Contains l f) (ap (λ k. get_or more k []) e ∙ get_or-set_same cs i (get_or cs i [] ++ n ∷ []) [] found_inside) a in
            elim (Contains-push_cases (get_or cs i []) n f b) [
              | inl o ↦ h.has i f o p ∙ ap (λ k. Some k) (sym e)
              | inr s ↦ ap (λ k. at (signature_of (field_at z k))) (sym s) ∙ found ∙ ap (λ k. Some k) (sym e)
            ]
      ]

      kept : (j f : ℕ) → Contains (get_or cs j []) f → Contains (get_or more j []) f
      kept j f a = elim (cases_eq j i) [
        | inr ne ↦ subst (λ l. Contains l f) (sym (get_or-set_other cs i j (get_or cs i [] ++ n ∷ []) [] ne)) a
        | inl e ↦ subst (λ l. Contains l f) (sym (ap (λ k. get_or more k []) e ∙ get_or-set_same cs i (get_or cs i [] ++ n ∷ []) [] found_inside))
            (Contains-append_left (get_or cs i []) (n ∷ []) f (subst (λ k. Contains (get_or cs k []) f) e a))
      ]

      pub placed_joined : ArePlaced z join places more
      placed_joined = record {
        has = has_more;
        from = λ x j e. let r = h.from x j e in (omega (arith, r.0, length-set cs i (get_or cs i [] ++ n ∷ [])), r.1, kept j r.1 r.2, r.3, r.4);
      }

  module _ (n : ℕ) where
    -- a new class
    abbrev longer : List (List ℕ)
    longer = cs ++ (n ∷ []) ∷ []

    -- where a field of the longer list stands
    old_or_new : (j f : ℕ) → Contains (get_or longer j []) f → ((j < length cs) × Contains (get_or cs j []) f) ⊎ ((j ≡ length cs) × (f ≡ n))
    old_or_new j f a = elim (cases_lt j (length cs)) [
      | inl lt ↦ inl (lt, subst (λ l. Contains l f) (get_or_append_left cs ((n ∷ []) ∷ []) [] j lt) a)
      | inr ge ↦ elim (cases_lt (length cs) j) [
        | inl gt ↦ absurd (Contains-nil f (subst (λ l. Contains l f) (get_or_past longer j [] (omega (arith, gt, length-append cs ((n ∷ []) ∷ [])))) a))
        | inr le ↦
            let e : j ≡ length cs = omega (arith, ge, le) in
            let b : Contains (n ∷ []) f = subst (λ l. Contains l f) (ap (λ k. get_or longer k []) e ∙ get_or_push cs (n ∷ []) [] (length cs) refl) a in
            elim (Contains-cases f n [] b) [ inl s ↦ inr (e, s) | inr o ↦ absurd (Contains-nil f o) ]
      ]
    ]

    still : (j f : ℕ) → j < length cs → Contains (get_or cs j []) f → Contains (get_or longer j []) f
    still j f lt a = subst (λ l. Contains l f) (sym (get_or_append_left cs ((n ∷ []) ∷ []) [] j lt)) a

    inside_longer : (j : ℕ) → j < length cs → j < length longer
    inside_longer j lt = omega (arith, lt, length-append cs ((n ∷ []) ∷ []))

    pub placed_alone : (MayJoin join (field_at z n) → ⊥) → ArePlaced z join places longer
    placed_alone never = record {
      has = λ j f a p. elim (old_or_new j f a) [
        | inl o ↦ h.has j f o.1 p
        | inr s ↦ absurd (never (subst (λ k. MayJoin join (field_at z k)) s.1 p))
      ];
      from = λ x j e. let r = h.from x j e in (inside_longer j r.0, r.1, still j r.1 r.0 r.2, r.3, r.4);
    }

    module _ (may : MayJoin join (field_at z n)) (after : HashMap Signature ℕ S) (none : at (signature_of (field_at z n)) ≡ None) (u : hash.Updates same_signature places after (signature_of (field_at z n)) (Some (length cs))) where
      abbrev now : Signature → Option ℕ
      now x = hash.get same_signature after x

      other_still : (x : Signature) (b : Bool) → same_signature (signature_of (field_at z n)) x ≡ b → (j : ℕ) → at x ≡ Some j → cond b (Some (length cs)) (at x) ≡ Some j
      other_still x true e j was = absurd (none_some j (sym none ∙ ap (λ y. at y) (same_exact (signature_of (field_at z n)) x e) ∙ was))
      other_still x false e j was = was

      now_from : (x : Signature) (b : Bool) → same_signature (signature_of (field_at z n)) x ≡ b → (j : ℕ) → cond b (Some (length cs)) (at x) ≡ Some j → ((j ≡ length cs) × (signature_of (field_at z n) ≡ x)) ⊎ (at x ≡ Some j)
      now_from x true e j was = inl (sym (some_same (length cs) j was), same_exact (signature_of (field_at z n)) x e)
      now_from x false e j was = inr was

      pub placed_new : ArePlaced z join after longer
      placed_new = record {
        has = λ j f a p. elim (old_or_new j f a) [
          | inl o ↦ u.0 (signature_of (field_at z f)) ∙ other_still (signature_of (field_at z f)) (same_signature (signature_of (field_at z n)) (signature_of (field_at z f))) refl j (h.has j f o.1 p)
          | inr s ↦ ap (λ k. now (signature_of (field_at z k))) s.1 ∙ u.1 ∙ ap (λ k. Some k) (sym s.0)
        ];
        from = λ x j e. elim (now_from x (same_signature (signature_of (field_at z n)) x) refl j (sym (u.0 x) ∙ e)) [
          | inl s ↦ (
            omega (arith, s.0, length-append cs ((n ∷ []) ∷ [])),
            n,
            subst (λ l. Contains l n) (sym (ap (λ k. get_or longer k []) s.0 ∙ get_or_push cs (n ∷ []) [] (length cs) refl)) (Contains-here n []),
            s.1,
            may,
          )
          | inr o ↦ let r = h.from x j o in (inside_longer j r.0, r.1, still j r.1 r.0 r.2, r.3, r.4)
        ];
      }

pub placed_none : {S : Type 0} (z : Sets) (join : Bool) (places : HashMap Signature ℕ S) → ((x : Signature) → hash.get same_signature places x ≡ None) → ArePlaced z join places []
placed_none z join places none = record {
  has = λ i f a p. absurd (Contains-nil f a);
  from = λ x i e. absurd (none_some i (sym (none x) ∙ e));
}

-- ---- the same, from the clauses of the calls

pub never_by : (z : Sets) (join : Bool) (n : ℕ) (f : NumberedField) (b : Bool) → f ≡ field_at z n → (MayJoin join f → b ≡ true) → b ≡ false → MayJoin join (field_at z n) → ⊥
never_by z join n f b e only off may = let y : b ≡ true = only (subst (λ g. MayJoin join g) (sym e) may) in cc

pub joined_by : {S V : Type 0} (k : V → List ℕ) (z : Sets) (join : Bool) (places : HashMap Signature ℕ S) (vs : List V) (n i : ℕ) (v v' : V) → ArePlaced z join places (map k vs) → MayJoin join (field_at z n)
    → hash.get same_signature places (signature_of (field_at z n)) ≡ Some i → v ≡ get_or vs i v → k v' ≡ k v ++ n ∷ [] → ArePlaced z join places (map k (set vs i v'))
joined_by k z join places vs n i v v' h may found is e =
    let lt : i < length vs = omega (arith, found_inside z join places (map k vs) h n may i found, length-map vs k) in
    let out : k v ≡ get_or (map k vs) i [] = ap k is ∙ sym (get_or-map k vs i v [] lt) in
    let all : map k (set vs i v') ≡ set (map k vs) i (get_or (map k vs) i [] ++ n ∷ []) = map-set k vs i v' ∙ ap (λ y. set (map k vs) i y) (e ∙ ap (λ y. y ++ n ∷ []) out) in
    subst (λ y. ArePlaced z join places y) (sym all) (placed_joined z join places (map k vs) h n may i found)

pub new_by : {S V : Type 0} (k : V → List ℕ) (z : Sets) (join : Bool) (places : HashMap Signature ℕ S) (vs : List V) (n : ℕ) → ArePlaced z join places (map k vs) → MayJoin join (field_at z n)
    → (after : HashMap Signature ℕ S) (x : Signature) → x ≡ signature_of (field_at z n) → hash.get same_signature places x ≡ None → (i : ℕ) → i ≡ length vs → hash.Updates same_signature places after x (Some i)
    → (now : List (List ℕ)) → now ≡ map k vs ++ (n ∷ []) ∷ [] → ArePlaced z join after now
new_by k z join places vs n h may after x is none i l u now e =
    let len : i ≡ length (map k vs) = l ∙ sym (length-map vs k) in
    subst (λ y. ArePlaced z join after y) (sym e) (placed_new z join places (map k vs) h n may after (ap (λ y. hash.get same_signature places y) (sym is) ∙ none)
    (subst (λ j. hash.Updates same_signature places after (signature_of (field_at z n)) (Some j)) len (subst (λ y. hash.Updates same_signature places after y (Some i)) is u)))
