-- What selections unfold into, with the number of steps that it takes.
use Rattle.std.proofs.Common.{◌≡◌, ◌+◌, ℕ, zero, suc, List, [], ◌∷◌, ◌++◌, refl, ap, sym, ◌∙◌, subst, arith, append_assoc}
use Rattle.gql_collect.specs.Nodes.{FileSelection, FieldNode, Part, node, selections}

module _ (part : FileSelection → Part) where
  pub data Runs : List FileSelection → List FieldNode → ℕ → Type 0 where
    done : Runs [] [] zero
    kept : {x : FileSelection} {o : FieldNode} {rest : List FileSelection} {os : List FieldNode} {n : ℕ}
        → part x ≡ node o → Runs rest os n → Runs (x ∷ rest) (o ∷ os) (suc n)
    replaced : {x : FileSelection} {xs rest : List FileSelection} {os : List FieldNode} {n : ℕ}
        → part x ≡ selections xs → Runs (xs ++ rest) os n → Runs (x ∷ rest) os (suc n)

  -- one after the other
  pub record Both (xs ys : List FileSelection) (os : List FieldNode) (n : ℕ) : Type 0 where
    pub m : ℕ
    pub k : ℕ
    pub ps : List FieldNode
    pub qs : List FieldNode
    pub first : Runs xs ps m
    pub second : Runs ys qs k
    pub count : m + k ≡ n
    pub outs : ps ++ qs ≡ os

  kept_first : {x : FileSelection} {o : FieldNode} {xs ys : List FileSelection} {os : List FieldNode} {n : ℕ}
      → part x ≡ node o → Both xs ys os n → Both (x ∷ xs) ys (o ∷ os) (suc n)
  kept_first {o = o} e b = record {
    m = suc b.m;
    k = b.k;
    ps = o ∷ b.ps;
    qs = b.qs;
    first = kept e b.first;
    second = b.second;
    count = let c = b.count in omega (arith, c);
    outs = ap (λ r. o ∷ r) b.outs;
  }

  replaced_first : {x : FileSelection} {zs xs ys : List FileSelection} {os : List FieldNode} {n : ℕ}
      → part x ≡ selections zs → Both (zs ++ xs) ys os n → Both (x ∷ xs) ys os (suc n)
  replaced_first e b = record {
    m = suc b.m;
    k = b.k;
    ps = b.ps;
    qs = b.qs;
    first = replaced e b.first;
    second = b.second;
    count = let c = b.count in omega (arith, c);
    outs = b.outs;
  }

  pub split : (n : ℕ) (xs ys : List FileSelection) (os : List FieldNode) → Runs (xs ++ ys) os n → Both xs ys os n
  split n [] ys os h = record {
    m = 0;
    k = n;
    ps = [];
    qs = os;
    first = done;
    second = h;
    count = omega arith;
    outs = refl;
  }
  split zero (x ∷ xs) ys os h = elim h [ ]
  split (suc n) (x ∷ xs) ys os (kept {os = os'} e r) = kept_first e (split n xs ys os' r)
  split (suc n) (x ∷ xs) ys os (replaced {xs = zs} e r) = replaced_first e (split n (zs ++ xs) ys os
      (subst (λ l. Runs l os n) (sym (append_assoc zs xs ys)) r))

  -- one outcome
  pub record Same (os qs : List FieldNode) (n k : ℕ) : Type 0 where
    pub outs : os ≡ qs
    pub count : n ≡ k

  pub clash : {A : Type 0} {o : FieldNode} {xs : List FileSelection} (x : FileSelection) → part x ≡ node o → part x ≡ selections xs → A
  clash x e f = absurd (cc (e, f))

  pub same_node : {o q : FieldNode} (x : FileSelection) → part x ≡ node o → part x ≡ node q → o ≡ q
  same_node x e f = cc (e, f)

  pub same_selections : {xs ys : List FileSelection} (x : FileSelection) → part x ≡ selections xs → part x ≡ selections ys → xs ≡ ys
  same_selections x e f = cc (e, f)

  pub one_run : {xs : List FileSelection} {os qs : List FieldNode} {n k : ℕ} → Runs xs os n → Runs xs qs k → Same os qs n k
  one_run done done = record { outs = refl; count = refl }
  one_run (kept {x = x} {o = o} {os = os} e r) (kept {o = q} {os = qs} f t) =
      let s = one_run r t in
      let same = same_node x e f in
      record {
        outs = ap (λ h. h ∷ os) same ∙ ap (λ l. q ∷ l) s.outs;
        count = ap suc s.count;
      }
  one_run (kept {x = x} e r) (replaced f t) = clash x e f
  one_run (replaced {x = x} e r) (kept f t) = clash x f e
  one_run (replaced {x = x} {rest = rest} {os = os} {n = n} e r) (replaced {os = qs} {n = k} f t) =
      let s = one_run r (subst (λ l. Runs (l ++ rest) qs k) (sym (same_selections x e f)) t) in
      record { outs = s.outs; count = ap suc s.count }
