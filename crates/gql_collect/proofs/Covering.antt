-- A walk that opens what a name stands for once only: the fields that it has met are the first of each
-- of those that the selections unfold into.
use Rattle.std.proofs.Common.{◌≡◌, ◌⊎◌, ◌≤◌, ℕ, suc, List, [], ◌∷◌, ◌++◌, Bool, true, refl, ap, sym, ◌∙◌, subst, inl, inr, arith, append_assoc}
use Rattle.std.proofs.lemmas.List.Folds.{list_any-append}
use Rattle.std.specs.Cmp.{IsEquivalence}
use Rattle.std.specs.List.{list_any}
use Rattle.indexmap.specs.IndexSet.{insert_key, insert_all}
use Rattle.gql_collect.specs.Nodes.{FileSelection, FieldNode, Part, node, selections}
use Rattle.gql_collect.proofs.Firsts.{either, insert_all-append}
use Rattle.gql_collect.proofs.Runs.{Runs, done, kept, replaced, split, one_run, clash, same_node, same_selections}

-- u is among these
abbrev pub In : {A : Type 0} → A → List A → Type 0
In u [] = ⊥
In u (x ∷ xs) = (u ≡ x) ⊎ In u xs

pub in_append : {A : Type 0} (u : A) (xs ys : List A) → In u (xs ++ ys) → In u xs ⊎ In u ys
in_append u [] ys h = inr h
in_append u (x ∷ xs) ys (inl e) = inl (inl e)
in_append u (x ∷ xs) ys (inr h) = elim (in_append u xs ys h) [
  | inl a ↦ inl (inr a)
  | inr b ↦ inr b
]

-- ---- what is there

module _ (same : FieldNode → FieldNode → Bool) where
  abbrev pub has : List FieldNode → FieldNode → Bool
  has out o = list_any (same o) out

  pub has_still : (out : List FieldNode) (o u : FieldNode) → has out u ≡ true → has (insert_key same out o) u ≡ true
  has_still out o u h = elim (either (has out o)) [
    | inl e ↦ rw e h
    | inr e ↦ rw e (list_any-append (same u) out (o ∷ []) ∙ rw h refl)
  ]

  pub has_added : IsEquivalence same → (out : List FieldNode) (o : FieldNode) → has (insert_key same out o) o ≡ true
  has_added laws out o = elim (either (has out o)) [
    | inl e ↦ rw e e
    | inr e ↦ rw e (list_any-append (same o) out (o ∷ []) ∙ rw (e, laws.refl o) refl)
  ]

  pub all_there : (out us : List FieldNode) → ((u : FieldNode) → In u us → has out u ≡ true) → insert_all same out us ≡ out
  all_there out [] there = refl
  all_there out (u ∷ us) there =
      let e = there u (inl refl) in
      rw e (all_there out us (λ v h. there v (inr h)))

-- ---- a walk that opens each name once

module _ (part : FileSelection → Part) (same : FieldNode → FieldNode → Bool) (laws : IsEquivalence same)
    (body : List ℕ → List FileSelection) where
  -- what is left of what the name k stands for
  pub record Covered (out : List FieldNode) (top : List FileSelection) (us : List FieldNode) (n : ℕ) : Type 0 where
    pub ts : List FieldNode
    pub m : ℕ
    pub runs : Runs part top ts m
    pub within : m ≤ n
    pub all : (u : FieldNode) → In u us → (has same out u ≡ true) ⊎ In u ts

  pub record Tracks (out : List FieldNode) (items : List FileSelection) (k : List ℕ) : Type 0 where
    pub top : List FileSelection
    pub bottom : List FileSelection
    pub is : top ++ bottom ≡ items
    pub covered : (us : List FieldNode) (n : ℕ) → Runs part (body k) us n → Covered out top us n

  pub record Going (visited : List ℕ → Bool) (out : List FieldNode) (items : List FileSelection) (target : List FieldNode) : Type 0 where
    pub rest : List FieldNode
    pub n : ℕ
    pub runs : Runs part items rest n
    pub total : insert_all same out rest ≡ target
    pub tracks : (k : List ℕ) → visited k ≡ true → Tracks out items k

  -- ---- steps

  covered_here : (out : List FieldNode) (us : List FieldNode) (n : ℕ) → ((u : FieldNode) → In u us → has same out u ≡ true) → Covered out [] us n
  covered_here out us n there = record {
    ts = [];
    m = 0;
    runs = done;
    within = omega arith;
    all = λ u h. inl (there u h);
  }

  covered_end : {out us : List FieldNode} {n : ℕ} → Covered out [] us n → (u : FieldNode) → In u us → has same out u ≡ true
  covered_end {out = out} c u h = by c.runs (c.all u h) where
    none : {ts : List FieldNode} {m : ℕ} → Runs part [] ts m → In u ts → ⊥
    none done i = i

    by : {ts : List FieldNode} {m : ℕ} → Runs part [] ts m → (has same out u ≡ true) ⊎ In u ts → has same out u ≡ true
    by r (inl e) = e
    by r (inr i) = absurd (none r i)

  -- ---- a step changes what is left of each name

  -- x is replaced by zs
  abbrev Replaces : List FieldNode → FileSelection → List FileSelection → Type 0
  Replaces out x zs = (top : List FileSelection) (ts : List FieldNode) (m : ℕ) → Runs part (x ∷ top) ts m
      → Covered out (zs ++ top) ts m

  abbrev Grows : List FieldNode → List FieldNode → Type 0
  Grows out more = (u : FieldNode) → has same out u ≡ true → has same more u ≡ true

  heads : {x y : FileSelection} {xs ys : List FileSelection} → x ∷ xs ≡ y ∷ ys → x ≡ y
  heads e = cc e

  tails : {x y : FileSelection} {xs ys : List FileSelection} → x ∷ xs ≡ y ∷ ys → xs ≡ ys
  tails e = cc e

  joined : {out more : List FieldNode} {items : List FileSelection} {us : List FieldNode} {n : ℕ} → Grows out more → (c : Covered out items us n)
      → (zs : List FileSelection) → Covered more zs c.ts c.m → Covered more zs us n
  joined {out = out} {more = more} {us = us} grows c zs d = record {
    ts = d.ts;
    m = d.m;
    runs = d.runs;
    within = let a = c.within in let b = d.within in omega (arith, a, b);
    all = λ u h. by u (c.all u h);
  } where
    by : (u : FieldNode) → (has same out u ≡ true) ⊎ In u c.ts → (has same more u ≡ true) ⊎ In u d.ts
    by u (inl e) = inl (grows u e)
    by u (inr i) = d.all u i

  tracks_step : {out more : List FieldNode} {x : FileSelection} {rest : List FileSelection} {k : List ℕ} → Grows out more → (zs : List FileSelection)
      → Replaces more x zs → Tracks out (x ∷ rest) k → Tracks more (zs ++ rest) k
  tracks_step {out = out} {more = more} {x = x} {rest = rest} {k = k} grows zs replaces t =
      by t.top t.is t.covered where
        by : (top : List FileSelection) → top ++ t.bottom ≡ x ∷ rest
            → ((us : List FieldNode) (n : ℕ) → Runs part (body k) us n → Covered out top us n) → Tracks more (zs ++ rest) k
        by [] e covered = record {
          top = [];
          bottom = zs ++ rest;
          is = refl;
          covered = λ us n r. covered_here more us n (λ u h. grows u (covered_end (covered us n r) u h));
        }
        by (y ∷ top) e covered = record {
          top = zs ++ top;
          bottom = t.bottom;
          is = append_assoc zs top t.bottom ∙ ap (λ l. zs ++ l) (tails e);
          covered = λ us n r.
              let c = covered us n r in
              joined grows c (zs ++ top)
              (replaces top c.ts c.m (subst (λ z. Runs part (z ∷ top) c.ts c.m) (heads e) c.runs));
        }

  -- ---- a node

  kept_replaces : (out : List FieldNode) (x : FileSelection) (o : FieldNode) → part x ≡ node o → Replaces (insert_key same out o) x []
  kept_replaces out x o e top ts m (kept {o = q} {os = os} {n = n} f r) = record {
    ts = os;
    m = n;
    runs = r;
    within = omega arith;
    all = by;
  } where
    by : (u : FieldNode) → In u (q ∷ os) → (has same (insert_key same out o) u ≡ true) ⊎ In u os
    by u (inl i) = inl (subst (λ v. has same (insert_key same out o) v ≡ true) (same_node part x e f ∙ sym i) (has_added same laws out o))
    by u (inr i) = inr i
  kept_replaces out x o e top ts m (replaced f r) = clash part x e f

  pub going_kept : {visited : List ℕ → Bool} {out : List FieldNode} {x : FileSelection} {o : FieldNode} {rest : List FileSelection} {target : List FieldNode}
      → part x ≡ node o → Going visited out (x ∷ rest) target → Going visited (insert_key same out o) rest target
  going_kept {visited = visited} {out = out} {x = x} {o = o} {rest = rest} {target = target} e g = by g.runs g.total where
    by : {os : List FieldNode} {n : ℕ} → Runs part (x ∷ rest) os n → insert_all same out os ≡ target → Going visited (insert_key same out o) rest target
    by (kept {o = q} {os = os} {n = n} f r) total = record {
      rest = os;
      n = n;
      runs = r;
      total = subst (λ p. insert_all same (insert_key same out p) os ≡ target) (sym (same_node part x e f)) total;
      tracks = λ k v. tracks_step (λ u h. has_still same out o u h) [] (kept_replaces out x o e) (g.tracks k v);
    }
    by (replaced f r) total = clash part x e f

  -- ---- what is in its place

  opened_replaces : (out : List FieldNode) (x : FileSelection) (zs : List FileSelection) → part x ≡ selections zs → Replaces out x zs
  opened_replaces out x zs e top ts m (replaced {n = n} f r) = record {
    ts = ts;
    m = n;
    runs = subst (λ l. Runs part (l ++ top) ts n) (sym (same_selections part x e f)) r;
    within = omega arith;
    all = λ u i. inr i;
  }
  opened_replaces out x zs e top ts m (kept f r) = clash part x f e

  opened_runs : {x : FileSelection} {zs rest : List FileSelection} {os : List FieldNode} {n : ℕ} → part x ≡ selections zs → Runs part (x ∷ rest) os n
      → (k : ℕ) × (n ≡ suc k) × Runs part (zs ++ rest) os k
  opened_runs {x = x} {rest = rest} e (replaced {os = os} {n = n} f r) = (n, refl, subst (λ l. Runs part (l ++ rest) os n) (sym (same_selections part x e f)) r)
  opened_runs {x = x} e (kept f r) = clash part x f e

  pub going_opened : {visited : List ℕ → Bool} {out : List FieldNode} {x : FileSelection} {rest : List FileSelection} {target : List FieldNode} (zs : List FileSelection)
      → part x ≡ selections zs → Going visited out (x ∷ rest) target → Going visited out (zs ++ rest) target
  going_opened {out = out} {x = x} zs e g =
      let r = opened_runs e g.runs in
      record {
        rest = g.rest;
        n = r.0;
        runs = r.2;
        total = g.total;
        tracks = λ k v. tracks_step (λ u h. h) zs (opened_replaces out x zs e) (g.tracks k v);
      }

  -- ---- a name, for the first time

  tracked : (out : List FieldNode) (k : List ℕ) (rest : List FileSelection) → Tracks out (body k ++ rest) k
  tracked out k rest = record {
    top = body k;
    bottom = rest;
    is = refl;
    covered = λ us n r. record { ts = us; m = n; runs = r; within = omega arith; all = λ u i. inr i };
  }

  pub going_entered : {visited more : List ℕ → Bool} {out : List FieldNode} {x : FileSelection} {rest : List FileSelection} {target : List FieldNode} (k : List ℕ)
      → part x ≡ selections (body k) → ((q : List ℕ) → more q ≡ true → (visited q ≡ true) ⊎ (q ≡ k))
      → Going visited out (x ∷ rest) target → Going more out (body k ++ rest) target
  going_entered {visited = visited} {more = more} {out = out} {rest = rest} k e grown g =
      let h = going_opened (body k) e g in
      record {
        rest = h.rest;
        n = h.n;
        runs = h.runs;
        total = h.total;
        tracks = λ q v. by h.tracks q (grown q v);
      } where
        by : ((j : List ℕ) → visited j ≡ true → Tracks out (body k ++ rest) j) → (q : List ℕ) → (visited q ≡ true) ⊎ (q ≡ k) → Tracks out (body k ++ rest) q
        by old q (inl v) = old q v
        by old q (inr same_name) = subst (λ j. Tracks out (body k ++ rest) j) (sym same_name) (tracked out k rest)

  -- ---- a name that was opened before

  closed : {out : List FieldNode} {x : FileSelection} {rest : List FileSelection} {k : List ℕ} → part x ≡ selections (body k) → Tracks out (x ∷ rest) k
      → (us : List FieldNode) (n : ℕ) → Runs part (body k) us n → (u : FieldNode) → In u us → has same out u ≡ true
  closed {out = out} {x = x} {rest = rest} {k = k} e t us n r = by t.top t.is (t.covered us n r) where
    by : (top : List FileSelection) → top ++ t.bottom ≡ x ∷ rest → Covered out top us n → (u : FieldNode) → In u us → has same out u ≡ true
    by [] f c u i = covered_end c u i
    by (y ∷ top) f c u i =
        let s = opened_runs e (subst (λ z. Runs part (z ∷ top) c.ts c.m) (heads f) c.runs) in
        let b = split part s.0 (body k) top c.ts s.2 in
        let one = (one_run part b.first r).count in
        let w = c.within in let q = s.1 in let count = b.count in
        absurd (omega (arith, one, w, q, count))

  skipped_replaces : (out : List FieldNode) (x : FileSelection) (k : List ℕ) → part x ≡ selections (body k)
      → ((us : List FieldNode) (n : ℕ) → Runs part (body k) us n → (u : FieldNode) → In u us → has same out u ≡ true) → Replaces out x []
  skipped_replaces out x k e there top ts m r =
      let s = opened_runs e r in
      let b = split part s.0 (body k) top ts s.2 in
      let q = s.1 in let count = b.count in
      record {
        ts = b.qs;
        m = b.k;
        runs = b.second;
        within = omega (arith, q, count);
        all = λ u i. by b.ps b.m b.first b.qs u (in_append u b.ps b.qs (subst (λ l. In u l) (sym b.outs) i));
      } where
        by : (ps : List FieldNode) (n : ℕ) → Runs part (body k) ps n → (qs : List FieldNode) (u : FieldNode) → In u ps ⊎ In u qs
            → (has same out u ≡ true) ⊎ In u qs
        by ps n first qs u (inl i) = inl (there ps n first u i)
        by ps n first qs u (inr i) = inr i

  pub going_skipped : {visited : List ℕ → Bool} {out : List FieldNode} {x : FileSelection} {rest : List FileSelection} {target : List FieldNode} (k : List ℕ)
      → part x ≡ selections (body k) → visited k ≡ true
      → Going visited out (x ∷ rest) target → Going visited out rest target
  going_skipped {out = out} {x = x} {rest = rest} {target = target} k e v g =
      let there = closed e (g.tracks k v) in
      let s = opened_runs e g.runs in
      let b = split part s.0 (body k) rest g.rest s.2 in
      record {
        rest = b.qs;
        n = b.k;
        runs = b.second;
        total = sym (ap (λ l. insert_all same l b.qs) (all_there same out b.ps (there b.ps b.m b.first)))
            ∙ sym (insert_all-append same laws out b.ps b.qs) ∙ ap (λ l. insert_all same out l) b.outs ∙ g.total;
        tracks = λ j w. tracks_step (λ u h. h) [] (skipped_replaces out x k e there) (g.tracks j w);
      }

  pub going_ended : {visited : List ℕ → Bool} {out target : List FieldNode} → Going visited out [] target → out ≡ target
  going_ended {out = out} {target = target} g = by g.runs g.total where
    by : {os : List FieldNode} {n : ℕ} → Runs part [] os n → insert_all same out os ≡ target → out ≡ target
    by done total = total
