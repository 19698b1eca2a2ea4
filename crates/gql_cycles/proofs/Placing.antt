-- Nodes of names, one row more, and the names of marked nodes.
use Rattle.std.proofs.Common.{◌≡◌, ◌≢◌, ℕ, ◌+◌, ◌<◌, ◌≤◌, inl, inr, List, [], ◌∷◌, ◌++◌, map, length, get_or, Contains, ◌↔◌, Option, Some, Bool, true, false, cond, bytes_eq, sym, ◌∙◌, subst, arith}
use Rattle.std.proofs.lemmas.List.{get_or_default, length-map}
use Rattle.std.proofs.lemmas.List.Elements.{Contains-get_or, Contains-push, Contains-push_cases, Contains-append_left}
use Rattle.std.proofs.lemmas.List.Quantifiers.{all_pairs_push}
use Rattle.std.proofs.lemmas.Slice.Eq.{bytes_eq-Decides}
use Rattle.std.proofs.lemmas.Bool.{cases_Bool, cases_eq}
use Rattle.gql_cycles.specs.NameGraph.{names_of, AreApart, IsMarked, IsNodeOf, MarksApart, Nodes}
use Rattle.gql_cycles.proofs.Members.{read_at}
use Rattle.gql_cycles.specs.Names.{Steps}

-- the names so far have nodes
pub record Placed (names : List (List ℕ)) (node : List ℕ → Option ℕ) (n : ℕ) : Type 0 where
  pub there : (q : List ℕ) (i : ℕ) → node q ≡ Some i → (i < n) × IsNodeOf names i q
  pub each : (k : ℕ) → k < n → (i : ℕ) × (node (get_or names k []) ≡ Some i)

pub noded_all : (names : List (List ℕ)) (node : List ℕ → Option ℕ) (n : ℕ) → length names ≤ n → Placed names node n → Nodes names node
noded_all names node n le w = record {
  there = λ q i e. (w.there q i e).1;
  each = λ q c.
      let r = w.each c.0 (omega (arith, c.1)) in
      let e : get_or names c.0 [] ≡ q = get_or_default names c.0 [] q c.1 ∙ c.2 in
      (r.0, subst (λ p. node p ≡ Some r.0) e r.1);
}

module _ (names : List (List ℕ)) (node node' : List ℕ → Option ℕ) (n : ℕ) (q0 : List ℕ) (at_n : get_or names n [] ≡ q0) (fits : n < length names) (up : (q : List ℕ) → node' q ≡ cond (bytes_eq q0 q) (Some n) (node q)) (w : Placed names node n) where
  here : (q : List ℕ) → bytes_eq q0 q ≡ true → node' q ≡ Some n
  here q t = let u : node' q ≡ cond (bytes_eq q0 q) (Some n) (node q) = up q in let s : node' q ≡ Some n = rw t at u in s

  other : (q : List ℕ) → bytes_eq q0 q ≡ false → node' q ≡ node q
  other q f = let u : node' q ≡ cond (bytes_eq q0 q) (Some n) (node q) = up q in let s : node' q ≡ node q = rw f at u in s

  there_more : (q : List ℕ) (i : ℕ) → node' q ≡ Some i → (i < n + 1) × IsNodeOf names i q
  there_more q i e = elim (cases_Bool (bytes_eq q0 q)) [
    | inl t ↦
        let h : Some n ≡ Some i = sym (here q t) ∙ e in
        let k : n ≡ i = cc in
        let m : q0 ≡ q = (bytes_eq-Decides q0 q).0 t in
        (omega arith, (omega arith, subst (λ j. get_or names j [] ≡ q) k (at_n ∙ m)))
    | inr f ↦ let r = w.there q i (sym (other q f) ∙ e) in (omega (arith, r.0), r.1)
  ]

  each_more : (k : ℕ) → k < n + 1 → (i : ℕ) × (node' (get_or names k []) ≡ Some i)
  each_more k lt = elim (cases_Bool (bytes_eq q0 (get_or names k []))) [
    | inl t ↦ (n, here (get_or names k []) t)
    | inr f ↦ elim (cases_eq k n) [
      | inl e ↦
          let t : bytes_eq q0 (get_or names k []) ≡ true = (bytes_eq-Decides q0 (get_or names k [])).1 (subst (λ j. q0 ≡ get_or names j []) (sym e) (sym at_n)) in
          absurd (cc)
      | inr ne ↦ let r = w.each k (omega arith) in (r.0, other (get_or names k []) f ∙ r.1)
    ]
  ]

  pub noded_more : Placed names node' (n + 1)
  noded_more = record { there = there_more; each = each_more }

-- one of the first nodes is marked, and of the name q
abbrev pub IsMarkedBelow : List (List ℕ) → List Bool → ℕ → List ℕ → Type 0
IsMarkedBelow names marks n q = (i : ℕ) × (i < n) × IsNodeOf names i q × (get_or marks i false ≡ true)

pub found_all : (names : List (List ℕ)) (marks : List Bool) (found : List (List ℕ)) (n : ℕ) (q : List ℕ) → length names ≤ n → Contains found q ↔ IsMarkedBelow names marks n q → Contains found q ↔ IsMarked names marks q
found_all names marks found n q le w = (λ c. let m = w.0 c in (m.0, m.2, m.3), λ m. w.1 (m.0, omega (arith, m.1.0), m.1, m.2))

module _ (names : List (List ℕ)) (marks : List Bool) (found : List (List ℕ)) (n : ℕ) (q0 : List ℕ) (fits : n < length names) (at_n : get_or names n [] ≡ q0) (w : (q : List ℕ) → Contains found q ↔ IsMarkedBelow names marks n q) where
  pub found_marked : get_or marks n false ≡ true → (q : List ℕ) → Contains (found ++ q0 ∷ []) q ↔ IsMarkedBelow names marks (n + 1) q
  found_marked t q = (
    λ c. elim (Contains-push_cases found q0 q c) [
      | inl o ↦ let m = (w q).0 o in (m.0, omega (arith, m.1), m.2, m.3)
      | inr e ↦ (n, omega arith, (fits, at_n ∙ e), t)
    ],
    λ m. elim (cases_eq m.0 n) [
      | inl e ↦
          let s : q0 ≡ q = sym at_n ∙ (subst (λ i. get_or names i [] ≡ q) e m.2.1) in
          subst (λ z. Contains (found ++ q0 ∷ []) z) s (Contains-push found q0)
      | inr ne ↦ Contains-append_left found (q0 ∷ []) q ((w q).1 (m.0, omega (arith, m.1, ne), m.2, m.3))
    ],
  )

  pub found_once : get_or marks n false ≡ true → MarksApart names marks → AreApart found → AreApart (found ++ q0 ∷ [])
  found_once t apart once = all_pairs_push (λ a b. a ≢ b) found q0 once (λ k d lt e.
      let m = (w (get_or found k d)).0 (Contains-get_or found k d lt) in
      let s : m.0 ≡ n = apart m.0 n m.3 t (m.2.1 ∙ e ∙ sym at_n) in
      omega (arith, m.1))

  pub found_other : get_or marks n false ≡ false → (q : List ℕ) → Contains found q ↔ IsMarkedBelow names marks (n + 1) q
  found_other f q = (
    λ c. let m = (w q).0 c in (m.0, omega (arith, m.1), m.2, m.3),
    λ m. elim (cases_eq m.0 n) [
      | inl e ↦
          let t : get_or marks n false ≡ true = subst (λ i. get_or marks i false ≡ true) e m.3 in
          absurd (cc)
      | inr ne ↦ (w q).1 (m.0, omega (arith, m.1, ne), m.2, m.3)
    ],
  )

-- the names of rows that a function was put over
pub names_length : {R : Type 0} (f : R → Steps) (rows : List R) → length (names_of (map f rows)) ≡ length rows
names_length f rows = length-map (map f rows) (λ r. r.name) ∙ length-map rows f

pub name_at : {R : Type 0} (f : R → Steps) (rows : List R) (n : ℕ) (r : R) → n < length rows → r ≡ get_or rows n r → get_or (names_of (map f rows)) n [] ≡ (f r).name
name_at f rows n r lt is = read_at (λ s. s.name) (map f rows) n (f r) [] (omega (arith, length-map rows f)) (sym (read_at f rows n r (f r) lt is))
