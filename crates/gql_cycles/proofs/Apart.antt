-- Names that lead to no name of a row.
use Rattle.std.proofs.Common.{◌≡◌, ℕ, ◌⊎◌, inl, inr, List, Bool, true, false, map, Contains, Option, is_some, sym, ◌∙◌, ap, subst, refl}
use Rattle.std.specs.List.{list_any}
use Rattle.std.proofs.lemmas.List.Folds.{list_any-from_Any}
use Rattle.gql_cycles.specs.Names.{Steps, IsStep, Leads, one, more}
use Rattle.gql_cycles.specs.NameGraph.{names_of, Nodes}
use Rattle.gql_cycles.proofs.Members.{Contains-map, Contains-map_from}

-- what passes a test that nothing in the list passes
not_any : {A : Type 0} (p : A → Bool) (xs : List A) (x : A) → list_any p xs ≡ false → Contains xs x → p x ≡ true → ⊥
not_any p xs x none c t =
    let some : list_any p xs ≡ true = list_any-from_Any p xs (c.0, x, c.1, c.2, t) in
    absurd (cc)

-- the first step to a name
pub first_step : {rows : List Steps} {a c : List ℕ} → Leads rows a c → (b : List ℕ) × IsStep rows a b × ((b ≡ c) ⊎ Leads rows b c)
first_step (one {a} {b} s) = (b, s, inl refl)
first_step (more {a} {b} {c} s t) = (b, s, inr t)

-- a name of a row
is_name : (rows : List Steps) (a b : List ℕ) → IsStep rows a b → Contains (names_of rows) a
is_name rows a b s = subst (λ c. Contains (names_of rows) c) s.2 (Contains-map (λ r. r.name) rows s.0 s.1)

starts : (rows : List Steps) (a b : List ℕ) → Leads rows a b → Contains (names_of rows) a
starts rows a b h = let s = first_step h in is_name rows a s.0 s.1

-- where no row leads to a node, no name leads to itself
module _ {R B : Type 0} (f : R → Steps) (leads : R → List B) (g : B → List ℕ) (are : (r : R) → (f r).leads ≡ map g (leads r)) (rs : List R) (node : List ℕ → Option ℕ) (nodes : Nodes (names_of (map f rs)) node)
    (none : list_any (λ r. list_any (λ b. is_some (node (g b))) (leads r)) rs ≡ false) where
  no_node : (a b : List ℕ) → IsStep (map f rs) a b → Contains (names_of (map f rs)) b → ⊥
  no_node a b s c =
      let r = Contains-map_from f rs s.0 s.1 in
      let there : Contains (map g (leads r.0)) b = subst (λ xs. Contains xs b) (are r.0) (subst (λ t. Contains t.leads b) (sym r.2) s.3) in
      let x = Contains-map_from g (leads r.0) b there in
      let has = nodes.each b c in
      let some : is_some (node (g x.0)) ≡ true = ap (λ q. is_some (node q)) x.2 ∙ ap is_some has.1 in
      not_any (λ q. list_any (λ y. is_some (node (g y))) (leads q)) rs r.0 none r.1
      (list_any-from_Any (λ y. is_some (node (g y))) (leads r.0) (x.1.0, x.0, x.1.1, x.1.2, some))

  pub no_cycle : (n : List ℕ) → Leads (map f rs) n n → ⊥
  no_cycle n h =
      let s = first_step h in
      elim s.2 [
        | inl e ↦ no_node n s.0 s.1 (subst (λ q. Contains (names_of (map f rs)) q) (sym e) (starts (map f rs) n n h))
        | inr t ↦ no_node n s.0 s.1 (starts (map f rs) s.0 n t)
      ]
