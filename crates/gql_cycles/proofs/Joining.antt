-- The edges that rows make, one row more.
use Rattle.std.proofs.Common.{◌≡◌, ℕ, ◌+◌, ◌<◌, ◌⊎◌, inl, inr, List, [], ◌++◌, map, flat_map, length, get_or, set, take, Contains, Option, Some, sym, ◌∙◌, ap, subst, refl, arith}
use Rattle.std.specs.Option.{option_to_list}
use Rattle.std.proofs.Math.ListN.{length-set}
use Rattle.std.proofs.lemmas.List.{length-map, get_or-map, map-set, get_or-set_same, get_or-set_other}
use Rattle.std.proofs.lemmas.Bool.{cases_eq}
use Rattle.std.proofs.lemmas.List.Elements.{Contains-append_left, Contains-append_right, Contains-append_cases}
use Rattle.gql_cycles.specs.Names.{Steps}
use Rattle.gql_cycles.specs.Nodes.{IsEdge, IsGraph}
use Rattle.gql_cycles.specs.NameGraph.{Nodes, RowJoins, Joins, AddsRow}
use Rattle.gql_cycles.proofs.Members.{Contains-flat_map, Contains-flat_map_from, option_has, option_has_from, flat_map-map, take_has, take_kept}

-- the nodes of the names to which a row leads
abbrev ends : (List ℕ → Option ℕ) → Steps → List ℕ
ends node row = flat_map (λ b. option_to_list (node b)) row.leads

module _ (node : List ℕ → Option ℕ) (row : Steps) (old : List (List ℕ)) (at : ℕ) (is_at : node row.name ≡ Some at) (fits : at < length old) where
  new : List (List ℕ)
  new = set old at (get_or old at [] ++ ends node row)

  at_new : get_or new at [] ≡ get_or old at [] ++ ends node row
  unfolding new
  at_new = get_or-set_same old at (get_or old at [] ++ ends node row) [] fits

  other_new : (i : ℕ) → (i ≡ at → ⊥) → get_or new i [] ≡ get_or old i []
  unfolding new
  other_new i ne = get_or-set_other old at i (get_or old at [] ++ ends node row) [] ne

  kept_new : (i j : ℕ) → IsEdge old i j → IsEdge new i j
  kept_new i j h = elim (cases_eq i at) [
    | inl e ↦ subst (λ k. IsEdge new k j) (sym e) (subst (λ xs. Contains xs j) (sym at_new) (Contains-append_left (get_or old at []) (ends node row) j (subst (λ k. IsEdge old k j) e h)))
    | inr ne ↦ subst (λ xs. Contains xs j) (sym (other_new i ne)) h
  ]

  added_new : (i j : ℕ) → RowJoins node row i j → IsEdge new i j
  added_new i j h =
      let z : Some at ≡ Some i = sym is_at ∙ h.1 in
      let e : at ≡ i = cc in
      let c : Contains (ends node row) j = Contains-flat_map (λ b. option_to_list (node b)) row.leads h.0 j h.2 (option_has (node h.0) j h.3) in
      subst (λ k. IsEdge new k j) e (subst (λ xs. Contains xs j) (sym at_new) (Contains-append_right (get_or old at []) (ends node row) j c))

  only_new : (i j : ℕ) → IsEdge new i j → IsEdge old i j ⊎ RowJoins node row i j
  only_new i j h = elim (cases_eq i at) [
    | inl e ↦ elim (Contains-append_cases (get_or old at []) (ends node row) j (subst (λ xs. Contains xs j) at_new (subst (λ k. IsEdge new k j) e h))) [
      | inl o ↦ inl (subst (λ k. IsEdge old k j) (sym e) o)
      | inr c ↦
          let r = Contains-flat_map_from (λ b. option_to_list (node b)) row.leads j c in
          inr (r.0, subst (λ k. node row.name ≡ Some k) (sym e) is_at, r.1, option_has_from (node r.0) j r.2)
    ]
    | inr ne ↦ inl (subst (λ xs. Contains xs j) (other_new i ne) h)
  ]

  pub adds_some : (edges : List (List ℕ)) → edges ≡ set old at (get_or old at [] ++ flat_map (λ b. option_to_list (node b)) row.leads) → AddsRow node row old edges
  unfolding new
  adds_some edges e = subst (λ g. AddsRow node row old g) (sym e) (record {
    length_is = length-set old at (get_or old at [] ++ ends node row);
    kept = kept_new;
    added = added_new;
    only = only_new;
  })

pub joins_more : (node : List ℕ → Option ℕ) (rows : List Steps) (n : ℕ) (row : Steps) (before after : List (List ℕ)) → n < length rows → get_or rows n row ≡ row → Joins node (take n rows) before → AddsRow node row before after → Joins node (take (n + 1) rows) after
joins_more node rows n row before after lt is w a = record {
  sound = λ i j h. elim (a.only i j h) [
    | inl o ↦ let r = w.sound i j o in (r.0, take_kept rows n row r.0 lt is (inl r.1), r.2)
    | inr s ↦ (row, take_kept rows n row row lt is (inr refl), s)
  ];
  complete = λ r i j c h. elim (take_has rows n row r lt is c) [
    | inl o ↦ a.kept i j (w.complete r i j o h)
    | inr e ↦ a.added i j (subst (λ s. RowJoins node s i j) (sym e) h)
  ];
}

-- the edges end at nodes
pub joins_within : (names : List (List ℕ)) (node : List ℕ → Option ℕ) (rows : List Steps) (graph : List (List ℕ)) → Nodes names node → Joins node rows graph → length graph ≡ length names → IsGraph graph
joins_within names node rows graph p w e i j h =
    let r = w.sound i j h in
    let t = p.there r.2.0 j r.2.3 in
    omega (arith, t.0, e)

-- the same, as the clauses of the calls give it
pub adds_answer : {V L : Type 0} (f : V → List ℕ) (g : L → List ℕ) (node : List ℕ → Option ℕ) (row : Steps) (edges : List V) (at : ℕ) (v v' : V) (leads : List L) → node row.name ≡ Some at → at < length edges → v ≡ get_or edges at v → row.leads ≡ map g leads → f v' ≡ f v ++ flat_map (λ b. option_to_list (node (g b))) leads → AddsRow node row (map f edges) (map f (set edges at v'))
adds_answer f g node row edges at v v' leads is_at fits is e h =
    let out : f v ≡ get_or (map f edges) at [] = ap f is ∙ sym (get_or-map f edges at v [] fits) in
    let ends_are : flat_map (λ b. option_to_list (node (g b))) leads ≡ ends node row = sym (flat_map-map (λ b. option_to_list (node b)) g leads) ∙ ap (λ bs. flat_map (λ b. option_to_list (node b)) bs) (sym e) in
    let all : f v' ≡ get_or (map f edges) at [] ++ ends node row = h ∙ ap (λ xs. xs ++ flat_map (λ b. option_to_list (node (g b))) leads) out ∙ ap (λ ys. get_or (map f edges) at [] ++ ys) ends_are in
    adds_some node row (map f edges) at is_at (omega (arith, length-map edges f)) (map f (set edges at v')) (map-set f edges at v' ∙ ap (λ x. set (map f edges) at x) all)
