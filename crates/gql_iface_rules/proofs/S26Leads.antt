-- Where directives lead to nothing that leads on, none of them leads back to itself.
use Rattle.std.proofs.Common.{◌≡◌, ℕ, ◌⊎◌, inl, inr, List, [], ◌∷◌, Bool, true, false, Some, is_some, map, find, bytes_eq, cond, Contains, sym, ap, ◌∙◌, subst, refl}
use Rattle.std.specs.List.{All, list_any}
use Rattle.std.proofs.lemmas.List.Elements.{All-contains, Contains-append_cases}
use Rattle.std.proofs.lemmas.List.Folds.{list_any-from_Any}
use Rattle.std.proofs.lemmas.Slice.Eq.{bytes_eq-Decides}
use Rattle.gql_cycles.proofs.Apart.{first_step}
use Rattle.gql_cycles.proofs.Members.{Contains-nil, Contains-cases, Contains-flat_map, Contains-map_from}
use Rattle.gql_cycles.specs.Names.{Steps, IsStep, Leads}
use Rattle.gql_faults.specs.Directives.{first_directives}
use Rattle.gql_iface_rules.specs.S26DirectiveCycles.{at_sign, definition_rows, directive_row, from_type, type_row, without_sign}
use Rattle.gql_iface_rules.specs.S26Leads.{LeadsNowhere, directive_leads}
use Rattle.gql_types.specs.Possible.{name_of}
use Rattle.gql_types.specs.declared.schema.Schema.{Schema}

-- a name that is not found is not among these
found_by : (q x : List ℕ) (xs : List (List ℕ)) (b : Bool) → bytes_eq q x ≡ b → (q ≡ x) ⊎ (is_some (find (λ n. bytes_eq q n) xs) ≡ true) → is_some (cond b (Some x) (find (λ n. bytes_eq q n) xs)) ≡ true
found_by q x xs true e h = refl
found_by q x xs false e (inr t) = t
found_by q x xs false e (inl same) = let t : bytes_eq q x ≡ true = (bytes_eq-Decides q x).1 same in absurd (cc)

found : (q : List ℕ) (xs : List (List ℕ)) → Contains xs q → is_some (find (λ n. bytes_eq q n) xs) ≡ true
found q [] h = absurd (Contains-nil q h)
found q (x ∷ xs) h = found_by q x xs (bytes_eq q x) refl (elim (Contains-cases q x xs h) [ inl e ↦ inl e | inr t ↦ inr (found q xs t) ])

pub not_found : (q : List ℕ) (xs : List (List ℕ)) → is_some (find (λ n. bytes_eq q n) xs) ≡ false → Contains xs q → ⊥
not_found q xs none h = let t = found q xs h in absurd (cc)

-- a name with `@` is not without one
signed : (name q : List ℕ) → q ≡ at_sign name → is_some (without_sign q) ≡ false → ⊥
signed name q e none =
    let t : is_some (without_sign q) ≡ true = ap (λ n. is_some (without_sign n)) e in
    absurd (cc)

no_sign_in : (names : List (List ℕ)) (q : List ℕ) → list_any (λ n. is_some (without_sign n)) names ≡ false → Contains names q → (name : List ℕ) → q ≡ at_sign name → ⊥
no_sign_in names q none h name e =
    let t : is_some (without_sign q) ≡ true = ap (λ n. is_some (without_sign n)) e in
    let some : list_any (λ n. is_some (without_sign n)) names ≡ true = list_any-from_Any (λ n. is_some (without_sign n)) names (h.0, q, h.1, h.2, t) in
    absurd (cc)

module _ (s : Schema) (unsigned : list_any (λ n. is_some (without_sign n)) (directive_leads s) ≡ false) (nowhere : All (LeadsNowhere (directive_leads s)) s.types) where
  -- a step from a name with `@` leads to a name to which a directive leads
  from_sign : (name b : List ℕ) → IsStep (definition_rows s) (at_sign name) b → Contains (directive_leads s) b
  from_sign name b h = elim (Contains-append_cases (map type_row s.types) (map directive_row (first_directives s.directives)) h.0 h.1) [
    | inl t ↦
        let r = Contains-map_from type_row s.types h.0 t in
        let is : name_of r.0 ≡ at_sign name = ap (λ (x : Steps). x.name) r.2 ∙ h.2 in
        absurd (signed name (name_of r.0) is (All-contains (LeadsNowhere (directive_leads s)) s.types r.0 nowhere r.1).unsigned)
    | inr d ↦ Contains-flat_map (λ (r : Steps). r.leads) (map directive_row (first_directives s.directives)) h.0 b d h.3
  ]

  -- from there no step leads on
  no_more : (b c : List ℕ) → Contains (directive_leads s) b → IsStep (definition_rows s) b c → ⊥
  no_more b c there h = elim (Contains-append_cases (map type_row s.types) (map directive_row (first_directives s.directives)) h.0 h.1) [
    | inl t ↦
        let r = Contains-map_from type_row s.types h.0 t in
        let is : name_of r.0 ≡ b = ap (λ (x : Steps). x.name) r.2 ∙ h.2 in
        let none : from_type r.0 ≡ [] = (All-contains (LeadsNowhere (directive_leads s)) s.types r.0 nowhere r.1).ends (subst (λ n. Contains (directive_leads s) n) (sym is) there) in
        let leads : h.0.leads ≡ [] = sym (ap (λ (x : Steps). x.leads) r.2) ∙ none in
        Contains-nil c (subst (λ xs. Contains xs c) leads h.3)
    | inr d ↦
        let r = Contains-map_from directive_row (first_directives s.directives) h.0 d in
        let is : b ≡ at_sign r.0.node.name.text = sym h.2 ∙ sym (ap (λ (x : Steps). x.name) r.2) in
        no_sign_in (directive_leads s) b unsigned there r.0.node.name.text is
  ]

  pub no_directive_cycle : (name : List ℕ) → Leads (definition_rows s) (at_sign name) (at_sign name) → ⊥
  no_directive_cycle name h =
      let f = first_step h in
      let there = from_sign name f.0 f.1 in
      elim f.2 [
        | inl e ↦ no_sign_in (directive_leads s) f.0 unsigned there name e
        | inr t ↦ let g = first_step t in no_more f.0 g.0 there g.1
      ]
