-- A definition asks for each fragment that its selections spread.
use Rattle.std.proofs.Common.{ℕ, List, [], ◌∷◌, ◌++◌, flat_map, Option, Some, Contains, sym, subst, inl, inr}
use Rattle.std.proofs.lemmas.List.Elements.{Contains-append_left, Contains-append_right, Contains-append_cases}
use Rattle.gql_ast.specs.declared.executable.Field.{Field}
use Rattle.gql_ast.specs.declared.executable.Fragment.{Fragment}
use Rattle.gql_ast.specs.declared.executable.InlineFragment.{InlineFragment}
use Rattle.gql_ast.specs.declared.executable.Operation.{Operation}
use Rattle.gql_ast.specs.declared.executable.Selection.{Selection}
use Rattle.gql_ast.specs.declared.executable.Selection.TheVariants as s
use Rattle.gql_ast.specs.declared.executable.Spread.{Spread}
use Rattle.gql_collect.specs.Spreads.{spreads, spreads_of, spreads_field, spreads_inline, spreads_spread}
use Rattle.gql_facts.specs.ListMembers.{Contains-nil, Contains-here, Contains-there, Contains-cases}
use Rattle.gql_facts.specs.Nodes.{composite, parent_below, parent_within}
use Rattle.gql_facts.specs.OwnReads.{composite_reads, condition_reads, directive_reads, field_reads, fragment_reads, operation_reads, root_parent, selected_root, selection_scan, set_scan, variable_reads}
use Rattle.gql_facts.specs.Worlds.{Facts}
use Rattle.gql_facts.specs.declared.key.Key.{Key}
use Rattle.gql_facts.specs.declared.key.Key.TheVariants as key
use Rattle.gql_facts.proofs.Parts.{scan_cons, scan_field, scan_inline, scan_spread}
use Rattle.gql_facts.proofs.Trees.{Each, by_set}

module _ (facts : Facts) where
  -- a selection asks for what it spreads, by whichever parent type
  abbrev Asks : Selection → Type 0
  Asks x = (p : Option (List ℕ)) (n : List ℕ) → Contains (spreads x) n
      → Contains (selection_scan facts p x) (key.FragmentOf n)

  all_ask : (xs : List Selection) (p : Option (List ℕ)) (n : List ℕ) → Each Asks xs
      → Contains (spreads_of xs) n → Contains (set_scan facts p xs) (key.FragmentOf n)
  all_ask [] p n each h = absurd (Contains-nil n h)
  all_ask (x ∷ xs) p n each h =
      let k : Key = key.FragmentOf n in
      let a = selection_scan facts p x in
      let b = set_scan facts p xs in
      subst (λ l. Contains l k) (sym (scan_cons facts p x xs))
      (elim (Contains-append_cases (spreads x) (spreads_of xs) n h) [
        | inl i ↦ Contains-append_left a b k (each.0 p n i)
        | inr i ↦ Contains-append_right a b k (all_ask xs p n each.1 i)
      ])

  of_field : (f : Field) → Each Asks f.selections → Asks (s.Field f)
  of_field f each p n h =
      let k : Key = key.FragmentOf n in
      let below = parent_below facts p f.name.text in
      let set = set_scan facts below f.selections in
      subst (λ l. Contains l k) (sym (scan_field facts p f))
      (Contains-append_right (field_reads facts p f.name.text) (directive_reads f.directives ++ set) k
      (Contains-append_right (directive_reads f.directives) set k
      (all_ask f.selections below n each (subst (λ l. Contains l n) (spreads_field f) h))))

  of_inline : (i : InlineFragment) → Each Asks i.selections → Asks (s.InlineFragment i)
  of_inline i each p n h =
      let k : Key = key.FragmentOf n in
      let within = parent_within facts p i.condition in
      let set = set_scan facts within i.selections in
      subst (λ l. Contains l k) (sym (scan_inline facts p i))
      (Contains-append_right (condition_reads i.condition) (directive_reads i.directives ++ set) k
      (Contains-append_right (directive_reads i.directives) set k
      (all_ask i.selections within n each (subst (λ l. Contains l n) (spreads_inline i) h))))

  of_spread : (x : Spread) → Asks (s.Spread x)
  of_spread x p n h =
      let k : Key = key.FragmentOf n in
      subst (λ l. Contains l k) (sym (scan_spread facts p x))
      (elim (Contains-cases n x.name.text [] (subst (λ l. Contains l n) (spreads_spread x) h)) [
        | inl e ↦ subst (λ m. Contains (key.FragmentOf m ∷ directive_reads x.directives) k) e
            (Contains-here k (directive_reads x.directives))
        | inr i ↦ absurd (Contains-nil n i)
      ])

  -- selections ask for what they spread
  pub set_asks : (xs : List Selection) (p : Option (List ℕ)) (n : List ℕ)
      → Contains (spreads_of xs) n → Contains (set_scan facts p xs) (key.FragmentOf n)
  set_asks xs p n = all_ask xs p n (by_set Asks of_field of_spread of_inline xs)

  pub fragment_asks : (f : Fragment) (n : List ℕ) → Contains (spreads_of f.selections) n
      → Contains (fragment_reads facts f) (key.FragmentOf n)
  fragment_asks f n h =
      let k : Key = key.FragmentOf n in
      let p = composite facts (Some f.condition.text) in
      let set = set_scan facts p f.selections in
      Contains-append_right (composite_reads (Some f.condition.text)) (directive_reads f.directives ++ set) k
      (Contains-append_right (directive_reads f.directives) set k (set_asks f.selections p n h))

  pub operation_asks : (o : Operation) (n : List ℕ) → Contains (spreads_of o.selections) n
      → Contains (operation_reads facts o) (key.FragmentOf n)
  operation_asks o n h =
      let k : Key = key.FragmentOf n in
      let p = root_parent facts o.kind in
      let set = set_scan facts p o.selections in
      let root = composite_reads (selected_root facts o.kind) in
      let variables = flat_map variable_reads o.variables in
      Contains-there k (key.RootOf o.kind) (root ++ (directive_reads o.directives ++ (variables ++ set)))
      (Contains-append_right root (directive_reads o.directives ++ (variables ++ set)) k
      (Contains-append_right (directive_reads o.directives) (variables ++ set) k
      (Contains-append_right variables set k (set_asks o.selections p n h))))
