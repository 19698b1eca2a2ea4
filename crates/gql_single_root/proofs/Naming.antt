-- Root fields with different response names.
use Rattle.std.specs.Prelude.{◌≡◌, ◌<◌, ◌≤◌, ℕ, List, [], ◌∷◌, map, length, true, false, Contains, refl}
use Rattle.std.proofs.Common.{ap, sym, ◌∙◌, subst, get_or, true≢false, arith}
use Rattle.std.proofs.lemmas.List.Elements.{Contains-get_or}
use Rattle.gql_facts.specs.ListMembers.{Contains-map, Contains-here}
use Rattle.gql_single_root.specs.Walks.{AreSeveral, Found, found_of, name_of}
use Rattle.gql_single_root.specs.declared.walk.RootField.{RootField}
use Rattle.gql_single_root.proofs.Lists.{map_from}

abbrev IsSo : List RootField → Type 0
IsSo fields = AreSeveral (map found_of fields)

at : (fields : List RootField) (i : ℕ) (x : RootField) → i < length fields → x ≡ get_or fields i x → Contains (map found_of fields) (found_of x)
at fields i x lt is = Contains-map found_of fields x (subst (Contains fields) (sym is) (Contains-get_or fields i x lt))

-- one differs from the first
pub different : (fields : List RootField) (i : ℕ) (x y : RootField) → i < length fields → x ≡ get_or fields 0 x → y ≡ get_or fields i y
    → (name_of (found_of x) ≡ name_of (found_of y) → ⊥) → (true ≡ true → IsSo fields) × (IsSo fields → true ≡ true)
different fields i x y lt first item apart = (
  λ e. (found_of x, found_of y, at fields 0 x (omega (arith, lt)) first, at fields i y lt item, apart),
  λ h. refl,
)

-- all have the name of the first
same_name : (fields : List RootField) (i : ℕ) → length fields ≤ i
    → ((k : ℕ) (d : RootField) → k < i → name_of (found_of (get_or fields k d)) ≡ name_of (found_of (get_or fields 0 d)))
    → (r d : RootField) → Contains fields r → name_of (found_of r) ≡ name_of (found_of (get_or fields 0 r))
same_name fields i le all r d c =
    ap (λ z. name_of (found_of z)) (sym c.2) ∙ all c.0 r (omega (arith, le, c.1))

first_same : (fields : List RootField) (r d : RootField) → Contains fields r → get_or fields 0 r ≡ get_or fields 0 d
first_same [] r d c = absurd (omega (arith, c.1))
first_same (z ∷ zs) r d c = refl

pub none_different : (fields : List RootField) (i : ℕ) → length fields ≤ i
    → ((k : ℕ) (d : RootField) → k < i → name_of (found_of (get_or fields k d)) ≡ name_of (found_of (get_or fields 0 d)))
    → (false ≡ true → IsSo fields) × (IsSo fields → false ≡ true)
none_different fields i le all = (λ e. absurd (true≢false (sym e)), λ h. absurd (apart h)) where
  apart : IsSo fields → ⊥
  apart h =
      let p = map_from found_of fields h.0 h.2 in
      let q = map_from found_of fields h.1 h.3 in
      h.4 (ap name_of (sym p.2) ∙ same_name fields i le all p.0 p.0 p.1
      ∙ ap (λ z. name_of (found_of z)) (first_same fields p.0 q.0 p.1)
      ∙ sym (same_name fields i le all q.0 q.0 q.1) ∙ ap name_of q.2)

-- where there are fields, there is one
pub some_field : (fields : List RootField) → 0 < length fields → (z : Found) × Contains (map found_of fields) z
some_field [] lt = absurd (omega (arith, lt))
some_field (x ∷ xs) lt = (found_of x, Contains-here (found_of x) (map found_of xs))
