-- What a look-up by a name says of the list of entries, where each entry is seen as a value with a name.
use Rattle.std.proofs.Common.{◌≡◌, ◌∙◌, inl, inr, [], ◌∷◌, ◌++◌, ℕ, List, Bool, true, false, true≢false, Some, None, Contains, refl, sym, ap, subst, map, cond, bytes_eq, arith}
use Rattle.std.specs.Map.{lookup}
use Rattle.indexmap.specs.IndexMap.{IndexMap, insert_entry}
use Rattle.indexmap.proofs.CallerLemmas.{insert_entry-new}
use Rattle.std.proofs.lemmas.List.Elements.{Contains-append_left, Contains-append_right, Contains-append_cases, Contains-push, Contains-push_cases}
use Rattle.std.proofs.lemmas.Slice.Eq.{bytes_eq-Decides}

-- the element of a list of one
only : {X : Type 0} (x y : X) → Contains (x ∷ []) y → x ≡ y
only x y there = elim (Contains-push_cases [] x y there) [
  | inl none ↦ absurd (omega (arith, none.1))
  | inr is ↦ is
]

some_value : {V : Type 0} (v w : V) → Some v ≡ Some w → v ≡ w
some_value v w is = cc is

none_some : {V : Type 0} (v : V) → None ≡ Some v → ⊥
none_some v is = cc is

module _ {V F : Type 0} (seen : List ℕ × V → F) where
  -- what a look-up finds among the rest, or in front
  found_by : (name : List ℕ) (v : V) (e : List ℕ × V) (es : List (List ℕ × V)) (b : Bool) → bytes_eq name e.0 ≡ b → lookup (bytes_eq name) (e ∷ es) ≡ Some v
      → (lookup (bytes_eq name) es ≡ Some v → Contains (map seen es) (seen (name, v))) → Contains (map seen (e ∷ es)) (seen (name, v))
  found_by name v e es true same is rest =
      let value : e.1 ≡ v = some_value e.1 v (sym (ap (λ b. cond b (Some e.1) (lookup (bytes_eq name) es)) same) ∙ is) in
      let key : e.0 ≡ name = sym ((bytes_eq-Decides name e.0).0 same) in
      let here : seen e ≡ seen (name, v) = λ i. seen (key i, value i) in
      Contains-append_left (seen e ∷ []) (map seen es) (seen (name, v)) (subst (λ f. Contains (f ∷ []) (seen (name, v))) (sym here) (Contains-push [] (seen (name, v))))
  found_by name v e es false other is rest =
      Contains-append_right (seen e ∷ []) (map seen es) (seen (name, v)) (rest (sym (ap (λ b. cond b (Some e.1) (lookup (bytes_eq name) es)) other) ∙ is))

  -- what is found is among the values, under the name that was looked up
  pub found : (name : List ℕ) (v : V) (es : List (List ℕ × V)) → lookup (bytes_eq name) es ≡ Some v → Contains (map seen es) (seen (name, v))
  found name v [] is = absurd (none_some v is)
  found name v (e ∷ es) is = found_by name v e es (bytes_eq name e.0) refl is (found name v es)

  module _ (name_of : F → List ℕ) (says : (e : List ℕ × V) → name_of (seen e) ≡ e.0) where
    -- where a look-up finds nothing, neither the first nor one of the rest has the name
    not_found_by : (name : List ℕ) (e : List ℕ × V) (es : List (List ℕ × V)) (b : Bool) → bytes_eq name e.0 ≡ b → lookup (bytes_eq name) (e ∷ es) ≡ None → (f : F) → Contains (map seen (e ∷ es)) f
        → name_of f ≡ name → (lookup (bytes_eq name) es ≡ None → Contains (map seen es) f → ⊥) → ⊥
    not_found_by name e es true key is f there same rest = none_some e.1 (sym is ∙ ap (λ b. cond b (Some e.1) (lookup (bytes_eq name) es)) key)
    not_found_by name e es false other is f there same rest = elim (Contains-append_cases (seen e ∷ []) (map seen es) f there) [
      | inl first ↦
          let key : name ≡ e.0 = sym same ∙ sym (ap name_of (only (seen e) f first)) ∙ says e in
          true≢false (sym ((bytes_eq-Decides name e.0).1 key) ∙ other)
      | inr later ↦ rest (sym (ap (λ b. cond b (Some e.1) (lookup (bytes_eq name) es)) other) ∙ is) later
    ]

    -- where nothing is found, none of the values has the name
    pub not_found : (name : List ℕ) (es : List (List ℕ × V)) → lookup (bytes_eq name) es ≡ None → (f : F) → Contains (map seen es) f → name_of f ≡ name → ⊥
    not_found name [] is f there same = absurd (omega (arith, there.1))
    not_found name (e ∷ es) is f there same = not_found_by name e es (bytes_eq name e.0) refl is f there same (λ none later. not_found name es none f later same)

-- an entry of a name that was not there stands at the end
pub inserted : {V S : Type 0} (m : IndexMap (List ℕ) V S) (key name : List ℕ) (v : V) (new : List (List ℕ × V)) → key ≡ name → lookup (bytes_eq name) m.entries ≡ None
    → new ≡ insert_entry bytes_eq m.entries key v → new ≡ m.entries ++ (name, v) ∷ []
inserted m key name v new same none is = is ∙ ap (λ k. insert_entry bytes_eq m.entries k v) same ∙ insert_entry-new bytes_eq m name v none
