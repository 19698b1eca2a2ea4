-- The types that have other possible types after an edit than before, one type after the other.
use Rattle.std.specs.Prelude.{◌≡◌, ◌<◌, ◌+◌, ℕ, zero, suc, refl, List, [], ◌∷◌, ◌++◌, Bool, true, None, Some, length, option_and_then, Contains}
use Rattle.std.proofs.Common.{sym, ap, ◌∙◌, subst, inl, inr, get_or, take, arith}
use Rattle.std.proofs.lemmas.List.Elements.{Contains-append_left, Contains-push, Contains-push_cases}
use Rattle.gql_facts.specs.ListMembers.{Contains-nil}
use Rattle.gql_facts.specs.Tables.{type_in}
use Rattle.gql_facts.specs.declared.schema_facts.SchemaFacts.{SchemaFacts}
use Rattle.gql_facts.specs.declared.schema_facts.TypeEntry.{TypeEntry}
use Rattle.gql_verdict.specs.SchemaEdits.{AreMoved, IsSamePossible, possible_in}
use Rattle.gql_verdict.proofs.Seen.{seen_here, seen_more, seen_old}

-- of no types none are moved
pub none_moved : (before : SchemaFacts) (xs : List TypeEntry) → AreMoved before (take 0 xs) []
none_moved before xs = record { from = λ n c. absurd (Contains-nil n c); to = λ e c. absurd (omega (arith, c.1)) }

module _ (before : SchemaFacts) (xs : List TypeEntry) (i : ℕ) (x : TypeEntry) (lt : i < length xs) (is : x ≡ get_or xs i x) (names : List (List ℕ)) (so_far : AreMoved before (take i xs) names) where
  -- a type that has the same possible types
  pub moved_same : IsSamePossible before x → AreMoved before (take (i + 1) xs) names
  moved_same same = record {
    from = λ n c. let r = so_far.from n c in (r.0, seen_old xs i x lt is r.0 r.1, r.2, r.3);
    to = λ e c. elim (seen_more xs i x lt is e c) [
      | inl s ↦ so_far.to e s
      | inr q ↦ inl (subst (λ (y : TypeEntry). IsSamePossible before y) q same)
    ];
  }

  -- a type that has others
  pub moved_more : (IsSamePossible before x → ⊥) → AreMoved before (take (i + 1) xs) (names ++ x.name ∷ [])
  moved_more differs = record {
    from = λ n c. elim (Contains-push_cases names x.name n c) [
      | inl s ↦ let r = so_far.from n s in (r.0, seen_old xs i x lt is r.0 r.1, r.2, r.3)
      | inr q ↦ (x, seen_here xs i x lt is, q, differs)
    ];
    to = λ e c. elim (seen_more xs i x lt is e c) [
      | inl s ↦ elim (so_far.to e s) [ inl same ↦ inl same | inr there ↦ inr (Contains-append_left names (x.name ∷ []) e.name there) ]
      | inr q ↦ inr (subst (λ n. Contains (names ++ x.name ∷ []) n) (ap (λ (y : TypeEntry). y.name) q) (Contains-push names x.name))
    ];
  }

-- whether a type has the same possible types as an earlier one of its name, or as none
pub same_as : (before : SchemaFacts) (e old : TypeEntry) → type_in before e.name ≡ Some old → (r : Bool) → ((r ≡ true → e.possible ≡ old.possible) × (e.possible ≡ old.possible → r ≡ true))
    → (r ≡ true → IsSamePossible before e) × (IsSamePossible before e → r ≡ true)
same_as before e old found r test =
    let there : possible_in before e.name ≡ old.possible = ap (option_and_then (λ (x : TypeEntry). x.possible)) found in
    (λ y. test.0 y ∙ sym there, λ s. test.1 (s ∙ there))

pub same_as_none : (before : SchemaFacts) (e : TypeEntry) → type_in before e.name ≡ None → (r : Bool) → ((r ≡ true → e.possible ≡ None) × (e.possible ≡ None → r ≡ true))
    → (r ≡ true → IsSamePossible before e) × (IsSamePossible before e → r ≡ true)
same_as_none before e none r test =
    let there : possible_in before e.name ≡ None = ap (option_and_then (λ (x : TypeEntry). x.possible)) none in
    (λ y. test.0 y ∙ sym there, λ s. test.1 (s ∙ there))

-- the item at an index within a list
pub item_at : {X : Type 0} (xs : List X) (i : ℕ) → i < length xs → (x : X) × (get_or xs i x ≡ x)
item_at [] i lt = absurd (omega (arith, lt))
item_at (y ∷ ys) zero lt = (y, refl)
item_at (y ∷ ys) (suc i) lt = item_at ys i (omega (arith, lt))
