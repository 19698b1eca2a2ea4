-- The states while a path is closed, one node after another.
use Rattle.std.proofs.Common.{◌≡◌, ℕ, ◌+◌, ◌<◌, ◌≤◌, inl, inr, List, length, get_or, set, Bool, cond, nat_lt, sym, ◌∙◌, ap, subst, refl, arith}
use Rattle.std.proofs.lemmas.Bool.{cases_eq, cases_lt, lt-ltb, le-ltb}
use Rattle.std.proofs.lemmas.List.{get_or-set_same, get_or-set_other, get_or_past}
use Rattle.gql_cycles.specs.Path.{closed_from}
use Rattle.gql_cycles.specs.declared.walk.State.{State}
use Rattle.gql_cycles.specs.declared.walk.State.TheVariants.{New, OnPath, Closed}
use Rattle.gql_cycles.proofs.Walking.{new_on}

-- the state after the path was closed from a position on, up to another
abbrev pub closed_between : ℕ → Bool → ℕ → State → State
closed_between start mark end New = New
closed_between start mark end (OnPath i) = cond (nat_lt i start) (OnPath i) (cond (nat_lt i end) (Closed mark) (OnPath i))
closed_between start mark end (Closed c) = Closed c

pub between_none : (start : ℕ) (mark : Bool) (s : State) → s ≡ closed_between start mark start s
between_none start mark New = refl
between_none start mark (OnPath i) = elim (cases_lt i start) [
  | inl l ↦ let t = lt-ltb i start l in rw t refl
  | inr g ↦ let t = le-ltb i start g in rw t refl
]
between_none start mark (Closed c) = refl

pub between_all : (start : ℕ) (mark : Bool) (end : ℕ) (s : State) → ((i : ℕ) → s ≡ OnPath i → i < end) → closed_between start mark end s ≡ closed_from start mark s
between_all start mark end New h = refl
between_all start mark end (OnPath i) h = let t = lt-ltb i end (h i refl) in rw t refl
between_all start mark end (Closed c) h = refl

between_other : (start : ℕ) (mark : Bool) (m : ℕ) (s : State) → ((i : ℕ) → s ≡ OnPath i → i ≡ m → ⊥) → closed_between start mark m s ≡ closed_between start mark (m + 1) s
between_other start mark m New h = refl
between_other start mark m (OnPath i) h = elim (cases_lt i m) [
  | inl l ↦ let t = lt-ltb i m l in let u = lt-ltb i (m + 1) (omega arith) in rw (t, u) refl
  | inr g ↦
      let ne : i ≡ m → ⊥ = h i refl in
      let t = le-ltb i m g in
      let u = le-ltb i (m + 1) (elim (cases_lt m i) [ inl lt ↦ omega arith | inr le ↦ absurd (ne (omega arith)) ]) in
      rw (t, u) refl
]
between_other start mark m (Closed c) h = refl

between_here : (start : ℕ) (mark : Bool) (m : ℕ) (s : State) → s ≡ OnPath m → start ≤ m → closed_between start mark (m + 1) s ≡ Closed mark
between_here start mark m s e le = subst (λ x. closed_between start mark (m + 1) x ≡ Closed mark) (sym e)
    (let t = le-ltb m start le in let u = lt-ltb m (m + 1) (omega arith) in rw (t, u) refl)

pub node_within : (states : List State) (v i : ℕ) → get_or states v New ≡ OnPath i → v < length states
node_within states v i e = elim (cases_lt v (length states)) [
  | inl l ↦ l
  | inr g ↦ absurd (new_on (get_or_past states v New g) e)
]

pub between_more : (first states : List State) (path : List ℕ) (start m : ℕ) (mark : Bool) → start ≤ m → m < length path → length states ≡ length first →
    ((v i : ℕ) → get_or first v New ≡ OnPath i → (i < length path) × (get_or path i 0 ≡ v)) →
    get_or first (get_or path m 0) New ≡ OnPath m →
    ((v : ℕ) → get_or states v New ≡ closed_between start mark m (get_or first v New)) →
    (v : ℕ) → get_or (set states (get_or path m 0) (Closed mark)) v New ≡ closed_between start mark (m + 1) (get_or first v New)
between_more first states path start m mark le lt len there placed w v = elim (cases_eq v (get_or path m 0)) [
  | inl e ↦
      let fits : get_or path m 0 < length states = omega (arith, node_within first (get_or path m 0) m placed) in
      subst (λ x. get_or (set states (get_or path m 0) (Closed mark)) x New ≡ closed_between start mark (m + 1) (get_or first x New)) (sym e)
      (get_or-set_same states (get_or path m 0) (Closed mark) New fits ∙ sym (between_here start mark m (get_or first (get_or path m 0) New) placed le))
  | inr ne ↦
      get_or-set_other states (get_or path m 0) v (Closed mark) New ne ∙ w v ∙
      between_other start mark m (get_or first v New) (λ i s q. ne (sym (there v i s).1 ∙ ap (λ k. get_or path k 0) q))
]
