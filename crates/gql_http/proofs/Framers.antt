-- The framers of a hub as its connections.
use Rattle.std.proofs.Common.{◌≡◌, ◌≢◌, ◌<◌, inl, inr, ℕ, zero, suc, List, [], ◌∷◌, length, Bool, true, false, cond, Option, Some, None, IsSome, get_or, refl, sym, ap, ◌∙◌, arith, eqb-true, subst}
use Rattle.std.specs.Prelude.{◌==◌, ◌&&◌, slice_set}
use Rattle.std.proofs.lemmas.List.{get_or-set_same, get_or-set_other, get_or_past}
use Rattle.std.proofs.lemmas.Bool.Decides.{nat_tests, leb_tells}
use Rattle.gql_wire.specs.Framing.{Framing, begun}
use Rattle.gql_http.specs.Events.{Connections, with_connection}
use Rattle.gql_http.specs.Limits.{all_have_limit, bytes_of, has_limit}

both_parts : (a b : Bool) → (a && b) ≡ true → (a ≡ true) × (b ≡ true)
both_parts true true is = (refl, refl)
both_parts true false is = absurd (cc is)
both_parts false b is = absurd (cc is)

other_number : (d c : ℕ) → (d == c) ≡ false → d ≢ c
other_number d c is = grind (arith, nat_tests)

set_by : (framers : List (Option Framing)) (c d : ℕ) (framer : Option Framing) (b : Bool) → (d == c) ≡ b → c < length framers
    → get_or (slice_set framers c framer) d None ≡ cond b framer (get_or framers d None)
set_by framers c d framer true is within =
    let same : d ≡ c = eqb-true d c is in
    ap (λ n. get_or (slice_set framers c framer) n None) same ∙ get_or-set_same framers c framer None within
set_by framers c d framer false is within = get_or-set_other framers c d framer None (other_number d c is)

bytes_by : (b : Bool) (x y : Option Framing) → bytes_of (cond b x y) ≡ cond b (bytes_of x) (bytes_of y)
bytes_by true x y = refl
bytes_by false x y = refl

-- the bytes of each connection
abbrev pub held_by : List (Option Framing) → Connections
held_by framers = λ c. bytes_of (get_or framers c None)

-- a framer that is replaced is the one of its connection
pub framer_set : (framers : List (Option Framing)) (c : ℕ) (framer : Option Framing) → c < length framers
    → held_by (slice_set framers c framer) ≡ with_connection (held_by framers) c (bytes_of framer)
framer_set framers c framer within = λ i. λ d.
    (ap bytes_of (set_by framers c d framer (d == c) refl within) ∙ bytes_by (d == c) framer (get_or framers d None)) i

-- ---- the limit of framers

-- a framer that is put has the limit, and so have all
pub limits_set : (limit : ℕ) (framers : List (Option Framing)) (c : ℕ) (framer : Option Framing) → all_have_limit limit framers ≡ true → has_limit limit framer ≡ true
    → all_have_limit limit (slice_set framers c framer) ≡ true
limits_set limit [] zero framer all here = refl
limits_set limit [] (suc c) framer all here = refl
limits_set limit (x ∷ xs) zero framer all here = rw here (both_parts (has_limit limit x) (all_have_limit limit xs) all).1
limits_set limit (x ∷ xs) (suc c) framer all here =
    let parts = both_parts (has_limit limit x) (all_have_limit limit xs) all in
    rw parts.0 (limits_set limit xs c framer parts.1 here)

-- a framer that was begun with the limit has it
pub begun_has : (limit n : ℕ) (framer : Framing) → framer ≡ begun n → n ≡ limit → has_limit limit (Some framer) ≡ true
begun_has limit n framer is same =
    let own : (limit == limit) ≡ true = grind (arith, nat_tests) in
    subst (λ k. (k == limit) ≡ true) (sym (ap (λ (f : Framing). f.limit) is ∙ same)) own

-- so has one that has it by number
pub same_has : (limit : ℕ) (framer : Framing) → framer.limit ≡ limit → has_limit limit (Some framer) ≡ true
same_has limit framer is =
    let own : (limit == limit) ≡ true = grind (arith, nat_tests) in
    subst (λ k. (k == limit) ≡ true) (sym is) own

-- the framer of a connection has the limit
pub limit_at : (limit : ℕ) (framers : List (Option Framing)) (c : ℕ) (framer : Framing) → all_have_limit limit framers ≡ true → get_or framers c None ≡ Some framer → framer.limit ≡ limit
limit_at limit [] c framer all is = absurd (let none : ◌≡◌ {A = Option Framing} None (Some framer) = is in cc)
limit_at limit (x ∷ xs) zero framer all is =
    eqb-true framer.limit limit (subst (λ o. has_limit limit o ≡ true) is (both_parts (has_limit limit x) (all_have_limit limit xs) all).0)
limit_at limit (x ∷ xs) (suc c) framer all is = limit_at limit xs c framer (both_parts (has_limit limit x) (all_have_limit limit xs) all).1 is

-- a connection that is changed twice is as it is changed last
twice_by : (b : Bool) (x y z : Option (List ℕ)) → cond b y (cond b x z) ≡ cond b y z
twice_by true x y z = refl
twice_by false x y z = refl

pub changed_twice : (all : Connections) (c : ℕ) (x y : Option (List ℕ)) → with_connection (with_connection all c x) c y ≡ with_connection all c y
changed_twice all c x y = λ i. λ d. twice_by (d == c) x y (all d) i

-- a connection that is changed
pub changed : (all : Connections) (c : ℕ) (x : Option (List ℕ)) → with_connection all c x c ≡ x
changed all c x = let same : (c == c) ≡ true = grind (arith, nat_tests) in rw same refl

-- another one
pub unchanged : (all : Connections) (c d : ℕ) (x : Option (List ℕ)) → d ≢ c → with_connection all c x d ≡ all d
unchanged all c d x apart = let other : (d == c) ≡ false = grind (arith, nat_tests) in rw other refl

pub some_none : (o : Option (List ℕ)) → IsSome o → o ≡ None → ⊥
some_none (Some bytes) is none = cc
some_none None is none = cc

-- an open connection has a framer
pub open_within : (framers : List (Option Framing)) (c : ℕ) → IsSome (held_by framers c) → c < length framers
open_within framers c some = elim (leb_tells (length framers) c) [
  | inl (w, over) ↦ absurd (some_none (held_by framers c) some (ap bytes_of (get_or_past framers c None over)))
  | inr (w, under) ↦ under
]

pub no_some : (o : Option (List ℕ)) → (IsSome o → ⊥) → o ≡ None
no_some (Some bytes) none = absurd (none refl)
no_some None none = refl
