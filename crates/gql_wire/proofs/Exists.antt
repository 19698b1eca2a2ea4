-- Each stream has its list of requests.
use Rattle.std.proofs.Common.{◌≡◌, ◌⊎◌, inl, inr, ℕ, zero, suc, ◌+◌, ◌≤◌, ◌<◌, List, [], ◌∷◌, ◌++◌, length, take, drop, refl, sym, ap, ◌∙◌, subst, arith, Bool, true, false, length-append, length-take, length-drop, eqb-true, append_assoc}
use Rattle.std.specs.Prelude.{nat_eq, ◌==◌, ◌&&◌}
use Rattle.std.specs.List.{ends_with}
use Rattle.std.proofs.lemmas.List.{take-take, take-append-drop}
use Rattle.std.proofs.lemmas.Bool.Decides.{leb_tells}
use Rattle.gql_wire.specs.Head.{Outcome, HasOutcome, refuse, expects}
use Rattle.gql_wire.specs.Stream.{Req, request, refused, IsRequest, behind_blank, long, stops, whole, closes, begins_blank, skip_blank, IsHead, IsOpen, head_end, head_limit, IsUnfinished, Placed, Splits, unfinished, last, next}
use Rattle.gql_wire.proofs.Decided.{some_outcome}
use Rattle.gql_wire.proofs.Streams.{true_or_false, both, head_full}
use Rattle.gql_wire.proofs.Unique.{open_unfinished, body_unfinished}
use Rattle.gql_wire.proofs.Splitting.{blank_unfinished}

-- the bytes begin with a request
abbrev Begun : ℕ → List ℕ → Type 0
Begun limit bytes = (front : List ℕ) × (more : List ℕ) × (r : Req) × IsRequest limit front r × (front ++ more ≡ bytes)

abbrev ends_at : List ℕ → ℕ → Bool
ends_at bytes k = ends_with nat_eq (take k bytes) head_end

-- no head ends in the first n bytes
abbrev NoEnd : List ℕ → ℕ → Type 0
NoEnd bytes n = (k : ℕ) → k ≤ n → ends_at bytes k ≡ false

-- or a first one does
abbrev FirstEnd : List ℕ → ℕ → Type 0
FirstEnd bytes n = (k : ℕ) × (k ≤ n) × (ends_at bytes k ≡ true) × ((j : ℕ) → j < k → ends_at bytes j ≡ false)

first_end : (bytes : List ℕ) (n : ℕ) → FirstEnd bytes n ⊎ NoEnd bytes n
first_end bytes zero = inr (λ k h. let z : k ≡ 0 = omega arith in rw z refl)
first_end bytes (suc n) = elim (first_end bytes n) [
  | inl w ↦ inl (w.0, omega (arith, w.1), w.2, w.3)
  | inr none ↦ elim (true_or_false (ends_at bytes (suc n))) [
    | inl t ↦ inl (suc n, omega arith, t, λ j h. none j (omega arith))
    | inr f ↦ inr (λ k h. elim (leb_tells k n) [
      | inl w ↦ none k w.1
      | inr w ↦ let z : k ≡ suc n = omega (arith, w.1) in rw z f
    ])
  ]
]

begun_front : (n : ℕ) (bytes : List ℕ) → begins_blank bytes ≡ false → begins_blank (take n bytes) ≡ false
begun_front zero bytes f = refl
begun_front (suc n) [] f = refl
begun_front (suc zero) (a ∷ bytes) f = refl
begun_front (suc (suc n)) (a ∷ []) f = refl
begun_front (suc (suc n)) (a ∷ b ∷ bytes) f = f

head_at : (bytes : List ℕ) (k : ℕ) → begins_blank bytes ≡ false → k ≤ length bytes → k ≤ head_limit → ends_at bytes k ≡ true → ((j : ℕ) → j < k → ends_at bytes j ≡ false) → IsHead (take k bytes)
head_at bytes k begun within short ended before = record {
  begun = begun_front k bytes begun;
  ended = ended;
  before = λ j h. let less : j < k = omega (arith, length-take k bytes) in rw (take-take j k bytes (omega arith)) (before j less);
  short = omega (arith, length-take k bytes);
}

-- a head and its outcome
begun_by_head : {limit : ℕ} → (bytes : List ℕ) (k : ℕ) → k ≤ length bytes → IsHead (take k bytes) → (outcome : Outcome) → HasOutcome limit (take k bytes) outcome → Begun limit bytes ⊎ IsUnfinished limit bytes
begun_by_head bytes k within head (refuse refusal bodiless) outcome_is = inl (take k bytes, drop k bytes, refused refusal bodiless, stops head outcome_is, take-append-drop k bytes)
begun_by_head {limit} bytes k within head (expects method target n closing) outcome_is = elim (leb_tells (k + n) (length bytes)) [
  | inl w ↦
      let body : List ℕ = take n (drop k bytes) in
      let len : length body ≡ n = omega (arith, w.1, length-take n (drop k bytes), length-drop k bytes) in
      let outcome_is' : HasOutcome limit (take k bytes) (expects method target (length body) closing) = subst (λ (m : ℕ). HasOutcome limit (take k bytes) (expects method target m closing)) (sym len) outcome_is in
      inl (
        take k bytes ++ body,
        drop n (drop k bytes),
        request method target body closing,
        whole head outcome_is',
        append_assoc (take k bytes) body (drop n (drop k bytes)) ∙ ap (λ (z : List ℕ). take k bytes ++ z) (take-append-drop n (drop k bytes)) ∙ take-append-drop k bytes,
      )
  | inr w ↦ inr (λ front more r g e. body_unfinished bytes front more r k n method target closing within head outcome_is (omega (arith, w.1)) g e)
]

-- bytes that begin with no CR LF
begun_at : {limit : ℕ} → (bytes : List ℕ) → begins_blank bytes ≡ false → Begun limit bytes ⊎ IsUnfinished limit bytes
begun_at bytes f = elim (leb_tells head_limit (length bytes)) [
  | inl w ↦ elim (first_end bytes head_limit) [
    | inl found ↦ let head = head_at bytes found.0 f (omega (arith, found.1, w.1)) found.1 found.2 found.3 in let outcome = some_outcome (take found.0 bytes) in
        begun_by_head bytes found.0 (omega (arith, found.1, w.1)) head outcome.0 outcome.1
    | inr none ↦
        let len : length (take head_limit bytes) ≡ head_limit = omega (arith, w.1, length-take head_limit bytes) in
        let still_open : IsOpen (take head_limit bytes) = record { begun = begun_front head_limit bytes f; unended = λ k h. rw (take-take k head_limit bytes (omega arith)) (none k (omega arith)) } in
        inl (take head_limit bytes, drop head_limit bytes, _, long still_open len, take-append-drop head_limit bytes)
  ]
  | inr w ↦ elim (first_end bytes (length bytes)) [
    | inl found ↦ let head = head_at bytes found.0 f found.1 (omega (arith, found.1, w.1)) found.2 found.3 in let outcome = some_outcome (take found.0 bytes) in
        begun_by_head bytes found.0 found.1 head outcome.0 outcome.1
    | inr none ↦
        let still_open : IsOpen bytes = record { begun = f; unended = none } in
        inr (λ front more r g e. open_unfinished bytes front more r still_open (omega (arith, w.1)) g e)
  ]
]

blank_begun : {limit : ℕ} → (bytes : List ℕ) → Begun limit bytes ⊎ IsUnfinished limit bytes → Begun limit (13 ∷ 10 ∷ bytes) ⊎ IsUnfinished limit (13 ∷ 10 ∷ bytes)
blank_begun bytes (inl (front, more, r, g, e)) = inl (13 ∷ 10 ∷ front, more, r, behind_blank g, ap (λ (z : List ℕ). 13 ∷ 10 ∷ z) e)
blank_begun bytes (inr u) = inr (blank_unfinished bytes u)

begun : {limit : ℕ} → (bytes : List ℕ) → Begun limit bytes ⊎ IsUnfinished limit bytes
begun [] = begun_at [] refl
begun (a ∷ []) = begun_at (a ∷ []) refl
begun (a ∷ b ∷ bytes) = elim (true_or_false (a == 13 && b == 10)) [
  | inl t ↦ let p = both (a == 13) (b == 10) t in
      let x : a ≡ 13 = eqb-true a 13 p.0 in let y : b ≡ 10 = eqb-true b 10 p.1 in
      rw (x, y) (blank_begun bytes (begun bytes))
  | inr f ↦ begun_at (a ∷ b ∷ bytes) f
]

pub request_some : {limit : ℕ} → (front : List ℕ) (r : Req) → IsRequest limit front r → 0 < length front
request_some _ r (behind_blank {bytes = a} g) = omega arith
request_some front r (long o n) = omega arith
request_some front r (stops h s) = omega (arith, head_full front h)
request_some _ r (whole {head = h} {body = b} ih s) = omega (arith, head_full h ih, length-append h b)

split_within : {limit : ℕ} → (room at : ℕ) (bytes : List ℕ) → length bytes ≤ room → (rs : List Placed) × (rest : List ℕ) × Splits limit at bytes rs rest
split_within {limit} zero at bytes h = elim (begun {limit = limit} bytes) [
  | inl w ↦ absurd (omega (arith, request_some w.0 w.2 w.3, ap length w.4, length-append w.0 w.1))
  | inr u ↦ ([], skip_blank bytes, unfinished u refl)
]
split_within {limit} (suc room) at bytes h = elim (begun {limit = limit} bytes) [
  | inl w ↦ elim (true_or_false (closes w.2)) [
    | inl t ↦ (_, [], last w.1 w.3 t w.4)
    | inr f ↦ let after = split_within room (at + length w.0) w.1 (omega (arith, request_some w.0 w.2 w.3, ap length w.4, length-append w.0 w.1)) in
        (_, after.1, next w.3 f w.4 after.2)
  ]
  | inr u ↦ ([], skip_blank bytes, unfinished u refl)
]

pub split_some : {limit : ℕ} → (at : ℕ) (bytes : List ℕ) → (rs : List Placed) × (rest : List ℕ) × Splits limit at bytes rs rest
split_some at bytes = split_within (length bytes) at bytes (omega arith)
