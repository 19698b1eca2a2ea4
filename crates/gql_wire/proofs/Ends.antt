-- Where the requests of a stream are complete.
use Rattle.std.proofs.Common.{take, ◌≡◌, inl, inr, ℕ, ◌+◌, ◌-◌, ◌≤◌, ◌<◌, List, [], ◌++◌, length, drop, sym, ap, ◌∙◌, subst, arith, length-append, All}
use Rattle.std.proofs.lemmas.List.{take-append-drop, take-append-le}
use Rattle.std.proofs.lemmas.List.Elements.{All-cons, All-nil}
use Rattle.std.proofs.lemmas.Bool.Decides.{leb_tells}
use Rattle.std.proofs.Math.Seq.{take-append_seam}
use Rattle.gql_wire.specs.Laws.{EndsWithinFirst, EndsAfterFirst}
use Rattle.gql_wire.specs.Stream.{Req, IsRequest, IsUnfinished, Placed, Splits, unfinished, last, next, StaysOpen}
use Rattle.gql_wire.proofs.Exists.{request_some, split_some}
use Rattle.gql_wire.proofs.Splitting.{one_split_lem, feeding_lem, rest_short, rest_unfinished}

-- the requests of bytes from an offset on are complete within the first n bytes of the stream
within_first : {limit : ℕ} → (n at : ℕ) (bytes : List ℕ) (rs : List Placed) (r : List ℕ)
    → at + length bytes ≤ n → Splits limit at bytes rs r → All (EndsWithinFirst n) rs
within_first n at bytes _ r h (unfinished u e) = All-nil (EndsWithinFirst n)
within_first n at bytes _ _ h (last {front = f} m {r = x} g c e) =
    All-cons (EndsWithinFirst n) (record { request = x; end = at + length f }) []
    (omega (arith, ap length e, length-append f m)) (All-nil (EndsWithinFirst n))
within_first n at bytes _ r h (next {front = f} {more = m} {r = x} {rs = xs} g c e s) =
    let sum : length f + length m ≡ length bytes = sym (length-append f m) ∙ ap length e in
    All-cons (EndsWithinFirst n) (record { request = x; end = at + length f }) xs
    (omega arith) (within_first n (at + length f) m xs r (omega arith) s)

pub ends_within_lem : {limit : ℕ} → (at : ℕ) (bytes : List ℕ) (rs : List Placed) (r : List ℕ)
    → Splits limit at bytes rs r → All (EndsWithinFirst (at + length bytes)) rs
ends_within_lem at bytes rs r s = within_first (at + length bytes) at bytes rs r (omega arith) s

-- and after the first n of them, where the bytes begin there or later
after_first : {limit : ℕ} → (n at : ℕ) (bytes : List ℕ) (rs : List Placed) (r : List ℕ)
    → n ≤ at → Splits limit at bytes rs r → All (EndsAfterFirst n) rs
after_first n at bytes _ r h (unfinished u e) = All-nil (EndsAfterFirst n)
after_first n at bytes _ _ h (last {front = f} m {r = x} g c e) =
    All-cons (EndsAfterFirst n) (record { request = x; end = at + length f }) []
    (omega (arith, request_some f x g)) (All-nil (EndsAfterFirst n))
after_first n at bytes _ r h (next {front = f} {more = m} {r = x} {rs = xs} g c e s) =
    All-cons (EndsAfterFirst n) (record { request = x; end = at + length f }) xs
    (omega (arith, request_some f x g)) (after_first n (at + length f) m xs r (omega arith) s)

-- a request of unfinished bytes and further ones is longer than the unfinished bytes
longer : {limit : ℕ} → (held more front rest : List ℕ) (r : Req) → IsUnfinished limit held → IsRequest limit front r
    → front ++ rest ≡ held ++ more → length held < length front
longer held more front rest r u g e = elim (leb_tells (length front) (length held)) [
  | inl w ↦
      let same : take (length front) held ≡ front =
      sym (take-append-le (length front) held more w.1)
      ∙ ap (λ (z : List ℕ). take (length front) z) (sym e) ∙ take-append_seam front rest in
      let whole : front ++ drop (length front) held ≡ held =
      ap (λ (z : List ℕ). z ++ drop (length front) held) (sym same)
      ∙ take-append-drop (length front) held in
      absurd (u front (drop (length front) held) r g whole)
  | inr w ↦ omega (arith, w.1)
]

-- the requests of unfinished bytes and further ones are complete in the further ones
after_held : {limit : ℕ} → (at n : ℕ) (held more : List ℕ) (rs : List Placed) (r : List ℕ) → IsUnfinished limit held
    → n ≡ at + length held → Splits limit at (held ++ more) rs r → All (EndsAfterFirst n) rs
after_held at n held more _ r u h (unfinished v e) = All-nil (EndsAfterFirst n)
after_held at n held more _ _ u h (last {front = f} m {r = x} g c e) =
    All-cons (EndsAfterFirst n) (record { request = x; end = at + length f }) []
    (omega (arith, longer held more f m x u g e)) (All-nil (EndsAfterFirst n))
after_held at n held more _ r u h (next {front = f} {more = m} {r = x} {rs = xs} g c e s) =
    let less = longer held more f m x u g e in
    All-cons (EndsAfterFirst n) (record { request = x; end = at + length f }) xs
    (omega arith) (after_first n (at + length f) m xs r (omega arith) s)

pub more_bytes_lem : {limit : ℕ} → (at : ℕ) (a b : List ℕ) (rs ps : List Placed) (r q : List ℕ)
    → Splits limit at a rs r → StaysOpen rs → Splits limit at (a ++ b) ps q
    → (qs : List Placed) × (ps ≡ rs ++ qs)
    × Splits limit (at + (length a - length r)) (r ++ b) qs q
    × All (EndsWithinFirst (at + length a)) rs × All (EndsAfterFirst (at + length a)) qs
more_bytes_lem {limit} at a b rs ps r q s stays t =
    let from : ℕ = at + (length a - length r) in
    let (qs, q2, split) = split_some from (r ++ b) in
    let whole : Splits limit at (a ++ b) (rs ++ qs) q2 = feeding_lem at a b rs qs r q2 s stays split in
    let one = one_split_lem at (a ++ b) ps (rs ++ qs) q q2 t whole in
    let place : at + length a ≡ from + length r = omega (arith, rest_short at a rs r s) in (
      qs,
      one.0,
      subst (λ (z : List ℕ). Splits limit from (r ++ b) qs z) (sym one.1) split,
      ends_within_lem at a rs r s,
      after_held from (at + length a) r b qs q2 (rest_unfinished at a rs r s).0 place split,
    )
