-- Laws of streams.
use Rattle.std.specs.Prelude.{ℕ, ◌≡◌, ◌+◌, ◌-◌, ◌<◌, ◌≤◌, List, [], ◌∷◌, ◌++◌, length, take, drop, true, false, All}
use Rattle.std.specs.List.{flat_map}
use Rattle.gql_wire.specs.Stream.{Req, IsRequest, closes, Placed, Splits, Requests, StaysOpen, IsUnfinished, skip_blank}

-- bytes begin with at most one request
abbrev pub OneReading : Type 0
OneReading = (limit : ℕ) (a b x y : List ℕ) (r q : Req)
    → IsRequest limit a r → IsRequest limit b q → a ++ x ≡ b ++ y → (a ≡ b) × (r ≡ q)

-- a stream has at most one list of requests, and at most one rest
abbrev pub OneSplit : Type 0
OneSplit = (limit at : ℕ) (bytes : List ℕ) (rs qs : List Placed) (r q : List ℕ)
    → Splits limit at bytes rs r → Splits limit at bytes qs q → (rs ≡ qs) × (r ≡ q)

-- each stream has a list of requests and a rest
abbrev pub SomeSplit : Type 0
SomeSplit = (limit at : ℕ) (bytes : List ℕ)
    → (rs : List Placed) × (r : List ℕ) × Splits limit at bytes rs r

-- if held bytes and the first n bytes of a piece are a request, it is the next one of the stream
abbrev pub TakenNext : Type 0
TakenNext = (limit at n : ℕ) (held piece : List ℕ) (r : Req) (rs : List Placed) (rest : List ℕ)
    → IsRequest limit (held ++ take n piece) r → closes r ≡ false
    → Splits limit (at + length (held ++ take n piece)) (drop n piece) rs rest
    → Splits limit at (held ++ piece)
    (record { request = r; end = at + length (held ++ take n piece) } ∷ rs) rest

-- if such a request closes the connection, it is the last one of the stream
abbrev pub TakenLast : Type 0
TakenLast = (limit at n : ℕ) (held piece : List ℕ) (r : Req)
    → IsRequest limit (held ++ take n piece) r → closes r ≡ true
    → Splits limit at (held ++ piece)
    (record { request = r; end = at + length (held ++ take n piece) } ∷ []) []

-- if a stream is open after its requests, more bytes add the requests of its rest and those bytes
abbrev pub Feeding : Type 0
Feeding = (limit at : ℕ) (a b : List ℕ) (rs qs : List Placed) (r q : List ℕ)
    → Splits limit at a rs r → StaysOpen rs
    → Splits limit (at + (length a - length r)) (r ++ b) qs q
    → Splits limit at (a ++ b) (rs ++ qs) q

-- a closed stream drops the bytes that follow
abbrev pub Closed : Type 0
Closed = (limit at : ℕ) (a b : List ℕ) (rs : List Placed) (r : List ℕ)
    → Splits limit at a rs r → (StaysOpen rs → ⊥) → Splits limit at (a ++ b) rs r

-- The requests that pieces complete, one after another, and the bytes held at the end. The bytes
-- held at the start begin at an offset. Pieces after one that closes the stream change nothing.
pub data Feeds (limit : ℕ) : ℕ → List ℕ → List (List ℕ) → List Placed → List ℕ → Type 0 where
  end : {at : ℕ} {held : List ℕ} → Feeds limit at held [] [] held
  goes : {at : ℕ} {held piece rest final : List ℕ} {pieces : List (List ℕ)} {rs qs : List Placed}
      → Splits limit at (held ++ piece) rs rest → StaysOpen rs
      → Feeds limit (at + (length (held ++ piece) - length rest)) rest pieces qs final
      → Feeds limit at held (piece ∷ pieces) (rs ++ qs) final
  closed : {at : ℕ} {held piece rest : List ℕ} {pieces : List (List ℕ)} {rs : List Placed}
      → Splits limit at (held ++ piece) rs rest → (StaysOpen rs → ⊥)
      → Feeds limit at held (piece ∷ pieces) rs rest

-- pieces have the requests and the rest of all their bytes together
abbrev pub AnyPieces : Type 0
AnyPieces = (limit : ℕ) (pieces : List (List ℕ)) (rs : List Placed) (r : List ℕ)
    → Feeds limit 0 [] pieces rs r → Requests limit (flat_map (λ piece. piece) pieces) rs r

-- the rest is unfinished, and does not begin with CR LF
abbrev pub RestUnfinished : Type 0
RestUnfinished = (limit at : ℕ) (bytes : List ℕ) (rs : List Placed) (r : List ℕ)
    → Splits limit at bytes rs r → IsUnfinished limit r × (skip_blank r ≡ r)

-- the empty list of bytes is unfinished
abbrev pub NothingUnfinished : Type 0
NothingUnfinished = (limit : ℕ) → IsUnfinished limit []

-- the request is complete within the first n bytes of the stream
abbrev pub EndsWithinFirst : ℕ → Placed → Type 0
EndsWithinFirst n p = p.end ≤ n

-- the request is complete only after the first n bytes of the stream
abbrev pub EndsAfterFirst : ℕ → Placed → Type 0
EndsAfterFirst n p = n < p.end

-- More bytes of an open stream keep the requests that were complete, and each new request is
-- completed by the new bytes.
abbrev pub MoreBytes : Type 0
MoreBytes = (limit at : ℕ) (a b : List ℕ) (rs ps : List Placed) (r q : List ℕ)
    → Splits limit at a rs r → StaysOpen rs → Splits limit at (a ++ b) ps q
    → (qs : List Placed) × (ps ≡ rs ++ qs)
    × Splits limit (at + (length a - length r)) (r ++ b) qs q
    × All (EndsWithinFirst (at + length a)) rs × All (EndsAfterFirst (at + length a)) qs

-- Every request of a stream is complete within its bytes.
abbrev pub EndsWithin : Type 0
EndsWithin = (limit at : ℕ) (bytes : List ℕ) (rs : List Placed) (r : List ℕ)
    → Splits limit at bytes rs r → All (EndsWithinFirst (at + length bytes)) rs
