-- The requests of a stream of bytes.
use Rattle.std.specs.Prelude.{ℕ, ◌≡◌, ◌+◌, ◌<◌, ◌≤◌, List, [], ◌∷◌, ◌++◌, length, take, Bool, true, false, nat_eq, ◌==◌, ◌&&◌, if◌then◌else◌}
use Rattle.std.specs.List.{ends_with}
use Rattle.gql_wire.specs.Head.{refuse, expects, HasOutcome}
use Rattle.gql_wire.specs.declared.head.HeadRefusal.{HeadRefusal}
use Rattle.gql_wire.specs.declared.head.HeadRefusal.TheVariants.{LongHead}
use Rattle.gql_wire.specs.declared.stream.Framed.{Framed}
use Rattle.gql_wire.specs.declared.stream.Framed.TheVariants as code

-- A request. `request`: method, target, body, and whether the connection closes after it.
-- `refused`: why the head is refused, and whether its answer has no body.
pub data Req : Type 0 where
  request : List ℕ → List ℕ → List ℕ → Bool → Req
  refused : HeadRefusal → Bool → Req

-- a request of the code, as contracts see it
abbrev pub req : Framed → Req
req (code.Request method target body closing) = request method.items target.items body.items closing
req (code.Refused refusal bodiless) = refused refusal bodiless

-- whether the connection closes after the request
abbrev pub closes : Req → Bool
closes (request method target body closing) = closing
closes (refused refusal bodiless) = true

-- the empty line that ends a head: CR LF CR LF
abbrev pub head_end : List ℕ
head_end = 13 ∷ 10 ∷ 13 ∷ 10 ∷ []

-- the most bytes of a head
abbrev pub head_limit : ℕ
head_limit = 8192

-- whether the bytes begin with CR LF
abbrev pub begins_blank : List ℕ → Bool
begins_blank [] = false
begins_blank (a ∷ []) = false
begins_blank (a ∷ b ∷ bytes) = a == 13 && b == 10

-- the bytes after the pairs CR LF at the front
abbrev pub skip_blank : List ℕ → List ℕ
skip_blank [] = []
skip_blank (a ∷ []) = a ∷ []
skip_blank (a ∷ b ∷ bytes) = if a == 13 && b == 10 then skip_blank bytes else a ∷ b ∷ bytes

-- an unfinished head: no head ends in these bytes, and they do not begin with CR LF
pub record IsOpen (bytes : List ℕ) : Type 0 where
  pub begun : begins_blank bytes ≡ false
  pub unended : (k : ℕ) → k ≤ length bytes → ends_with nat_eq (take k bytes) head_end ≡ false

-- a head: it ends with its first empty line, and is not longer than the limit
pub record IsHead (bytes : List ℕ) : Type 0 where
  pub begun : begins_blank bytes ≡ false
  pub ended : ends_with nat_eq bytes head_end ≡ true
  pub before : (k : ℕ) → k < length bytes → ends_with nat_eq (take k bytes) head_end ≡ false
  pub short : length bytes ≤ head_limit

-- These bytes are one request. Pairs CR LF before a head are dropped. A head that does not end
-- within the limit, counted after those pairs, is refused as soon as the limit is reached. The
-- outcome of every other head is known when it is whole. `limit` is the most bytes of a body.
pub data IsRequest (limit : ℕ) : List ℕ → Req → Type 0 where
  behind_blank : {bytes : List ℕ} {r : Req} → IsRequest limit bytes r
      → IsRequest limit (13 ∷ 10 ∷ bytes) r
  long : {bytes : List ℕ} → IsOpen bytes → length bytes ≡ head_limit
      → IsRequest limit bytes (refused LongHead false)
  stops : {head : List ℕ} {refusal : HeadRefusal} {bodiless : Bool} → IsHead head
      → HasOutcome limit head (refuse refusal bodiless)
      → IsRequest limit head (refused refusal bodiless)
  whole : {head body method target : List ℕ} {closing : Bool} → IsHead head
      → HasOutcome limit head (expects method target (length body) closing)
      → IsRequest limit (head ++ body) (request method target body closing)

-- no bytes at the front of these are a request
abbrev pub IsUnfinished : ℕ → List ℕ → Type 0
IsUnfinished limit bytes =
    (front more : List ℕ) (r : Req) → IsRequest limit front r → front ++ more ≡ bytes → ⊥

-- a request, and the offset in the stream at which it is complete
pub record Placed : Type 0 where
  pub request : Req
  pub end : ℕ

-- The bytes from the offset `at` on are these requests and an unfinished rest. A request that
-- closes the connection is the last one, and the bytes after it are dropped.
pub data Splits (limit : ℕ) : ℕ → List ℕ → List Placed → List ℕ → Type 0 where
  unfinished : {at : ℕ} {bytes rest : List ℕ} → IsUnfinished limit bytes → rest ≡ skip_blank bytes
      → Splits limit at bytes [] rest
  last : {at : ℕ} {front bytes : List ℕ} (more : List ℕ) {r : Req}
      → IsRequest limit front r → closes r ≡ true → front ++ more ≡ bytes
      → Splits limit at bytes (record { request = r; end = at + length front } ∷ []) []
  next : {at : ℕ} {front more bytes rest : List ℕ} {r : Req} {rs : List Placed}
      → IsRequest limit front r → closes r ≡ false → front ++ more ≡ bytes
      → Splits limit (at + length front) more rs rest
      → Splits limit at bytes (record { request = r; end = at + length front } ∷ rs) rest

-- the requests of a connection's bytes, and the unfinished rest
abbrev pub Requests : ℕ → List ℕ → List Placed → List ℕ → Type 0
Requests limit bytes rs rest = Splits limit 0 bytes rs rest

-- the connection is open after these requests
abbrev pub StaysOpen : List Placed → Type 0
StaysOpen [] = Unit {0}
StaysOpen (r ∷ rs) = (closes r.request ≡ false) × StaysOpen rs
