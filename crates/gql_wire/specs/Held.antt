-- Helper definitions for private contracts: what a framer holds of a request, and what it does with
-- more bytes of a head.
use Rattle.std.specs.Prelude.{ℕ, ◌≢◌, slice_index, ◌≡◌, ◌+◌, ◌<◌, ◌≤◌, List, [], length, take, map, Option, Some, None, ◌==◌, ◌&&◌, if◌then◌else◌}
use Rattle.httparse.specs.Spans.{span_bytes, header_bytes, IsWithin, IsRequestAt}
use Rattle.httparse.specs.Grammar.{RequestHead}
use Rattle.httparse.specs.declared.spans.HeaderSpan.{HeaderSpan}
use Rattle.httparse.specs.declared.spans.RequestSpans.{RequestSpans}
use Rattle.gql_wire.specs.Number.{is_number, number_from, number_in}
use Rattle.gql_wire.specs.Head.{Parts, Outcome, refuse, expects, HasOutcome}
use Rattle.gql_wire.specs.Stream.{IsHead, IsOpen, IsRequest, refused, skip_blank, head_limit}
use Rattle.gql_wire.specs.declared.head.HeadOutcome.{HeadOutcome}
use Rattle.gql_wire.specs.declared.head.HeadOutcome.TheVariants as code
use Rattle.gql_wire.specs.declared.stream.Pending.{Pending}
use Rattle.gql_wire.specs.declared.stream.Advance.{Advance}
use Rattle.gql_wire.specs.declared.stream.Advance.TheVariants as advance

-- the body length after one more value of Content-Length, where earlier values gave this one
abbrev pub next_length : Option ℕ → List ℕ → Option ℕ
next_length None v = number_in v
next_length (Some n) v = if is_number v && number_from 0 v == n then Some n else None

-- the spans are those of a head, which is these bytes and nothing more
abbrev pub IsWholeHead : List ℕ → List HeaderSpan → RequestSpans → Type 0
IsWholeHead head headers spans =
    (h : RequestHead) × IsRequestAt head headers spans h × (spans.len ≡ length head)

-- the parts that the spans cover
abbrev pub parts_at : List ℕ → List HeaderSpan → RequestSpans → Parts
parts_at head headers spans = record {
  method = span_bytes head spans.method;
  target = span_bytes head spans.path;
  minor = spans.version;
  fields = map (header_bytes head) headers;
}

-- an outcome of the code, with the bytes of the head in place of the spans
abbrev pub outcome_from : List ℕ → HeadOutcome → Outcome
outcome_from head (code.Refuse refusal bodiless) = refuse refusal bodiless
outcome_from head (code.Expects method target length closing) =
    expects (span_bytes head method) (span_bytes head target) length closing

-- the spans lie in the head, and the body is within the limit
abbrev pub AreSpansWithin : ℕ → ℕ → HeadOutcome → Type 0
AreSpansWithin limit n (code.Refuse refusal bodiless) = Unit {0}
AreSpansWithin limit n (code.Expects method target length closing) =
    IsWithin n method × IsWithin n target × (length ≤ limit)

-- the spans of the method and the target lie in the head, and the body is within the limit
abbrev pub AreWithin : ℕ → Pending → Type 0
AreWithin limit p = IsWithin p.head p.method × IsWithin p.head p.target × (p.length ≤ limit)

-- the outcome of a head with these parts
abbrev pub outcome_at : List ℕ → Pending → Outcome
outcome_at head p =
    expects (span_bytes head p.method) (span_bytes head p.target) p.length p.closing

-- a head and a part of its body
pub record IsBodyOpen (limit : ℕ) (bytes : List ℕ) (p : Pending) : Type 0 where
  pub within : p.head ≤ length bytes
  pub head : IsHead (take p.head bytes)
  pub outcome_is : HasOutcome limit (take p.head bytes) (outcome_at (take p.head bytes) p)
  pub spans : AreWithin limit p
  pub unfilled : length bytes < p.head + p.length

-- a head and its whole body
pub record IsBodyDone (limit : ℕ) (bytes : List ℕ) (p : Pending) : Type 0 where
  pub head : IsHead (take p.head bytes)
  pub outcome_is : HasOutcome limit (take p.head bytes) (outcome_at (take p.head bytes) p)
  pub spans : AreWithin limit p
  pub filled : length bytes ≡ p.head + p.length

-- a framer may hold this: an unfinished head, or a head and a part of its body
abbrev pub IsHeld : ℕ → List ℕ → Option Pending → Type 0
IsHeld limit bytes None = IsOpen bytes × (length bytes < head_limit)
IsHeld limit bytes (Some p) = IsBodyOpen limit bytes p

-- more bytes came after an unfinished head of n bytes; they may have a line feed at their end only
pub record IsGrown (n : ℕ) (bytes : List ℕ) : Type 0 where
  pub held : IsOpen (take n bytes)
  pub some : n < length bytes
  pub line : (k : ℕ) → n ≤ k → k + 1 < length bytes → slice_index bytes k ≢ 10
  pub within : length bytes ≤ head_limit

-- more bytes came in this way after some unfinished head
abbrev pub GrowsByLine : List ℕ → Type 0
GrowsByLine bytes = (n : ℕ) × IsGrown n bytes

-- what a framer does with these bytes of a head
abbrev pub Advances : ℕ → List ℕ → Advance → Type 0
Advances limit bytes advance.Blank = skip_blank bytes ≡ []
Advances limit bytes advance.More = IsHeld limit bytes None × (skip_blank bytes ≡ bytes)
Advances limit bytes (advance.Await p) = IsBodyOpen limit bytes p × (skip_blank bytes ≡ bytes)
Advances limit bytes (advance.Done p) = IsBodyDone limit bytes p
Advances limit bytes (advance.Refuse refusal bodiless) =
    IsRequest limit bytes (refused refusal bodiless)
