-- What httparse returns, in this crate's definitions.
use Rattle.std.proofs.Common.{◌≡◌, ◌≢◌, ℕ, ◌≤◌, List, [], length, take, drop, map, refl, sym, ap, ◌∙◌, subst, arith, length-take, Ok, Err, Result}
use Rattle.std.proofs.lemmas.List.{append-nil, length-map}
use Rattle.std.proofs.Math.ListN.{drop_of_length-le}
use Rattle.httparse.specs.Grammar.{RequestHead, print_request}
use Rattle.httparse.specs.Spans.{name_and_value, header_bytes, IsRequestAt, FindsRequest}
use Rattle.httparse.specs.declared.spans.HeaderSpan.{HeaderSpan}
use Rattle.httparse.specs.declared.spans.RequestSpans.{RequestSpans}
use Rattle.httparse.specs.declared.Error.{Error}
use Rattle.httparse.specs.declared.Status.{Status}
use Rattle.httparse.specs.declared.Status.TheVariants.{Complete, Partial}
use Rattle.gql_wire.specs.Head.{Parts, parts_of, outcome_of, IsRead, IsNoHead, HasOutcome, read}
use Rattle.gql_wire.specs.Held.{IsWholeHead, parts_at}

-- a whole head is read
pub is_read : (buf : List ℕ) (headers : List HeaderSpan) (spans : RequestSpans) (h : RequestHead) → IsRequestAt buf headers spans h → spans.len ≡ length buf
    → length headers ≤ 32 → IsRead buf h
is_read buf headers spans h at e few =
    let none : drop spans.len buf ≡ [] = drop_of_length-le buf (omega arith) in
    let count : length (map (header_bytes buf) (take spans.headers headers)) ≡ length (map name_and_value h.fields) = ap length at.fields in
    record { reads = rw none at at.reads; few = omega (arith, rw (length-map, length-map, length-take) at count) }

parts_same : {m n t u : List ℕ} {v w : ℕ} {f g : List (List ℕ × List ℕ)} → m ≡ n → t ≡ u → v ≡ w → f ≡ g
    → ◌≡◌ {A = Parts} (record { method = m; target = t; minor = v; fields = f }) (record { method = n; target = u; minor = w; fields = g })
parts_same {m} {n} {t} {u} {v} {w} {f} {g} a b c d = cc

-- a whole head has the outcome of its parts
pub whole_outcome : {limit : ℕ} → (buf : List ℕ) (headers : List HeaderSpan) (spans : RequestSpans) → IsWholeHead buf headers spans → length headers ≤ 32
    → HasOutcome limit buf (outcome_of limit (parts_at buf (take spans.headers headers) spans))
whole_outcome {limit} buf headers spans (h, at, whole) few =
    let same : parts_of h ≡ parts_at buf (take spans.headers headers) spans = parts_same (sym at.method) (sym at.path) (sym at.version) (sym at.fields) in
    subst (λ (p : Parts). HasOutcome limit buf (outcome_of limit p)) same (read (is_read buf headers spans h at whole few))

-- where httparse finds no whole head, there is none
pub no_head : (buf : List ℕ) (headers : List HeaderSpan) (room : ℕ) (r : Result (Status RequestSpans) Error) → FindsRequest buf room headers r
    → ((spans : RequestSpans) → r ≡ Ok (Complete spans) → spans.len ≢ length buf) → IsNoHead room buf
no_head buf headers room (Ok (Complete spans)) finds not h reads few =
    let at = finds h [] reads few in
    not spans refl (at.len ∙ ap length (sym (reads.1 ∙ append-nil (print_request h))))
no_head buf headers room (Ok Partial) finds not h reads few = finds h [] reads few
no_head buf headers room (Err e) finds not h reads few = finds h [] reads few
