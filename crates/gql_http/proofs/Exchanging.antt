-- A pipe's pieces, one after the other.
use Rattle.std.proofs.Common.{◌≡◌, ◌≢◌, ◌≤◌, ◌⊎◌, inl, inr, ℕ, ◌+◌, List, [], ◌∷◌, ◌++◌, length, map, take, Bool, true, false, cond, Option, Some, None, Ok, Err, refl, sym, ap, ap₂, ◌∙◌, subst, append_assoc, append-nil, zero-add, suc-add, arith, length-take}
use Rattle.std.specs.Prelude.{is_none}
use Rattle.std.specs.List.{concat, Contains}
use Rattle.std.proofs.lemmas.List.Elements.{Contains-append_cases, Contains-push_cases}
use Rattle.gql_registry.specs.State.{State}
use Rattle.gql_wire.specs.Peer.{Passage, received, sent, received_in, sent_in, Adds, SendsAll, SendsFront}
use Rattle.gql_wire.specs.Stream.{Placed, Splits}
use Rattle.gql_wire.specs.Laws.{MoreBytes, SomeSplit, OneSplit, NothingUnfinished}
use Rattle.gql_http.specs.Connections.{requests_of, joined, is_closed, Serves, Breaks}
use Rattle.gql_http.specs.Events.{Event, feeds, breaks, connection_of, Connections, Does, does_open, does_feed, does_break, does_close, ignores}
use Rattle.gql_http.specs.Hubs.{is_unfinished, IsFeedOf}
use Rattle.gql_http.specs.Limits.{limit_in}
use Rattle.gql_http.specs.Pipes.{IsPrompt, IsExchange, ReadsPieces, most_bytes}
use Rattle.gql_http.specs.declared.piping.PipeEnd.{PipeEnd}
use Rattle.gql_http.specs.declared.piping.PipeEnd.TheVariants as ends
use Rattle.gql_http.specs.declared.piping.PipeFault.{PipeFault}
use Rattle.gql_http.specs.declared.piping.PipeFault.TheVariants as faults
use Rattle.gql_http.specs.Service.{Run}
use Rattle.gql_http.proofs.Framers.{changed, unchanged}
use Rattle.gql_http.proofs.KeptLimit.{run_limit}
use Rattle.gql_http.proofs.Joining.{serves_join, serves_nothing, stays_open, run_append, joined_append, whole, some_same}

-- what was received so far is answered, and the connection is open
pub record Exchanged (s : State) (old new : Option (List Passage)) (u : State) (rest : Option (List ℕ)) : Type 0 where
  pub passed : List Passage
  pub held : List ℕ
  pub adds : Adds old new passed
  pub prompt : IsPrompt s passed
  pub pieces : ReadsPieces passed
  pub serves : Serves s (received_in passed) (sent_in passed) u (Some held)
  pub stays : rest ≡ Some held

-- ---- transcripts

pub adds_nil : (a : Option (List Passage)) → Adds a a []
adds_nil None = refl
adds_nil (Some xs) = ap (λ (ys : List Passage). Some ys) (sym (append-nil xs))

pub adds_append : (a b c : Option (List Passage)) (xs ys : List Passage) → Adds a b xs → Adds b c ys → Adds a c (xs ++ ys)
adds_append None b c xs ys p q = rw p at q
adds_append (Some old) b c xs ys p q = let r = rw p at q in r ∙ ap (λ (zs : List Passage). Some zs) (append_assoc old xs ys)

received_append : (xs ys : List Passage) → received_in (xs ++ ys) ≡ received_in xs ++ received_in ys
received_append [] ys = refl
received_append (received bytes ∷ xs) ys = ap (λ zs. bytes ++ zs) (received_append xs ys) ∙ sym (append_assoc bytes (received_in xs) (received_in ys))
received_append (sent bytes ∷ xs) ys = received_append xs ys

sent_append : (xs ys : List Passage) → sent_in (xs ++ ys) ≡ sent_in xs ++ sent_in ys
sent_append [] ys = refl
sent_append (received bytes ∷ xs) ys = sent_append xs ys
sent_append (sent bytes ∷ xs) ys = ap (λ zs. bytes ++ zs) (sent_append xs ys) ∙ sym (append_assoc bytes (sent_in xs) (sent_in ys))

none_received : (parts : List (List ℕ)) → received_in (map sent parts) ≡ []
none_received [] = refl
none_received (part ∷ parts) = none_received parts

all_sent : (parts : List (List ℕ)) → sent_in (map sent parts) ≡ concat parts
all_sent [] = refl
all_sent (part ∷ parts) = ap (λ zs. part ++ zs) (all_sent parts)

-- after a read and writes
abbrev turned : List Passage → List ℕ → List (List ℕ) → List Passage
turned passed piece parts = passed ++ (received piece ∷ map sent parts)

received_turn : (passed : List Passage) (piece : List ℕ) (parts : List (List ℕ)) → received_in (turned passed piece parts) ≡ received_in passed ++ piece
received_turn passed piece parts =
    received_append passed (received piece ∷ map sent parts) ∙ ap (λ zs. received_in passed ++ (piece ++ zs)) (none_received parts) ∙ ap (λ zs. received_in passed ++ zs) (append-nil piece)

sent_turn : (passed : List Passage) (piece : List ℕ) (parts : List (List ℕ)) → sent_in (turned passed piece parts) ≡ sent_in passed ++ concat parts
sent_turn passed piece parts = sent_append passed (received piece ∷ map sent parts) ∙ ap (λ zs. sent_in passed ++ zs) (all_sent parts)

adds_turn : (a b c d : Option (List Passage)) (passed : List Passage) (piece : List ℕ) (parts : List (List ℕ)) → Adds a b passed → Adds b c (received piece ∷ []) → Adds c d (map sent parts)
    → Adds a d (turned passed piece parts)
adds_turn a b c d passed piece parts p q r = adds_append a b d passed (received piece ∷ map sent parts) p (adds_append b c d (received piece ∷ []) (map sent parts) q r)

-- ---- promptness

no_read : (parts : List (List ℕ)) (front after : List Passage) (p : List ℕ) → map sent parts ≡ front ++ (received p ∷ after) → ⊥
no_read [] [] after p e = cc
no_read [] (x ∷ front) after p e = cc
no_read (part ∷ parts) [] after p e = let head : sent part ≡ received p = cc in cc
no_read (part ∷ parts) (x ∷ front) after p e = let tail : map sent parts ≡ front ++ (received p ∷ after) = cc in no_read parts front after p tail

-- the read in question is the last one, or an earlier one
where_read : (passed front after : List Passage) (piece p : List ℕ) (parts : List (List ℕ)) → turned passed piece parts ≡ front ++ (received p ∷ after)
    → (front ≡ passed) ⊎ ((between : List Passage) × (passed ≡ front ++ (received p ∷ between)))
where_read [] [] after piece p parts e = inl refl
where_read [] (x ∷ front) after piece p parts e = let tail : map sent parts ≡ front ++ (received p ∷ after) = cc in absurd (no_read parts front after p tail)
where_read (y ∷ passed) [] after piece p parts e = let head : y ≡ received p = cc in inr (passed, ap (λ z. z ∷ passed) head)
where_read (y ∷ passed) (x ∷ front) after piece p parts e =
    let head : y ≡ x = cc in
    let tail : turned passed piece parts ≡ front ++ (received p ∷ after) = cc in
    elim (where_read passed front after piece p parts tail) [
      | inl same ↦ inl (ap₂ (λ a b. a ∷ b) (sym head) same)
      | inr (between, is) ↦ inr (between, ap₂ (λ a b. a ∷ b) head is)
    ]

-- a read that comes when everything due is written
prompt_turn : (s u : State) (passed : List Passage) (held piece : List ℕ) (parts : List (List ℕ)) → IsPrompt s passed → Serves s (received_in passed) (sent_in passed) u (Some held)
    → IsPrompt s (turned passed piece parts)
prompt_turn s u passed held piece parts prompt serves front after p e = elim (where_read passed front after piece p parts e) [
  | inl same ↦ subst (λ f. (t : State) × (held : List ℕ) × Serves s (received_in f) (sent_in f) t (Some held)) (sym same) (u, held, serves)
  | inr (between, is) ↦ prompt front between p is
]

-- ---- how much is read

nothing_in : (x : Passage) → Contains [] x → ⊥
nothing_in x (i, within, is) = absurd (omega (arith, within))

the_one : (a x : Passage) → Contains (a ∷ []) x → a ≡ x
the_one a x h = elim (Contains-push_cases [] a x h) [ inl none ↦ absurd (nothing_in x none) | inr is ↦ is ]

sent_alone : (parts : List (List ℕ)) (piece : List ℕ) → Contains (map sent parts) (received piece) → ⊥
sent_alone [] piece h = nothing_in (received piece) h
sent_alone (part ∷ parts) piece h = elim (Contains-append_cases (sent part ∷ []) (map sent parts) (received piece) h) [
  | inl first ↦ let clash : sent part ≡ received piece = the_one (sent part) (received piece) first in cc
  | inr later ↦ sent_alone parts piece later
]

same_piece : (a b : List ℕ) → received a ≡ received b → a ≡ b
same_piece a b is = cc

-- the front of a list is no longer than the list
pub front_short : (n : ℕ) (xs : List ℕ) → length xs ≡ most_bytes → length (take n xs) ≤ most_bytes
front_short n xs is = let cut = length-take n xs in omega (arith, cut, is)

no_pieces : ReadsPieces []
no_pieces piece h = absurd (nothing_in (received piece) h)

-- one read more, of at most so many bytes
pieces_turn : (passed : List Passage) (piece : List ℕ) (parts : List (List ℕ)) → ReadsPieces passed → length piece ≤ most_bytes → ReadsPieces (turned passed piece parts)
pieces_turn passed piece parts pieces short p h = elim (Contains-append_cases passed (received piece ∷ map sent parts) (received p) h) [
  | inl before ↦ pieces p before
  | inr later ↦ elim (Contains-append_cases (received piece ∷ []) (map sent parts) (received p) later) [
    | inl read ↦ subst (λ (bytes : List ℕ). length bytes ≤ most_bytes) (same_piece piece p (the_one (received piece) (received p) read)) short
    | inr writes ↦ absurd (sent_alone parts p writes)
  ]
]

-- ---- what a feed does

feed_by : (s t : State) (rests : Connections) (c : ℕ) (piece out held : List ℕ) (next : Connections) → Does s rests (feeds c piece) out t next → rests c ≡ Some held → Serves s (held ++ piece) out t (next c)
feed_by s _ rests c piece _ held _ (does_feed {t = t} {held = other} {out = out} {rest = rest} there h) here =
    subst (λ r. Serves s (held ++ piece) out t r) (sym (changed rests c rest)) (subst (λ bytes. Serves s (bytes ++ piece) out t rest) (some_same other held (sym there ∙ here)) h)
feed_by s _ rests c piece _ held _ (ignores barred) here = absurd (barred (rw here refl))

pub fed_serves : (s t : State) (rests next : Connections) (c : ℕ) (piece out held : List ℕ) (e : Event) → IsFeedOf c piece false e → Does s rests e out t next → rests c ≡ Some held
    → Serves s (held ++ piece) out t (next c)
fed_serves s t rests next c piece out held e is does here = feed_by s t rests c piece out held next (subst (λ f. Does s rests f out t next) is does) here

break_by : (s t : State) (rests : Connections) (c made : ℕ) (piece out held : List ℕ) (next : Connections) → Does s rests (breaks c piece made) out t next → rests c ≡ Some held
    → Breaks s (held ++ piece) out t made
break_by s _ rests c made piece _ held _ (does_break {t = t} {held = other} {out = out} there h) here =
    subst (λ bytes. Breaks s (bytes ++ piece) out t made) (some_same other held (sym there ∙ here)) h
break_by s _ rests c made piece _ held _ (ignores barred) here = absurd (barred (rw here refl))

pub fed_breaks : (s t : State) (rests next : Connections) (c : ℕ) (piece out held : List ℕ) (e : Event) → IsFeedOf c piece true e → Does s rests e out t next → rests c ≡ Some held
    → (made : ℕ) × Breaks s (held ++ piece) out t made
fed_breaks s t rests next c piece out held e is does here = (is.0, break_by s t rests c is.0 piece out held next (subst (λ f. Does s rests f out t next) is.1 does) here)

-- an event leaves all other connections
pub does_others : (s t : State) (rests next : Connections) (e : Event) (out : List ℕ) (d : ℕ) → Does s rests e out t next → d ≢ connection_of e → next d ≡ rests d
does_others s _ rests _ _ _ d (does_open {c = c} allowed) apart = unchanged rests c d (Some []) apart
does_others s _ rests _ _ _ d (does_feed {c = c} {rest = rest} here h) apart = unchanged rests c d rest apart
does_others s _ rests _ _ _ d (does_break {c = c} here h) apart = unchanged rests c d None apart
does_others s _ rests _ _ _ d (does_close {c = c} allowed) apart = unchanged rests c d None apart
does_others s _ rests _ _ _ d (ignores barred) apart = refl

pub feed_connection : (c : ℕ) (piece : List ℕ) (memory : Bool) (e : Event) → IsFeedOf c piece memory e → connection_of e ≡ c
feed_connection c piece false e is = ap connection_of is
feed_connection c piece true e is = ap connection_of is.1

-- ---- joined with what was answered before

front_then : (ps qs : List Placed) (made : ℕ) → take (length ps + made) (requests_of (ps ++ qs)) ≡ requests_of ps ++ take made (requests_of qs)
front_then [] qs made = ap (λ n. take n (requests_of qs)) (zero-add made)
front_then (p ∷ ps) qs made = ap (λ n. take n (requests_of ((p ∷ ps) ++ qs))) (suc-add (length ps) made) ∙ ap (λ rs. p.request ∷ rs) (front_then ps qs made)

module _ (some : SomeSplit) (one : OneSplit) (more_bytes : MoreBytes) where
  pub breaks_join : {s u t : State} {a out more_out held : List ℕ} (b : List ℕ) (made : ℕ) → Serves s a out u (Some held) → Breaks u (held ++ b) more_out t made
      → (made : ℕ) × Breaks s (a ++ b) (out ++ more_out) t made
  breaks_join {s} {u} {t} {a} {out} {more_out} {held} b made h k =
      let opened = left_open (is_closed (requests_of h.requests)) refl h.left in
      let unclosed = stays_open h.requests opened.0 in
      let w = whole some one more_bytes a b held k.rest h.requests k.requests (subst (λ r. Splits (limit_in s) 0 a h.requests r) (sym opened.1) h.splits) unclosed
      (subst (λ n. Splits n 0 (held ++ b) k.requests k.rest) (run_limit h.run) k.splits) in
      let both : take (length h.requests + made) (requests_of (h.requests ++ w.further)) ≡ requests_of h.requests ++ take made (requests_of k.requests) =
      front_then h.requests w.further made ∙ ap (λ rs. requests_of h.requests ++ take made rs) w.same in (
        length h.requests + made,
        record {
          requests = h.requests ++ w.further;
          rest = k.rest;
          answers = h.answers ++ k.answers;
          splits = w.splits;
          run = subst (λ rs. Run s rs (h.answers ++ k.answers) t) (sym both) (run_append s u t (requests_of h.requests) (take made (requests_of k.requests)) h.answers k.answers h.run k.run);
          written = ap (λ xs. xs ++ more_out) h.written ∙ ap (λ xs. joined h.answers ++ xs) k.written ∙ sym (joined_append h.answers k.answers);
        },
      )
    where
      left_open : (b : Bool) → is_closed (requests_of h.requests) ≡ b → Some held ≡ cond b None (Some h.rest) → (is_closed (requests_of h.requests) ≡ false) × (held ≡ h.rest)
      left_open true is e = absurd (let clash : ◌≡◌ {A = Option (List ℕ)} (Some held) None = e in cc)
      left_open false is e = (is, some_same held h.rest e)

  -- ---- the turns of a pipe

  pub exchanged_init : NothingUnfinished → (s : State) (transcript : Option (List Passage)) (rest : Option (List ℕ)) → rest ≡ Some [] → Exchanged s transcript transcript s rest
  exchanged_init nothing s transcript rest unclosed = record {
    passed = [];
    held = [];
    adds = adds_nil transcript;
    prompt = λ front after p e. absurd (no_read [] front after p e);
    pieces = no_pieces;
    serves = serves_nothing nothing s;
    stays = unclosed;
  }

  module _ {s u : State} {old new : Option (List Passage)} {rest : Option (List ℕ)} (x : Exchanged s old new u rest) where
    -- nothing more was read
    pub stopped : (after : Option (List Passage)) → Adds new after [] → Adds old after x.passed
    stopped after none = subst (Adds old after) (append-nil x.passed) (adds_append old new after x.passed [] x.adds none)

    -- all is answered after a turn
    pub all_answered : (t : State) (piece out : List ℕ) (parts : List (List ℕ)) (left : Option (List ℕ)) → concat parts ≡ out → Serves u (x.held ++ piece) out t left
        → Serves s (received_in (turned x.passed piece parts)) (sent_in (turned x.passed piece parts)) t left
    all_answered t piece out parts left is h =
        let both = serves_join some one more_bytes piece x.serves h in
        subst (λ bytes. Serves s bytes (sent_in (turned x.passed piece parts)) t left) (sym (received_turn x.passed piece parts))
        (subst (λ bytes. Serves s (received_in x.passed ++ piece) bytes t left) (sym (sent_turn x.passed piece parts ∙ ap (λ zs. sent_in x.passed ++ zs) is)) both)

    pub some_answered : (t : State) (piece out : List ℕ) (parts : List (List ℕ)) (made : ℕ) → concat parts ≡ out → Breaks u (x.held ++ piece) out t made
        → (made : ℕ) × Breaks s (received_in (turned x.passed piece parts)) (sent_in (turned x.passed piece parts)) t made
    some_answered t piece out parts made is h =
        let both = breaks_join piece made x.serves h in (
          both.0,
          subst (λ bytes. Breaks s bytes (sent_in (turned x.passed piece parts)) t both.0) (sym (received_turn x.passed piece parts))
              (subst (λ bytes. Breaks s (received_in x.passed ++ piece) bytes t both.0) (sym (sent_turn x.passed piece parts ∙ ap (λ zs. sent_in x.passed ++ zs) is)) both.1),
        )

    pub turn_prompt : (piece : List ℕ) (parts : List (List ℕ)) → IsPrompt s (turned x.passed piece parts)
    turn_prompt piece parts = prompt_turn s u x.passed x.held piece parts x.prompt x.serves

    -- one more turn, after which the connection is open
    pub exchanged_more : (t : State) (between after : Option (List Passage)) (piece out : List ℕ) (left : Option (List ℕ)) (held : List ℕ) → length piece ≤ most_bytes → Adds new between (received piece ∷ [])
        → SendsAll between after out → Serves u (x.held ++ piece) out t left → left ≡ Some held → Exchanged s old after t left
    exchanged_more t between after piece out left held short reads (parts, writes, is) h still = record {
      passed = turned x.passed piece parts;
      held = held;
      adds = adds_turn old new between after x.passed piece parts x.adds reads writes;
      prompt = turn_prompt piece parts;
      pieces = pieces_turn x.passed piece parts x.pieces short;
      serves = subst (λ r. Serves s (received_in (turned x.passed piece parts)) (sent_in (turned x.passed piece parts)) t r) still (all_answered t piece out parts left is h);
      stays = still;
    }

    -- ---- the ways to end

    -- the input is at its end
    pub at_end : (between : Option (List Passage)) (piece : List ℕ) (ended : Bool) (result : PipeEnd) → piece ≡ [] → Adds new between (received piece ∷ []) → ended ≡ true
        → result ≡ cond (is_unfinished rest) ends.Rest ends.Whole
        → (passed : List Passage) × Adds old between passed × IsExchange (record { before = s; after = u; passed = passed; ended = ended; result = Ok result })
    at_end between piece ended result empty reads over is =
        let passed = turned x.passed piece [] in
        let received_same : received_in passed ≡ received_in x.passed = received_turn x.passed piece [] ∙ ap (λ zs. received_in x.passed ++ zs) empty ∙ append-nil (received_in x.passed) in
        let sent_same : sent_in passed ≡ sent_in x.passed = sent_turn x.passed piece [] ∙ append-nil (sent_in x.passed) in
        let answered : Serves s (received_in passed) (sent_in passed) u rest =
        subst (λ bytes. Serves s bytes (sent_in passed) u rest) (sym received_same)
        (subst (λ bytes. Serves s (received_in x.passed) bytes u rest) (sym sent_same) (subst (λ r. Serves s (received_in x.passed) (sent_in x.passed) u r) (sym x.stays) x.serves)) in (
          passed,
          adds_append old new between x.passed (received piece ∷ []) x.adds reads,
          ended_by (is_unfinished rest) refl answered,
        )
      where
        none_read : length piece ≤ most_bytes
        none_read = subst (λ (bytes : List ℕ). length bytes ≤ most_bytes) (sym empty) (omega arith)

        ended_by : (b : Bool) → is_unfinished rest ≡ b → Serves s (received_in (turned x.passed piece [])) (sent_in (turned x.passed piece [])) u rest
            → IsExchange (record { before = s; after = u; passed = turned x.passed piece []; ended = ended; result = Ok result })
        ended_by true unfinished answered =
            subst (λ r. IsExchange (record { before = s; after = u; passed = turned x.passed piece []; ended = ended; result = Ok r }))
            (sym (is ∙ ap (λ b. cond b ends.Rest ends.Whole) unfinished)) (record { prompt = turn_prompt piece []; pieces = pieces_turn x.passed piece [] x.pieces none_read; sends = (rest, answered, inr over, unfinished) })
        ended_by false unfinished answered =
            subst (λ r. IsExchange (record { before = s; after = u; passed = turned x.passed piece []; ended = ended; result = Ok r }))
            (sym (is ∙ ap (λ b. cond b ends.Rest ends.Whole) unfinished)) (record { prompt = turn_prompt piece []; pieces = pieces_turn x.passed piece [] x.pieces none_read; sends = (rest, answered, inr over, unfinished) })

    -- a write failed
    pub write_failed : (t : State) (between after : Option (List Passage)) (piece out : List ℕ) (ended : Bool) → length piece ≤ most_bytes → Adds new between (received piece ∷ []) → SendsFront between after out
        → ((left : Option (List ℕ)) × Serves u (x.held ++ piece) out t left) ⊎ ((made : ℕ) × Breaks u (x.held ++ piece) out t made)
        → (passed : List Passage) × Adds old after passed × IsExchange (record { before = s; after = t; passed = passed; ended = ended; result = Err faults.WriteFailed })
    write_failed t between after piece out ended short reads (parts, unsent, writes, cut) made = (
      turned x.passed piece parts,
      adds_turn old new between after x.passed piece parts x.adds reads writes,
      record {
        prompt = turn_prompt piece parts;
        pieces = pieces_turn x.passed piece parts x.pieces short;
        sends = (
          sent_in x.passed ++ out,
          unsent,
          ap (λ zs. sent_in x.passed ++ zs) cut ∙ sym (append_assoc (sent_in x.passed) (concat parts) unsent) ∙ ap (λ zs. zs ++ unsent) (sym (sent_turn x.passed piece parts)),
          subst (λ bytes. ((held : Option (List ℕ)) × Serves s bytes (sent_in x.passed ++ out) t held) ⊎ ((made : ℕ) × Breaks s bytes (sent_in x.passed ++ out) t made)) (sym (received_turn x.passed piece parts))
              (elim made [
                | inl (left, h) ↦ inl (left, serves_join some one more_bytes piece x.serves h)
                | inr (count, h) ↦ inr (breaks_join piece count x.serves h)
              ]),
        );
      },
    )

    -- an allocation failed
    pub memory_failed : (t : State) (between after : Option (List Passage)) (piece out : List ℕ) (ended : Bool) → length piece ≤ most_bytes → Adds new between (received piece ∷ []) → SendsAll between after out
        → (made : ℕ) × Breaks u (x.held ++ piece) out t made
        → (passed : List Passage) × Adds old after passed × IsExchange (record { before = s; after = t; passed = passed; ended = ended; result = Err faults.Memory })
    memory_failed t between after piece out ended short reads (parts, writes, is) (made, h) = (
      turned x.passed piece parts,
      adds_turn old new between after x.passed piece parts x.adds reads writes,
      record { prompt = turn_prompt piece parts; pieces = pieces_turn x.passed piece parts x.pieces short; sends = some_answered t piece out parts made is h },
    )

    -- a request closed the connection
    pub closed_by : (t : State) (between after : Option (List Passage)) (piece out : List ℕ) (left : Option (List ℕ)) (ended : Bool) → length piece ≤ most_bytes → Adds new between (received piece ∷ []) → SendsAll between after out
        → Serves u (x.held ++ piece) out t left → left ≡ None
        → (passed : List Passage) × Adds old after passed × IsExchange (record { before = s; after = t; passed = passed; ended = ended; result = Ok ends.Whole })
    closed_by t between after piece out left ended short reads (parts, writes, is) h shut = (
      turned x.passed piece parts,
      adds_turn old new between after x.passed piece parts x.adds reads writes,
      record { prompt = turn_prompt piece parts; pieces = pieces_turn x.passed piece parts x.pieces short; sends = (left, all_answered t piece out parts left is h, inl shut, ap is_unfinished shut) },
    )

    -- no more reads are made, or one failed
    pub no_more : (after : Option (List Passage)) (ended : Bool) (fault : PipeFault) → Adds new after [] → (fault ≡ faults.ReadFailed) ⊎ (fault ≡ faults.TooManyReads)
        → (passed : List Passage) × Adds old after passed × IsExchange (record { before = s; after = u; passed = passed; ended = ended; result = Err fault })
    no_more after ended fault none (inl is) = (
      x.passed,
      stopped after none,
      subst (λ f. IsExchange (record { before = s; after = u; passed = x.passed; ended = ended; result = Err f })) (sym is) (record { prompt = x.prompt; pieces = x.pieces; sends = (Some x.held, x.serves) }),
    )
    no_more after ended fault none (inr is) = (
      x.passed,
      stopped after none,
      subst (λ f. IsExchange (record { before = s; after = u; passed = x.passed; ended = ended; result = Err f })) (sym is) (record { prompt = x.prompt; pieces = x.pieces; sends = (Some x.held, x.serves) }),
    )

pub none_of : (o : Option (List ℕ)) → is_none o ≡ true → o ≡ None
none_of None is = refl
none_of (Some bytes) is = absurd (let clash : false ≡ true = is in cc)

pub some_of : (o : Option (List ℕ)) → is_none o ≡ false → (bytes : List ℕ) × (o ≡ Some bytes)
some_of None is = absurd (let clash : true ≡ false = is in cc)
some_of (Some bytes) is = (bytes, refl)
