-- The steps of a turn, one after the other.
use Rattle.std.proofs.Common.{◌≡◌, ◌∙◌, ◌<◌, ◌+◌, ℕ, List, [], ◌∷◌, ◌++◌, length, true, Option, Some, None, refl, sym, ap, ap₂, append_assoc, append-nil, length-append, arith}
use Rattle.gql_wire.specs.Peer.{Passage, Adds, received_in, sent_in}
use Rattle.gql_wire.proofs.Passages.{received_in-append, sent_in-append}
use Rattle.gql_http.specs.Hubs.{rests_of}
use Rattle.gql_http.specs.declared.hub.Hub.{Hub}
use Rattle.gql_server.specs.Steps.{Writes, Reads, IsFed}
use Rattle.gql_server.specs.Turns.{Talk, Feeds, IsTurn, IsNext, MovesBytes, feeds_nothing, most_reads}
use Rattle.gql_server.specs.declared.place.End.TheVariants.{Answered, Ended, Failed, Spent}
use Rattle.gql_server.specs.declared.place.Next.{Next}
use Rattle.gql_server.specs.declared.place.Next.TheVariants.{Ready, Waits, Over}

adds_nothing : (a b : Option (List Passage)) → b ≡ a → Adds a b []
adds_nothing None b e = e
adds_nothing (Some old) b e = e ∙ ap (λ (ys : List Passage). Some ys) (sym (append-nil old))

adds_append : (a b c : Option (List Passage)) (xs ys : List Passage)
    → Adds a b xs → Adds b c ys → Adds a c (xs ++ ys)
adds_append None b c xs ys p q = rw p at q
adds_append (Some old) b c xs ys p q =
    let r = rw p at q in r ∙ ap (λ (zs : List Passage). Some zs) (append_assoc old xs ys)

adds_from : (a b c : Option (List Passage)) (xs : List Passage) → b ≡ a → Adds b c xs → Adds a c xs
adds_from a b c xs e h = rw e at h

-- ---- bytes that are moved

more : (a b : ℕ) → b ≡ a + 1 → a < b
more a b e = omega arith

none_of_length : (xs : List ℕ) → length xs ≡ 0 → xs ≡ []
none_of_length [] e = refl
none_of_length (x ∷ xs) e = absurd (omega (arith, e))

-- what is left is shorter, so some was taken
some_taken : (a s b : List ℕ) → a ≡ s ++ b → length b < length a → 0 < length s
some_taken a s b e less =
    let whole : length a ≡ length s + length b = ap length e ∙ length-append s b in omega arith

moves_sent : (passed : List Passage) (fed : List ℕ) → 0 < length (sent_in passed)
    → MovesBytes passed fed
moves_sent passed fed some = omega arith

moves_fed : (passed : List Passage) (fed : List ℕ) → 0 < length fed → MovesBytes passed fed
moves_fed passed fed some = omega arith

more_moved : (p q : List Passage) (fed : List ℕ) → MovesBytes q fed → MovesBytes (p ++ q) fed
more_moved p q fed some =
    let r : length (received_in (p ++ q)) ≡ length (received_in p) + length (received_in q) =
    ap length (received_in-append p q) ∙ length-append (received_in p) (received_in q) in
    let s : length (sent_in (p ++ q)) ≡ length (sent_in p) + length (sent_in q) =
    ap length (sent_in-append p q) ∙ length-append (sent_in p) (sent_in q) in
    omega arith

-- what is said after a step in which the socket neither failed nor could move nothing
leads_after : (x y z : Talk) (p q : List Passage) (fed : List ℕ) (n : Next)
    (rest : Option (List ℕ)) → y.has_failed ≡ x.has_failed → y.waits ≡ x.waits
    → IsNext y q fed n z rest → IsNext x (p ++ q) fed n z rest
leads_after x y z p q fed (Over end) rest failed waits h = h
leads_after x y z p q fed Ready rest failed waits h =
    (h.0 ∙ failed, h.1 ∙ waits, more_moved p q fed h.2)
leads_after x y z p q fed Waits rest failed waits h =
    (h.0 ∙ failed, let less = h.1 in omega (arith, less, waits))

-- ---- nothing is done

nothing_is_done : (c : ℕ) (h : Hub) (x y : Talk) (n : Next) → y.transcript ≡ x.transcript
    → y.unfed ≡ x.unfed → y.unsent ≡ x.unsent → IsNext x [] [] n y (rests_of h c)
    → IsTurn c h x n h y
nothing_is_done c h x y n t u v leads = record {
  passed = [];
  fed = [];
  out = [];
  passes = adds_nothing _ _ t;
  feeds = feeds_nothing;
  reading = append-nil _ ∙ sym u;
  writing = append-nil _ ∙ sym v;
  leads = leads;
}

-- the hub has closed the connection
pub nothing_answered : (c : ℕ) (h : Hub) (x y : Talk) → y.transcript ≡ x.transcript
    → y.unfed ≡ x.unfed → y.unsent ≡ x.unsent → y.unsent ≡ [] → rests_of h c ≡ None
    → IsTurn c h x (Over Answered) h y
nothing_answered c h x y t u v sent closed =
    nothing_is_done c h x y (Over Answered) t u v (sent, closed)

-- all reads were made
pub nothing_spent : (c : ℕ) (h : Hub) (x y : Talk) → y.transcript ≡ x.transcript
    → y.unfed ≡ x.unfed → y.unsent ≡ x.unsent → y.unsent ≡ [] → y.unfed ≡ []
    → y.reads ≡ most_reads → IsTurn c h x (Over Spent) h y
nothing_spent c h x y t u v sent fed reads =
    nothing_is_done c h x y (Over Spent) t u v (sent, fed, reads)

-- ---- a write

turn_of_writes : (c : ℕ) (h : Hub) (x y : Talk) (n : Next) (w : Writes x y)
    → IsNext x w.passed [] n y (rests_of h c) → IsTurn c h x n h y
turn_of_writes c h x y n w leads = record {
  passed = w.passed;
  fed = [];
  out = [];
  passes = w.passes;
  feeds = feeds_nothing;
  reading = ap (λ zs. x.unfed ++ zs) w.no_reads ∙ append-nil _ ∙ sym w.unfed;
  writing = append-nil _ ∙ w.writing;
  leads = leads;
}

pub write_failed : (c : ℕ) (h : Hub) (x y : Talk) → Writes x y → y.has_failed ≡ true
    → IsTurn c h x (Over Failed) h y
write_failed c h x y w failed = turn_of_writes c h x y (Over Failed) w failed

pub write_waits : (c : ℕ) (h : Hub) (x y : Talk) → Writes x y → y.has_failed ≡ x.has_failed
    → y.waits ≡ x.waits + 1 → IsTurn c h x Waits h y
write_waits c h x y w failed waits =
    turn_of_writes c h x y Waits w (failed, more x.waits y.waits waits)

pub write_part : (c : ℕ) (h : Hub) (x y : Talk) → Writes x y → y.has_failed ≡ x.has_failed
    → y.waits ≡ x.waits → length y.unsent < length x.unsent → IsTurn c h x Ready h y
write_part c h x y w failed waits less =
    turn_of_writes c h x y Ready w
    (failed, waits, moves_sent w.passed [] (some_taken x.unsent (sent_in w.passed) y.unsent w.writing less))

-- a write comes before a turn
pub after_writes : (c : ℕ) (h k : Hub) (x y z : Talk) (n : Next) → Writes x y
    → y.has_failed ≡ x.has_failed → y.waits ≡ x.waits → IsTurn c h y n k z → IsTurn c h x n k z
after_writes c h k x y z n w failed waits t = record {
  passed = w.passed ++ t.passed;
  fed = t.fed;
  out = t.out;
  passes = adds_append _ _ _ w.passed t.passed w.passes t.passes;
  feeds = t.feeds;
  reading = ap₂ (λ us rs. us ++ rs) (sym w.unfed)
      (received_in-append w.passed t.passed ∙ ap (λ zs. zs ++ received_in t.passed) w.no_reads)
      ∙ t.reading;
  writing = ap (λ zs. zs ++ t.out) w.writing ∙ append_assoc (sent_in w.passed) y.unsent t.out
      ∙ ap (λ zs. sent_in w.passed ++ zs) t.writing
      ∙ sym (append_assoc (sent_in w.passed) (sent_in t.passed) z.unsent)
      ∙ ap (λ zs. zs ++ z.unsent) (sym (sent_in-append w.passed t.passed));
  leads = leads_after x y z w.passed t.passed t.fed n (rests_of k c) failed waits t.leads;
}

-- ---- a part is fed, and its answers are written

turn_of_fed : (c : ℕ) (h k : Hub) (x y z : Talk) (n : Next) (f : IsFed c h x k y)
    (w : Writes y z) → IsNext x w.passed f.piece n z (rests_of k c) → IsTurn c h x n k z
turn_of_fed c h k x y z n f w leads = record {
  passed = w.passed;
  fed = f.piece;
  out = y.unsent;
  passes = adds_from _ _ _ w.passed f.passes w.passes;
  feeds = f.feeds;
  reading = ap (λ zs. x.unfed ++ zs) w.no_reads ∙ append-nil _ ∙ f.fed
      ∙ ap (λ zs. f.piece ++ zs) (sym w.unfed);
  writing = ap (λ zs. zs ++ y.unsent) f.sent ∙ w.writing;
  leads = leads;
}

pub fed_failed : (c : ℕ) (h k : Hub) (x y z : Talk) → IsFed c h x k y → Writes y z
    → z.has_failed ≡ true → IsTurn c h x (Over Failed) k z
fed_failed c h k x y z f w failed = turn_of_fed c h k x y z (Over Failed) f w failed

pub fed_waits : (c : ℕ) (h k : Hub) (x y z : Talk) → IsFed c h x k y → Writes y z
    → z.has_failed ≡ y.has_failed → z.waits ≡ y.waits + 1 → IsTurn c h x Waits k z
fed_waits c h k x y z f w failed waits =
    turn_of_fed c h k x y z Waits f w
    (failed ∙ f.failed, more x.waits z.waits (waits ∙ ap (λ n. n + 1) f.waits))

pub fed_ready : (c : ℕ) (h k : Hub) (x y z : Talk) → IsFed c h x k y → Writes y z
    → z.has_failed ≡ y.has_failed → z.waits ≡ y.waits → IsTurn c h x Ready k z
fed_ready c h k x y z f w failed waits =
    turn_of_fed c h k x y z Ready f w
    (failed ∙ f.failed, waits ∙ f.waits, moves_fed w.passed f.piece f.some)

-- ---- a read

turn_of_reads : (c : ℕ) (h : Hub) (x y : Talk) (n : Next) (r : Reads x y)
    → IsNext x r.passed [] n y (rests_of h c) → IsTurn c h x n h y
turn_of_reads c h x y n r leads = record {
  passed = r.passed;
  fed = [];
  out = [];
  passes = r.passes;
  feeds = feeds_nothing;
  reading = ap (λ zs. zs ++ received_in r.passed) r.before ∙ r.reading;
  writing = append-nil _ ∙ sym r.unsent ∙ ap (λ zs. zs ++ y.unsent) (sym r.no_writes);
  leads = leads;
}

pub read_failed : (c : ℕ) (h : Hub) (x y : Talk) → Reads x y → y.has_failed ≡ true
    → IsTurn c h x (Over Failed) h y
read_failed c h x y r failed = turn_of_reads c h x y (Over Failed) r failed

pub read_waits : (c : ℕ) (h : Hub) (x y : Talk) → Reads x y → y.has_failed ≡ x.has_failed
    → y.waits ≡ x.waits + 1 → IsTurn c h x Waits h y
read_waits c h x y r failed waits =
    turn_of_reads c h x y Waits r (failed, more x.waits y.waits waits)

pub read_ended : (c : ℕ) (h : Hub) (x y : Talk) → Reads x y → x.unsent ≡ []
    → length y.unfed ≡ 0 → y.ended ≡ true → IsTurn c h x (Over Ended) h y
read_ended c h x y r sent none ended =
    turn_of_reads c h x y (Over Ended) r (r.unsent ∙ sent, none_of_length y.unfed none, ended)

-- a read comes before a turn
pub after_reads : (c : ℕ) (h k : Hub) (x y z : Talk) (n : Next) → Reads x y
    → y.has_failed ≡ x.has_failed → y.waits ≡ x.waits → IsTurn c h y n k z → IsTurn c h x n k z
after_reads c h k x y z n r failed waits t = record {
  passed = r.passed ++ t.passed;
  fed = t.fed;
  out = t.out;
  passes = adds_append _ _ _ r.passed t.passed r.passes t.passes;
  feeds = t.feeds;
  reading = ap₂ (λ us rs. us ++ rs) r.before (received_in-append r.passed t.passed)
      ∙ ap (λ zs. zs ++ received_in t.passed) r.reading ∙ t.reading;
  writing = ap (λ zs. zs ++ t.out) (sym r.unsent) ∙ t.writing
      ∙ ap (λ zs. zs ++ z.unsent) (ap (λ zs. zs ++ sent_in t.passed) (sym r.no_writes)
      ∙ sym (sent_in-append r.passed t.passed));
  leads = leads_after x y z r.passed t.passed t.fed n (rests_of k c) failed waits t.leads;
}
