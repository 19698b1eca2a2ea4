-- The connections that are served at one time, and what happens to them.
use Rattle.std.proofs.Common.{◌≡◌, ◌≢◌, ◌<◌, ◌≤◌, ◌∙◌, inl, inr, ℕ, List, [], Bool, true, false, cond, eqb-true, length, Option, Some, None, get_or, refl, sym, ap, subst, arith}
use Rattle.std.specs.Prelude.{◌==◌, slice_set}
use Rattle.std.proofs.lemmas.Bool.Decides.{nat_tests}
use Rattle.std.proofs.lemmas.List.{get_or_default, get_or-set_same, get_or-set_other, length-set}
use Rattle.gql_http.specs.Events.{opens, closes, Does}
use Rattle.gql_http.specs.Hubs.{rests_of, service_of}
use Rattle.gql_http.specs.declared.hub.Hub.{Hub}
use Rattle.gql_server.proofs.Going.{goes_does, goes_join, goes_nothing, goes_turn}
use Rattle.gql_server.proofs.Growing.{joined_assoc, joined_nothing, refused, replaced}
use Rattle.gql_server.specs.Rooms.{Happens, Moves, Runs, Talks, TurnsOrStays, is_turned_away, leaves, no_talks, nothing_happens, sits, taken_back, talk_in, talks_of, then_happens, then_waits, turns, with_talk}
use Rattle.gql_server.specs.Seated.{Seated}
use Rattle.gql_server.specs.Together.{Goes}
use Rattle.gql_server.specs.Traffic.{Line, Traffic, accepts, joined, no_traffic, reports_one, returns}
use Rattle.gql_server.specs.Turns.{Talk, begun}

-- ---- numbers and connections

pub same_number : (d c : ℕ) → (d == c) ≡ true → d ≡ c
same_number d c is = eqb-true d c is

pub other_number : (d c : ℕ) → (d == c) ≡ false → d ≢ c
other_number d c is = grind (arith, nat_tests)

-- the connection that is changed
pub talk_changed : (talks : Talks) (c : ℕ) (talk : Option Talk) → with_talk talks c talk c ≡ talk
talk_changed talks c talk = let same : (c == c) ≡ true = grind (arith, nat_tests) in ap (λ b. cond b talk (talks c)) same

same_by : (talks : Talks) (c d : ℕ) (b : Bool) → (d == c) ≡ b → cond b (talks c) (talks d) ≡ talks d
same_by talks c d true is = ap talks (sym (same_number d c is))
same_by talks c d false is = refl

-- a connection that is changed to what it was
pub talk_same : (talks : Talks) (c : ℕ) (talk : Option Talk) → talks c ≡ talk → with_talk talks c talk ≡ talks
talk_same talks c talk is = ap (with_talk talks c) (sym is) ∙ (λ i. λ d. same_by talks c d (d == c) refl i)

twice_by : (b : Bool) (x y z : Option Talk) → cond b y (cond b x z) ≡ cond b y z
twice_by true x y z = refl
twice_by false x y z = refl

-- a connection that is changed twice
pub talk_twice : (talks : Talks) (c : ℕ) (x y : Option Talk) → with_talk (with_talk talks c x) c y ≡ with_talk talks c y
talk_twice talks c x y = λ i. λ d. twice_by (d == c) x y (talks d) i

-- ---- seats

seat_by : (seats : List (Option Seated)) (c d : ℕ) (slot : Option Seated) (b : Bool) → (d == c) ≡ b → c < length seats → talk_in (get_or (slice_set seats c slot) d None) ≡ cond b (talk_in slot) (talk_in (get_or seats d None))
seat_by seats c d slot true is within = ap (λ n. talk_in (get_or (slice_set seats c slot) n None)) (same_number d c is) ∙ ap talk_in (get_or-set_same seats c slot None within)
seat_by seats c d slot false is within = ap talk_in (get_or-set_other seats c d slot None (other_number d c is))

-- the connections of seats, one of which is changed
pub seat_set : (seats : List (Option Seated)) (c : ℕ) (slot : Option Seated) → c < length seats → talks_of (slice_set seats c slot) ≡ with_talk (talks_of seats) c (talk_in slot)
seat_set seats c slot within = λ i. λ d. seat_by seats c d slot (d == c) refl within i

-- ---- what happens

-- the same with a traffic that is equal
pub runs_as : (bound : ℕ) (a : Hub) (s : Talks) (x y : Traffic) (b : Hub) (t : Talks) → x ≡ y → Runs bound a s x b t → Runs bound a s y b t
runs_as bound a s x y b t is runs = subst (λ (z : Traffic). Runs bound a s z b t) is runs

pub runs_join : (bound : ℕ) (a b : Hub) (s t : Talks) (d : Hub) (u : Talks) (x y : Traffic) → Runs bound a s x b t → Runs bound b t y d u → Runs bound a s (joined x y) d u
runs_join bound a b s t _ _ x _ first nothing_happens = runs_as bound a s x (joined x no_traffic) b t (sym (joined_nothing x)) first
runs_join bound a b s t _ _ x _ first (then_happens {s = p} {t = q} {d = d} {last = u} c before below h) =
    runs_as bound a s (joined (joined x p) q) (joined x (joined p q)) d u (joined_assoc x p q) (then_happens c (runs_join bound a b s t _ _ x p first before) below h)
runs_join bound a b s t _ _ x _ first (then_waits {s = p} {b = d} {last = u} report before) =
    runs_as bound a s (joined (joined x p) (reports_one report)) (joined x (joined p (reports_one report))) d u (joined_assoc x p (reports_one report)) (then_waits report (runs_join bound a b s t _ _ x p first before))

-- nothing
pub runs_stay : (bound : ℕ) (a : Hub) (s : Talks) → Runs bound a s no_traffic a s
runs_stay bound a s = nothing_happens

-- one thing
pub runs_one : (bound c : ℕ) (a b : Hub) (s t : Talks) (x : Traffic) → c < bound → Happens c a s x b t → Runs bound a s x b t
runs_one bound c a b s t x below h = then_happens c nothing_happens below h

happens_goes : (bound c : ℕ) (a b : Hub) (s t : Talks) (x : Traffic) → c < bound → Happens c a s x b t → Goes bound a b
happens_goes bound c a b s _ _ below (sits line free does) = goes_does bound a b (opens c) [] below does
happens_goes bound c a _ s _ _ below (is_turned_away line) = goes_nothing bound a
happens_goes bound c a b s _ _ below (turns old new next is turn) = goes_turn bound c a b old new next below turn
happens_goes bound c a b s _ _ below (leaves does) = goes_does bound a b (closes c) [] below does

-- what happens are events of the hub
pub runs_goes : (bound : ℕ) (a : Hub) (s : Talks) (x : Traffic) (b : Hub) (t : Talks) → Runs bound a s x b t → Goes bound a b
runs_goes bound a s _ _ _ nothing_happens = goes_nothing bound a
runs_goes bound a s _ _ _ (then_happens {t = y} {b} {d} {between} {last} c before below h) = goes_join bound a b d (runs_goes bound a s _ b between before) (happens_goes bound c b d between last y below h)
runs_goes bound a s _ _ _ (then_waits {b} {last} report before) = runs_goes bound a s _ b last before

-- ---- one connection

-- nothing happens to it
pub moves_stay : (bound c : ℕ) (a : Hub) (talk : Option Talk) → Moves bound c a talk no_traffic a talk
moves_stay bound c a talk talks is = subst (Runs bound a talks no_traffic a) (sym (talk_same talks c talk is)) nothing_happens

-- it has a turn, or nothing happens
pub moves_turn : (bound c : ℕ) (a b : Hub) (old new : Talk) → c < bound → TurnsOrStays c a old b new → Moves bound c a (Some old) no_traffic b (Some new)
moves_turn bound c a b old new below (inl (next, turn)) talks is = runs_one bound c a b talks (with_talk talks c (Some new)) no_traffic below (turns old new next is turn)
moves_turn bound c a b old new below (inr stays) talks is =
    subst (λ (h : Hub). Runs bound a talks no_traffic h (with_talk talks c (Some new))) (sym stays.0)
    (subst (λ (t : Talk). Runs bound a talks no_traffic a (with_talk talks c (Some t))) (sym stays.1) (moves_stay bound c a (Some old) talks is))

-- it has a turn, or nothing happens to it, and it keeps its number
pub moves_on : (bound c : ℕ) (a b : Hub) (slot : Option Seated) (seat : Seated) (new : Talk) → c < bound → slot ≡ Some seat → TurnsOrStays c a seat.talk b new
    → Moves bound c a (talk_in slot) no_traffic b (Some new)
moves_on bound c a b slot seat new below is turn =
    subst (λ (o : Option Seated). Moves bound c a (talk_in o) no_traffic b (Some new)) (sym is) (moves_turn bound c a b seat.talk new below turn)

-- its number is closed
pub moves_leave : (bound c : ℕ) (a b : Hub) (talk : Option Talk) → c < bound → Does (service_of a) (rests_of a) (closes c) [] (service_of b) (rests_of b) → Moves bound c a talk (taken_back talk) b None
moves_leave bound c a b talk below does talks is =
    subst (λ (o : Option Talk). Runs bound a talks (taken_back o) b (with_talk talks c None)) is
    (runs_one bound c a b talks (with_talk talks c None) (taken_back (talks c)) below (leaves does))

-- a connection gets the number, which no other has
pub moves_sit : (bound c : ℕ) (a b : Hub) (line : Line) → c < bound → Does (service_of a) (rests_of a) (opens c) [] (service_of b) (rests_of b) → Moves bound c a None (accepts line) b (Some (begun line))
moves_sit bound c a b line below does talks is = runs_one bound c a b talks (with_talk talks c (Some (begun line))) (accepts line) below (sits line is does)

-- a connection is turned away
moves_away : (bound c : ℕ) (a : Hub) (line : Line) (talk : Option Talk) → c < bound → Moves bound c a talk (joined (accepts line) (returns line)) a talk
moves_away bound c a line talk below talks is =
    subst (Runs bound a talks (joined (accepts line) (returns line)) a) (sym (talk_same talks c talk is))
    (runs_one bound c a a talks talks (joined (accepts line) (returns line)) below (is_turned_away line))

-- the same with a traffic that is equal
moves_as : (bound c : ℕ) (a b : Hub) (x z : Option Talk) (s t : Traffic) → s ≡ t → Moves bound c a x s b z → Moves bound c a x t b z
moves_as bound c a b x z s t same moves talks is = runs_as bound a talks s t b (with_talk talks c z) same (moves talks is)

-- one thing after the other
pub moves_join : (bound c : ℕ) (a b d : Hub) (x y z : Option Talk) (s t : Traffic) → Moves bound c a x s b y → Moves bound c b y t d z → Moves bound c a x (joined s t) d z
moves_join bound c a b d x y z s t first last talks is =
    runs_join bound a b talks (with_talk talks c y) d (with_talk talks c z) s t (first talks is)
    (subst (Runs bound b (with_talk talks c y) t d) (talk_twice talks c y z) (last (with_talk talks c y) (talk_changed talks c y)))

-- it has a turn, or nothing happens to it, and its number is closed
pub moves_over : (bound c : ℕ) (a b d : Hub) (slot : Option Seated) (seat : Seated) (new : Talk) → c < bound → slot ≡ Some seat → TurnsOrStays c a seat.talk b new
    → Does (service_of b) (rests_of b) (closes c) [] (service_of d) (rests_of d) → Moves bound c a (talk_in slot) (taken_back (Some new)) d None
moves_over bound c a b d slot seat new below is turn does =
    subst (λ (o : Option Seated). Moves bound c a (talk_in o) (taken_back (Some new)) d None) (sym is)
    (moves_join bound c a b d (Some seat.talk) (Some new) None no_traffic (taken_back (Some new)) (moves_turn bound c a b seat.talk new below turn) (moves_leave bound c b d (Some new) below does))

-- the connection that had the number leaves, and another one that was accepted gets it
pub moves_replace : (bound c : ℕ) (a b d : Hub) (old : Option Talk) (line : Line) → c < bound → Does (service_of a) (rests_of a) (closes c) [] (service_of b) (rests_of b)
    → Does (service_of b) (rests_of b) (opens c) [] (service_of d) (rests_of d) → Moves bound c a old (joined (accepts line) (taken_back old)) d (Some (begun line))
moves_replace bound c a b d old line below closed opened =
    moves_as bound c a d old (Some (begun line)) (joined (taken_back old) (accepts line)) (joined (accepts line) (taken_back old)) (replaced old line)
    (moves_join bound c a b d old None (Some (begun line)) (taken_back old) (accepts line) (moves_leave bound c a b old below closed) (moves_sit bound c b d line below opened))

-- the connection that had the number leaves, and another one that was accepted is turned away
pub moves_refuse : (bound c : ℕ) (a b : Hub) (old : Option Talk) (line : Line) → c < bound → Does (service_of a) (rests_of a) (closes c) [] (service_of b) (rests_of b)
    → Moves bound c a old (joined (accepts line) (joined (taken_back old) (returns line))) b None
moves_refuse bound c a b old line below closed =
    moves_as bound c a b old None (joined (taken_back old) (joined (accepts line) (returns line))) (joined (accepts line) (joined (taken_back old) (returns line))) (refused old line)
    (moves_join bound c a b b old None None (taken_back old) (joined (accepts line) (returns line)) (moves_leave bound c a b old below closed) (moves_away bound c b line None below))

-- nobody has the seat then
pub moves_free : (bound c : ℕ) (a b : Hub) (x : Option Talk) (slot : Option Seated) (t : Traffic) → slot ≡ None → Moves bound c a x t b None → Moves bound c a x t b (talk_in slot)
moves_free bound c a b x slot t free moves = subst (λ (o : Option Seated). Moves bound c a x t b (talk_in o)) (sym free) moves

-- no connection is accepted when one is taken back
pub back_accepts_none : (talk : Option Talk) → (taken_back talk).accepted ≡ []
back_accepts_none None = refl
back_accepts_none (Some talk) = refl

-- ---- all connections

-- what happens to the connection of a seat
pub runs_seat : (bound c : ℕ) (a b : Hub) (seats new : List (Option Seated)) (old slot : Option Seated) (x : Traffic) → c < length seats → old ≡ get_or seats c None → new ≡ slice_set seats c slot → Moves bound c a (talk_in old) x b (talk_in slot)
    → Runs bound a (talks_of seats) x b (talks_of new)
runs_seat bound c a b seats new old slot x within is set moves =
    subst (Runs bound a (talks_of seats) x b) (sym (ap talks_of set ∙ seat_set seats c slot within)) (moves (talks_of seats) (ap talk_in (sym is)))

-- a number below the bound is a place of sixteen seats
pub place_of : (bound c n many : ℕ) → bound ≤ 16 → c < bound → n ≡ c → many ≡ 16 → n < many
place_of bound c n many most below same size = omega (arith, most, below, same, size)

-- what happens to the connection of the seat at a place n, which is its number
pub runs_at : (bound c n : ℕ) (a b : Hub) (seats : List (Option Seated)) (any slot : Option Seated) (x : Traffic) → bound ≤ 16 → c < bound → n ≡ c → length seats ≡ 16
    → Moves bound c a (talk_in (get_or seats n any)) x b (talk_in slot) → Runs bound a (talks_of seats) x b (talks_of (slice_set seats n slot))
runs_at bound c n a b seats any slot x most below same size moves =
    let within : n < length seats = place_of bound c n (length seats) most below same size in
    runs_seat bound n a b seats (slice_set seats n slot) (get_or seats n any) slot x within (get_or_default seats n any None within) refl
    (subst (λ m. Moves bound m a (talk_in (get_or seats n any)) x b (talk_in slot)) (sym same) moves)

-- how many seats there are when one is changed
pub seat_count : (n : ℕ) (seats : List (Option Seated)) (slot : Option Seated) → length seats ≡ 16 → length (slice_set seats n slot) ≡ 16
seat_count n seats slot size = length-set seats n slot ∙ size

-- seats that nobody has
pub free_talks : (seats : List (Option Seated)) → ((c : ℕ) → get_or seats c None ≡ None) → talks_of seats ≡ no_talks
free_talks seats free = λ i. λ c. ap talk_in (free c) i
