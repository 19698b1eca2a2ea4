-- Events one after the other.
use Rattle.std.proofs.Common.{◌≡◌, ◌≢◌, ◌<◌, ◌≤◌, ◌∙◌, ℕ, List, [], ◌∷◌, ◌++◌, Bool, true, false, Option, None, refl, sym, ap, arith, ◌⊎◌, inl, inr, ◌+◌}
use Rattle.std.proofs.lemmas.Bool.{cases_lt, cases_order}
use Rattle.gql_registry.specs.State.{State}
use Rattle.gql_http.specs.Events.{Event, opens, feeds, breaks, closes, Connections, Does, Behaves, connection_of, does_nothing, does_first}
use Rattle.gql_http.specs.Hubs.{rests_of, service_of}
use Rattle.gql_http.specs.declared.hub.Hub.{Hub}
use Rattle.gql_http.proofs.Exchanging.{does_others, feed_connection}
use Rattle.gql_http.proofs.PipeConnections.{closed_after}
use Rattle.gql_server.specs.Together.{AreBelow, AreClosed, Goes}
use Rattle.gql_server.specs.Turns.{Talk, Feeds, feeds_nothing, feeds_piece, IsTurn}
use Rattle.gql_server.specs.declared.place.Next.{Next}

pub goes_nothing : (bound : ℕ) (h : Hub) → Goes bound h h
goes_nothing bound h = record { events = []; outs = []; behaves = does_nothing; below = tt }

pub goes_does : (bound : ℕ) (a b : Hub) (e : Event) (out : List ℕ) → connection_of e < bound
    → Does (service_of a) (rests_of a) e out (service_of b) (rests_of b) → Goes bound a b
goes_does bound a b e out h d = record {
  events = e ∷ [];
  outs = out ∷ [];
  behaves = does_first d does_nothing;
  below = (h, tt);
}

behaves_join : (s t u : State) (p q r : Connections) (es fs : List Event) (os ps : List (List ℕ))
    → Behaves s p es os t q → Behaves t q fs ps u r → Behaves s p (es ++ fs) (os ++ ps) u r
behaves_join s t u p q r es fs os ps does_nothing h = h
behaves_join s t u p q r es fs os ps (does_first first rest) h =
    does_first first (behaves_join _ _ _ _ _ _ _ _ _ _ rest h)

below_join : (bound : ℕ) (es fs : List Event) → AreBelow bound es → AreBelow bound fs
    → AreBelow bound (es ++ fs)
below_join bound [] fs h k = k
below_join bound (e ∷ es) fs h k = (h.0, below_join bound es fs h.1 k)

pub goes_join : (bound : ℕ) (a b c : Hub) → Goes bound a b → Goes bound b c → Goes bound a c
goes_join bound a b c g h = record {
  events = g.events ++ h.events;
  outs = g.outs ++ h.outs;
  behaves = behaves_join _ _ _ _ _ _ _ _ _ _ g.behaves h.behaves;
  below = below_join bound g.events h.events g.below h.below;
}

goes_feeds : (bound c : ℕ) (a b : Hub) (fed out : List ℕ) → c < bound → Feeds a c fed out b
    → Goes bound a b
goes_feeds bound c a b fed out h feeds_nothing = goes_nothing bound a
goes_feeds bound c a b fed out h (feeds_piece {e} memory is d) =
    goes_does bound a b e out (rw (feed_connection c fed memory e is) h) d

pub goes_turn : (bound c : ℕ) (a b : Hub) (x y : Talk) (n : Next) → c < bound
    → IsTurn c a x n b y → Goes bound a b
goes_turn bound c a b x y n h t = goes_feeds bound c a b t.fed t.out h t.feeds

-- ---- connections

closed_by : (s t : State) (a b : Connections) (c : ℕ) (out : List ℕ) → Does s a (closes c) out t b
    → (d : ℕ) → (d ≡ c) ⊎ ((d < c) ⊎ (c < d)) → a d ≡ None → b d ≡ None
closed_by s t a b c out does d (inl same) is = ap b same ∙ (closed_after s t a c out b does).0
closed_by s t a b c out does d (inr (inl less)) is =
    does_others s t a b (closes c) out d does (λ same. omega (arith, same, less)) ∙ is
closed_by s t a b c out does d (inr (inr more)) is =
    does_others s t a b (closes c) out d does (λ same. omega (arith, same, more)) ∙ is

-- a connection that is closed stays so when another one is closed
pub closed_still : (s t : State) (a b : Connections) (c : ℕ) (out : List ℕ)
    → Does s a (closes c) out t b → (d : ℕ) → a d ≡ None → b d ≡ None
closed_still s t a b c out does d is = closed_by s t a b c out does d (cases_order d c) is

-- the connections from the bound on stay as they were
behaves_above : (bound : ℕ) (s t : State) (a b : Connections) (events : List Event)
    (outs : List (List ℕ)) → Behaves s a events outs t b → AreBelow bound events
    → (d : ℕ) → bound ≤ d → b d ≡ a d
behaves_above bound s _ a _ _ _ does_nothing below d above = refl
behaves_above bound s t a b (e ∷ events) (out ∷ outs) (does_first {t = u} {between} first rest) below d above =
    behaves_above bound u t between b events outs rest below.1 d above
    ∙ does_others s u a between e out d first
    (let h = below.0 in let apart : d ≢ connection_of e = λ same. omega (arith, same, h, above) in apart)

pub goes_above : (bound : ℕ) (x y : Hub) → Goes bound x y → (d : ℕ) → bound ≤ d
    → rests_of y d ≡ rests_of x d
goes_above bound x y g d above = behaves_above bound _ _ _ _ g.events g.outs g.behaves g.below d above

same_by : (bound : ℕ) (x y : Hub) → AreClosed bound x → AreClosed bound y → Goes bound x y
    → (d : ℕ) → (d < bound) ⊎ (bound ≤ d) → rests_of y d ≡ rests_of x d
same_by bound x y was is g d (inl below) = is d below ∙ sym (was d below)
same_by bound x y was is g d (inr above) = goes_above bound x y g d above

-- the connections of a hub are as they were if those below the bound were closed and are closed
pub same_rests : (bound : ℕ) (x y : Hub) → AreClosed bound x → AreClosed bound y → Goes bound x y
    → rests_of y ≡ rests_of x
same_rests bound x y was is g = λ i. λ d. same_by bound x y was is g d (cases_lt d bound) i

-- one more connection is closed
pub one_more : (number : ℕ) (x y : Hub) → ((c : ℕ) → c < number → rests_of x c ≡ None)
    → rests_of y number ≡ None → ((c : ℕ) → rests_of x c ≡ None → rests_of y c ≡ None)
    → (c : ℕ) → c < number + 1 → rests_of y c ≡ None
one_more number x y before this others c less = more (cases_order c number)
  where
    more : (c ≡ number) ⊎ ((c < number) ⊎ (number < c)) → rests_of y c ≡ None
    more (inl same) = ap (rests_of y) same ∙ this
    more (inr (inl below)) = others c (before c below)
    more (inr (inr above)) = absurd (omega (arith, less, above))
