-- The seats of a server in one round.
use Rattle.std.proofs.Common.{◌≡◌, ◌≢◌, ◌<◌, ◌≤◌, ◌+◌, ◌∙◌, ◌⊎◌, inl, inr, ℕ, List, Bool, true, false, length, Option, Some, None, get_or, refl, sym, ap, subst, arith}
use Rattle.std.specs.Prelude.{slice_set}
use Rattle.std.proofs.lemmas.Bool.{cases_order}
use Rattle.std.proofs.lemmas.List.{get_or_default, get_or-set_same, get_or-set_other}
use Rattle.gql_http.specs.declared.hub.Hub.{Hub}
use Rattle.gql_server.specs.Seats.{Advances, HasItsTurn, HaveTheirTurns}
use Rattle.gql_server.specs.Seated.{Seated}
use Rattle.gql_server.specs.Turns.{IsTurn, Talk}
use Rattle.gql_server.specs.declared.place.Next.{Next}

-- the connection is over, and leaves its seat
pub turn_ends : (c : ℕ) (a b : Hub) (seat new : Seated) (slot last : Option Seated) (over : Bool) → slot ≡ Some seat
    → (seat.is_ready ≡ true → Advances c a seat b new over) → over ≡ true → last ≡ None → HasItsTurn c slot last
turn_ends c a b seat new slot last over is ready ended free =
    subst (λ (o : Option Seated). HasItsTurn c slot o) (sym free)
    (subst (λ (s : Option Seated). HasItsTurn c s None) (sym is) (
      (λ e. let t = ready e in (a, b, t.0, new.talk, t.1, sym t.3 ∙ ended)),
      (λ _. inr refl),
    ))

-- the connection keeps its seat
pub turn_stays : (c : ℕ) (a b : Hub) (seat new : Seated) (slot : Option Seated) (over : Bool) → slot ≡ Some seat
    → (seat.is_ready ≡ true → Advances c a seat b new over)
    → (seat.is_ready ≡ false → (b ≡ a) × (new ≡ seat)) → over ≡ false
    → HasItsTurn c slot (Some new)
turn_stays c a b seat new slot over is ready quiet on =
    subst (λ (s : Option Seated). HasItsTurn c s (Some new)) (sym is) (
      (λ e. let t = ready e in (a, b, t.0, new.talk, t.1, (sym t.3 ∙ on, refl, t.2))),
      (λ e. inl (ap (λ (s : Seated). Some s) (quiet e).1)),
    )

-- no seat has had its turn yet
pub no_turns : (seats : List (Option Seated)) → HaveTheirTurns 0 seats seats
no_turns seats c less = absurd (omega (arith, less))

abbrev IsAsBefore : ℕ → List (Option Seated) → List (Option Seated) → Type 0
IsAsBefore bound old new = (c : ℕ) → bound ≤ c → get_or new c None ≡ get_or old c None

-- one more seat has its turn
pub turns_more : (n m : ℕ) (old seats : List (Option Seated)) (any slot : Option Seated) → m ≡ n → n < length seats
    → HaveTheirTurns n old seats → IsAsBefore n old seats → HasItsTurn n (get_or seats m any) slot
    → HaveTheirTurns (n + 1) old (slice_set seats m slot)
turns_more n m old seats any slot same within before rest turn c less =
    subst (λ (i : ℕ). HasItsTurn c (get_or old c None) (get_or (slice_set seats i slot) c None)) (sym same) (more (cases_order c n))
  where
    this : HasItsTurn n (get_or old n None) slot
    this = let at : get_or seats m any ≡ get_or old n None = ap (λ (i : ℕ). get_or seats i any) same ∙ (get_or_default seats n any None within ∙ rest n (omega arith)) in
        subst (λ (s : Option Seated). HasItsTurn n s slot) at turn

    more : (c ≡ n) ⊎ ((c < n) ⊎ (n < c)) → HasItsTurn c (get_or old c None) (get_or (slice_set seats n slot) c None)
    more (inl is) =
        subst (λ (d : ℕ). HasItsTurn d (get_or old d None) (get_or (slice_set seats n slot) d None)) (sym is)
        (subst (λ (s : Option Seated). HasItsTurn n (get_or old n None) s) (sym (get_or-set_same seats n slot None within)) this)
    more (inr (inl below)) =
        let apart : c ≢ n = λ e. omega (arith, e, below) in
        subst (λ (s : Option Seated). HasItsTurn c (get_or old c None) s) (sym (get_or-set_other seats n c slot None apart)) (before c below)
    more (inr (inr above)) = absurd (omega (arith, less, above))

-- the seats above have had none
pub rest_after : (n m : ℕ) (old seats : List (Option Seated)) (slot : Option Seated) → m ≡ n → IsAsBefore n old seats
    → IsAsBefore (n + 1) old (slice_set seats m slot)
rest_after n m old seats slot same rest c above =
    let apart : c ≢ m = λ e. omega (arith, e, same, above) in
    get_or-set_other seats m c slot None apart ∙ rest c (omega (arith, above))
