-- Connections whose sockets a wait reports.
use Rattle.std.proofs.Common.{◌≡◌, ◌∙◌, ◌<◌, ◌≤◌, ◌+◌, ◌⊎◌, inl, inr, ℕ, Bool, true, false, length, Option, Some, None, get_or, refl, sym, ap, subst, arith}
use Rattle.std.specs.Prelude.{slice_set}
use Rattle.std.proofs.lemmas.Bool.{cases_lt, cases_order}
use Rattle.std.proofs.lemmas.List.{get_or_default, get_or_past, get_or-set_same, get_or-set_other}
use Rattle.gql_server.specs.Rooms.{talk_in, talks_of}
use Rattle.gql_server.specs.Rounds.{AreNoted, IsNoted, Seats}
use Rattle.gql_server.specs.Seated.{Seated}
use Rattle.gql_server.specs.declared.report.Report.{Report}

noted_talk : (b : Bool) (old new : Option Seated) → IsNoted b old new → talk_in new ≡ talk_in old
noted_talk false old new e = ap talk_in e
noted_talk true None new e = ap talk_in e
noted_talk true (Some seat) new e = ap talk_in e

pub noted_talks : (report : Report) (old new : Seats) → AreNoted report old new
    → talks_of new ≡ talks_of old
noted_talks report old new noted =
    λ i. λ c. noted_talk (get_or report.sockets c false) _ _ (noted c) i

-- the seats below a number are noted
abbrev pub NotedBelow : ℕ → Report → Seats → Seats → Type 0
NotedBelow n report old new =
    (c : ℕ) → c < n → IsNoted (get_or report.sockets c false) (get_or old c None) (get_or new c None)

-- the seats from a number on are as they were
abbrev pub SameFrom : ℕ → Seats → Seats → Type 0
SameFrom n old new = (c : ℕ) → n ≤ c → get_or new c None ≡ get_or old c None

pub within : (n many : ℕ) → n < 16 → many ≡ 16 → n < many
within n many less size = omega (arith, less, size)

pub none_noted : (report : Report) (seats : Seats) → NotedBelow 0 report seats seats
none_noted report seats c less = absurd (omega (arith, less))

pub all_same : (seats : Seats) → SameFrom 0 seats seats
all_same seats c above = refl

as_noted : (b t : Bool) (old new : Option Seated) → t ≡ b → IsNoted t old new → IsNoted b old new
as_noted b t old new is noted = subst (λ (x : Bool). IsNoted x old new) is noted

-- one more seat is noted
pub noted_more : (n : ℕ) (report : Report) (any : Bool) (old seats : Seats) (other slot : Option Seated)
    → n < length seats → n < length report.sockets → NotedBelow n report old seats
    → SameFrom n old seats → IsNoted (get_or report.sockets n any) (get_or seats n other) slot
    → NotedBelow (n + 1) report old (slice_set seats n slot)
noted_more n report any old seats other slot within fits below same noted c less =
    more (cases_order c n)
  where
    this : IsNoted (get_or report.sockets n false) (get_or old n None) slot
    this =
        as_noted (get_or report.sockets n false) (get_or report.sockets n any) (get_or old n None) slot (get_or_default report.sockets n any false fits)
        (subst (λ (o : Option Seated). IsNoted (get_or report.sockets n any) o slot) (get_or_default seats n other None within ∙ same n (omega arith)) noted)

    here : IsNoted (get_or report.sockets n false) (get_or old n None) (get_or (slice_set seats n slot) n None)
    here =
        subst (λ (o : Option Seated). IsNoted (get_or report.sockets n false) (get_or old n None) o) (sym (get_or-set_same seats n slot None within)) this

    more : (c ≡ n) ⊎ ((c < n) ⊎ (n < c)) → IsNoted (get_or report.sockets c false) (get_or old c None) (get_or (slice_set seats n slot) c None)
    more (inl is) = subst (λ (d : ℕ). IsNoted (get_or report.sockets d false) (get_or old d None) (get_or (slice_set seats n slot) d None)) (sym is) here
    more (inr (inl before)) =
        subst (λ (o : Option Seated). IsNoted (get_or report.sockets c false) (get_or old c None) o)
        (sym (get_or-set_other seats n c slot None (λ e. omega (arith, e, before)))) (below c before)
    more (inr (inr above)) = absurd (omega (arith, less, above))

pub same_after : (n : ℕ) (old seats : Seats) (slot : Option Seated) → SameFrom n old seats
    → SameFrom (n + 1) old (slice_set seats n slot)
same_after n old seats slot same c above =
    get_or-set_other seats n c slot None (λ e. omega (arith, e, above)) ∙ same c (omega (arith, above))

noted_by : (report : Report) (old new : Seats) (c n : ℕ) → length report.sockets ≡ n
    → NotedBelow n report old new → SameFrom n old new → (c < n) ⊎ (n ≤ c)
    → IsNoted (get_or report.sockets c false) (get_or old c None) (get_or new c None)
noted_by report old new c n size below same (inl less) = below c less
noted_by report old new c n size below same (inr above) =
    as_noted (get_or report.sockets c false) false (get_or old c None) (get_or new c None)
    (sym (get_or_past report.sockets c false (omega (arith, size, above)))) (same c above)

-- all seats are noted
pub all_noted : (report : Report) (old new : Seats) (n : ℕ) → length report.sockets ≡ n
    → NotedBelow n report old new → SameFrom n old new → AreNoted report old new
all_noted report old new n size below same c =
    noted_by report old new c n size below same (cases_lt c n)
