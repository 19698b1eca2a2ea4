-- A push and the edits of others: no edit of the push is made after one of somebody else.
use Rattle.std.proofs.Common.{ℕ, ◌≡◌, ◌+◌, ◌<◌, ◌∙◌, ◌⊎◌, inl, inr, List, [], ◌∷◌, ◌++◌, ◌&&◌, Bool, true, false, cond, Option, Some, None, refl, sym, ap, length, arith}
use Rattle.std.specs.Prelude.{◌==◌, is_some, nat_lt, not, option_map, slice_get, unwrap_or}
use Rattle.std.specs.Option.{option_map_or}
use Rattle.std.proofs.lemmas.Bool.{eqb-true}
use Rattle.gql_push.proofs.Among.{In, in_Contains}
use Rattle.gql_push.specs.Laws.{AllOrNone, NobodyBetween, StopsForGood, StopsAtRefusal, goes_on_after}
use Rattle.gql_push.specs.Meanwhile.{Event, others, own, own_together, makes, Happens, no_more, by_others, by_push, by_push_together, Replies, accepted, stale, refused, RepliesToAll, all_accepted, all_stale, all_refused}
use Rattle.gql_push.specs.Plans.{Change}
use Rattle.gql_push.specs.Sending.{Sending, start, next, further, stopped, noted, replied, is_made, is_gone_already, together, may_send_all, noted_together, replied_together, are_accepted, goes_on}
use Rattle.gql_push.specs.declared.body.Reply.{Reply}
use Rattle.gql_push.specs.declared.body.Reply.TheVariants as reply
use Rattle.gql_push.specs.declared.progress.Progress.{Progress}
use Rattle.gql_push.specs.declared.progress.Stop.{Stop}
use Rattle.gql_push.specs.declared.progress.Stop.TheVariants as stop

-- a change that is sent
abbrev at : ℕ → Change → Sending
at revision c = record { change = c; revision = revision }

-- what is sent by these parts of a push
abbrev next_in : ℕ → Bool → Option Change → Option Sending
next_in revision b c = cond b None (option_map (at revision) c)

expects_by : (revision : ℕ) (b : Bool) (c : Option Change) (s : Sending) → next_in revision b c ≡ Some s → s.revision ≡ revision
expects_by revision true c s is = cc
expects_by revision false None s is = cc
expects_by revision false (Some c) s is = sym (ap (λ (o : Option Sending). unwrap_or (option_map (λ (x : Sending). x.revision) o) 0) is)

-- what is sent expects the revision of the push
expects : (edits : List Change) (p : Progress) (s : Sending) → next edits p ≡ Some s → s.revision ≡ p.revision
expects edits p s is = expects_by p.revision (is_some p.stop) (slice_get edits p.made) s is

-- the reply is noted
noted_at : (edits : List Change) (p : Progress) (s : Sending) (r : Reply) → next edits p ≡ Some s → noted edits p r ≡ replied p s.change r
noted_at edits p s r is = ap (λ (o : Option Sending). option_map_or (λ (x : Sending). replied p x.change r) o p) is

revision_by : (p : Progress) (b : Bool) (why : Stop) → (cond b (further p p.revision p.faults) (stopped p why)).revision ≡ p.revision
revision_by p true why = refl
revision_by p false why = refl

-- ---- one request for all edits

revision_if : (b : Bool) (revision expected : ℕ) → cond b (Some revision) None ≡ Some expected → expected ≡ revision
revision_if true revision expected is = sym (ap (λ (o : Option ℕ). unwrap_or o 0) is)
revision_if false revision expected is = cc

may_if : (b : Bool) (revision expected : ℕ) → cond b (Some revision) None ≡ Some expected → b ≡ true
may_if true revision expected is = refl
may_if false revision expected is = cc

-- it expects the revision of the push
expects_all : (edits : List Change) (p : Progress) (expected : ℕ) → together edits p ≡ Some expected → expected ≡ p.revision
expects_all edits p expected is = revision_if (may_send_all edits p) p.revision expected is

-- its reply is noted
noted_all : (edits : List Change) (p : Progress) (expected : ℕ) (r : Reply) → together edits p ≡ Some expected → noted_together edits p r ≡ replied_together edits p r
noted_all edits p expected r is = ap (λ b. cond b (replied_together edits p r) p) (may_if (may_send_all edits p) p.revision expected is)

-- a refusal leaves the revision of the push, and how many edits are made
left_revision : (p : Progress) (b : Bool) (why : Stop) → (cond b p (stopped p why)).revision ≡ p.revision
left_revision p true why = refl
left_revision p false why = refl

left_made : (p : Progress) (b : Bool) (why : Stop) → (cond b p (stopped p why)).made ≡ p.made
left_made p true why = refl
left_made p false why = refl

-- what a registry replies to one for all that expects a revision that is gone: all edits are not made, and the push stays at its revision
record IsLeft (edits : List Change) (present : ℕ) (r : Reply) (after : ℕ) : Type 0 where
  refuses : are_accepted r ≡ false
  stays : after ≡ present
  leaves : (p : Progress) → (replied_together edits p r).revision ≡ p.revision

left_reply : (edits : List Change) (present expected after : ℕ) (r : Reply) → expected < present → RepliesToAll present expected r after → IsLeft edits present r after
left_reply edits present expected after r gone (all_accepted is) = absurd (omega arith)
left_reply edits present expected after r gone (all_stale differs) = record { refuses = refl; stays = refl; leaves = λ p. refl }
left_reply edits present expected after r gone (all_refused {number = number} {message = message} {file = file}) =
    record { refuses = refl; stays = refl; leaves = λ p. left_revision p (goes_on number) (stop.Refused number message file) }

-- a push that knows the present revision knows the one after a reply
known_by_all : (edits : List Change) (present expected after : ℕ) (p : Progress) (r : Reply) → p.revision ≡ present → expected ≡ present → RepliesToAll present expected r after → (replied_together edits p r).revision ≡ after
known_by_all edits present expected after p r knows is (all_accepted same) = refl
known_by_all edits present expected after p r knows is (all_stale differs) = absurd (differs is)
known_by_all edits present expected after p r knows is (all_refused {number = number} {message = message} {file = file}) =
    left_revision p (goes_on number) (stop.Refused number message file) ∙ knows

-- ---- one after the other

-- some edit of the push is made among these
abbrev HasMade : List Event → Type 0
HasMade [] = ⊥
HasMade (e ∷ events) = (makes e ≡ true) ⊎ HasMade events

-- what a registry replies to an edit that expects a revision that is gone
abbrev IsStale : ℕ → Reply → ℕ → Type 0
IsStale present r after = (r ≡ reply.Stale present) × (after ≡ present)

stale_reply : (present expected after : ℕ) (r : Reply) → expected < present → Replies present expected r after → IsStale present r after
stale_reply present expected after r gone (accepted is) = absurd (omega arith)
stale_reply present expected after r gone (stale differs) = (refl, refl)
stale_reply present expected after r gone (refused is) = absurd (omega arith)

not_made : (c : Change) (r : Reply) (present : ℕ) → r ≡ reply.Stale present → is_made c r ≡ true → ⊥
not_made c r present is made = let e : false ≡ true = sym (ap (is_made c) is) ∙ made in cc

-- once the registry has gone on without it, no edit of the push is made
none_made : (edits : List Change) (present : ℕ) (p : Progress) (events : List Event) → p.revision < present → Happens edits present p events → HasMade events → ⊥
none_made edits present p [] gone no_more h = h
none_made edits present p (others ∷ events) gone (by_others then) h =
    elim h [
      | inl made ↦ cc
      | inr later ↦ none_made edits (present + 1) p events (omega arith) then later
    ]
none_made edits present p (own s r ∷ events) gone (by_push {after = after} is reply' then) h =
    let behind : s.revision < present = let e : s.revision ≡ p.revision = expects edits p s is in omega arith in
    let answer : IsStale present r after = stale_reply present s.revision after r behind reply' in
    elim h [
      | inl made ↦ not_made s.change r present answer.0 made
      | inr made ↦
          let note : noted edits p r ≡ replied p s.change r = noted_at edits p s r is in
          let stays : (noted edits p r).revision ≡ p.revision = ap (λ (q : Progress). q.revision) note ∙ ap (λ x. (replied p s.change x).revision) answer.0 in
          let still : (noted edits p r).revision < after = let e : after ≡ present = answer.1 in omega arith in
          none_made edits after (noted edits p r) events still then made
    ]
none_made edits present p (own_together n r ∷ events) gone (by_push_together {after = after} is reply' then) h =
    let behind : n < present = let e : n ≡ p.revision = expects_all edits p n is in omega arith in
    let answer : IsLeft edits present r after = left_reply edits present n after r behind reply' in
    elim h [
      | inl made ↦ let e : false ≡ true = sym answer.refuses ∙ made in cc
      | inr made ↦
          let stays : (noted_together edits p r).revision ≡ p.revision = ap (λ (q : Progress). q.revision) (noted_all edits p n r is) ∙ answer.leaves p in
          let still : (noted_together edits p r).revision < after = let e : after ≡ present = answer.stays in omega arith in
          none_made edits after (noted_together edits p r) events still then made
    ]

made_later : (before rest : List Event) (e : Event) → makes e ≡ true → HasMade (before ++ e ∷ rest)
made_later [] rest e made = inl made
made_later (x ∷ before) rest e made = inr (made_later before rest e made)

-- a push that knows the present revision knows the one after a reply
known_by : (present expected after : ℕ) (p : Progress) (c : Change) (r : Reply) → p.revision ≡ present → expected ≡ present → Replies present expected r after → (replied p c r).revision ≡ after
known_by present expected after p c r knows is (accepted same) = refl
known_by present expected after p c r knows is (stale differs) = absurd (differs is)
known_by present expected after p c r knows is (refused {number = number} {message = message} {file = file} same) = revision_by p (is_gone_already c number) (stop.Refused number message file) ∙ knows

none_between : (edits : List Change) (present : ℕ) (p : Progress) (before rest : List Event) (e : Event) → p.revision ≡ present
    → Happens edits present p (before ++ e ∷ rest) → makes e ≡ true → In others before → ⊥
none_between edits present p [] rest e knows happens made among = among
none_between edits present p (others ∷ before) rest e knows (by_others then) made among =
    none_made edits (present + 1) p (before ++ e ∷ rest) (omega arith) then (made_later before rest e made)
none_between edits present p (own t q ∷ before) rest e knows (by_push {after = after} is reply' then) made among =
    let same : t.revision ≡ present = expects edits p t is ∙ knows in
    let note : noted edits p q ≡ replied p t.change q = noted_at edits p t q is in
    let still : (noted edits p q).revision ≡ after = ap (λ (x : Progress). x.revision) note ∙ known_by present t.revision after p t.change q knows same reply' in
    elim among [
      | inl is_other ↦ cc
      | inr among' ↦ none_between edits after (noted edits p q) before rest e still then made among'
    ]
none_between edits present p (own_together n q ∷ before) rest e knows (by_push_together {after = after} is reply' then) made among =
    let same : n ≡ present = expects_all edits p n is ∙ knows in
    let still : (noted_together edits p q).revision ≡ after = ap (λ (x : Progress). x.revision) (noted_all edits p n q is) ∙ known_by_all edits present n after p q knows same reply' in
    elim among [
      | inl is_other ↦ cc
      | inr among' ↦ none_between edits after (noted_together edits p q) before rest e still then made among'
    ]

pub nobody_between : NobodyBetween
nobody_between edits revision faults before rest e happens made among =
    none_between edits revision (start revision faults) before rest e refl happens made (in_Contains before others among)

nothing_next : (edits : List Change) (p : Progress) → is_some p.stop ≡ true → next edits p ≡ None
nothing_next edits p has = ap (λ b. next_in p.revision b (slice_get edits p.made)) has

nothing_for_all : (edits : List Change) (p : Progress) → is_some p.stop ≡ true → may_send_all edits p ≡ false
nothing_for_all edits p has = ap (λ b. not b && (p.made == 0) && nat_lt 1 (length edits)) has

pub stops_for_good : StopsForGood
stops_for_good edits p r has =
    let none : next edits p ≡ None = nothing_next edits p has in
    let not_all : may_send_all edits p ≡ false = nothing_for_all edits p has in (
      none,
      ap (λ (o : Option Sending). option_map_or (λ (x : Sending). replied p x.change r) o p) none,
      ap (λ b. cond b (Some p.revision) None) not_all,
      ap (λ b. cond b (replied_together edits p r) p) not_all,
    )

stopped_by : (p : Progress) (b : Bool) (why : Stop) → b ≡ false → is_some (cond b (further p p.revision p.faults) (stopped p why)).stop ≡ true
stopped_by p true why fails = cc
stopped_by p false why fails = refl

stops : (p : Progress) (c : Change) (r : Reply) → is_made c r ≡ false → is_some (replied p c r).stop ≡ true
stops p c (reply.Done revision faults) fails = cc
stops p c (reply.Stale revision) fails = refl
stops p c (reply.Refused number message file) fails = stopped_by p (is_gone_already c number) (stop.Refused number message file) fails
stops p c reply.Strange fails = refl

pub stops_at_refusal : StopsAtRefusal
stops_at_refusal edits p s r is fails =
    nothing_next edits (noted edits p r) (ap (λ (q : Progress). is_some q.stop) (noted_at edits p s r is) ∙ stops p s.change r fails)

-- ---- all edits or none

none_past : (edits : List Change) → slice_get edits (length edits) ≡ None
none_past [] = refl
none_past (c ∷ edits) = none_past edits

running : (b c d : Bool) → not b && c && d ≡ true → b ≡ false
running true c d is = cc
running false c d is = refl

-- one request for all is sent where none is made, and the push has not stopped
none_yet : (a b c : Bool) → a && b && c ≡ true → b ≡ true
none_yet true true c is = refl
none_yet true false c is = cc
none_yet false true c is = refl
none_yet false false c is = cc

record IsAtStart (p : Progress) : Type 0 where
  goes : is_some p.stop ≡ false
  none : p.made ≡ 0

at_start : (edits : List Change) (p : Progress) (expected : ℕ) → together edits p ≡ Some expected → IsAtStart p
at_start edits p expected is =
    let may : may_send_all edits p ≡ true = may_if (may_send_all edits p) p.revision expected is in
    record {
      goes = running (is_some p.stop) (p.made == 0) (nat_lt 1 (length edits)) may;
      none = eqb-true p.made 0 (none_yet (not (is_some p.stop)) (p.made == 0) (nat_lt 1 (length edits)) may);
    }

-- all edits are made
all_made : (edits : List Change) (p : Progress) (r : Reply) → are_accepted r ≡ true → (replied_together edits p r).made ≡ length edits
all_made edits p (reply.Done revision faults) is = refl
all_made edits p (reply.Stale revision) is = cc
all_made edits p (reply.Refused number message file) is = cc
all_made edits p reply.Strange is = cc

still_goes : (edits : List Change) (p : Progress) (r : Reply) → are_accepted r ≡ true → (replied_together edits p r).stop ≡ p.stop
still_goes edits p (reply.Done revision faults) is = refl
still_goes edits p (reply.Stale revision) is = cc
still_goes edits p (reply.Refused number message file) is = cc
still_goes edits p reply.Strange is = cc

-- nothing is left to send
none_left : (edits : List Change) (q : Progress) → is_some q.stop ≡ false → q.made ≡ length edits → next edits q ≡ None
none_left edits q goes all =
    ap (λ b. next_in q.revision b (slice_get edits q.made)) goes
    ∙ ap (λ (o : Option Change). option_map (at q.revision) o) (ap (slice_get edits) all ∙ none_past edits)

-- no edit is made
none_made_of : (edits : List Change) (p : Progress) (r : Reply) → are_accepted r ≡ false → (replied_together edits p r).made ≡ p.made
none_made_of edits p (reply.Done revision faults) is = cc
none_made_of edits p (reply.Stale revision) is = refl
none_made_of edits p (reply.Refused number message file) is = left_made p (goes_on number) (stop.Refused number message file)
none_made_of edits p reply.Strange is = refl

-- the push goes on as before
as_before : (edits : List Change) (p : Progress) (r : Reply) → goes_on_after r ≡ true → replied_together edits p r ≡ p
as_before edits p (reply.Done revision faults) is = cc
as_before edits p (reply.Stale revision) is = cc
as_before edits p (reply.Refused number message file) is = ap (λ b. cond b p (stopped p (stop.Refused number message file))) is
as_before edits p reply.Strange is = cc

-- or it stops
stops_all : (edits : List Change) (p : Progress) (r : Reply) → are_accepted r ≡ false → goes_on_after r ≡ false → is_some (replied_together edits p r).stop ≡ true
stops_all edits p (reply.Done revision faults) fails is = cc
stops_all edits p (reply.Stale revision) fails is = refl
stops_all edits p (reply.Refused number message file) fails is = ap (λ b. is_some (cond b p (stopped p (stop.Refused number message file))).stop) is
stops_all edits p reply.Strange fails is = refl

pub all_or_none : AllOrNone
all_or_none edits p expected r is =
    let note : noted_together edits p r ≡ replied_together edits p r = noted_all edits p expected r is in
    let start : IsAtStart p = at_start edits p expected is in
    let made_by : (noted_together edits p r).made ≡ (replied_together edits p r).made = ap (λ (q : Progress). q.made) note in
    let stop_by : (noted_together edits p r).stop ≡ (replied_together edits p r).stop = ap (λ (q : Progress). q.stop) note in (
      λ accepts.
          let all : (noted_together edits p r).made ≡ length edits = made_by ∙ all_made edits p r accepts in
          let goes : is_some (noted_together edits p r).stop ≡ false = ap is_some (stop_by ∙ still_goes edits p r accepts) ∙ start.goes in
          (all, none_left edits (noted_together edits p r) goes all),
      λ fails. made_by ∙ none_made_of edits p r fails ∙ start.none,
      λ goes. note ∙ as_before edits p r goes,
      λ fails ends. nothing_next edits (noted_together edits p r) (ap is_some stop_by ∙ stops_all edits p r fails ends),
    )
