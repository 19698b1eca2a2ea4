-- Bytes begin with at most one request.
use Rattle.std.proofs.Common.{◌+◌, ◌≡◌, inl, inr, ℕ, zero, suc, ◌≤◌, ◌<◌, List, [], ◌∷◌, ◌++◌, length, take, drop, refl, sym, ap, ◌∙◌, arith, Bool, true, false, append_assoc, length-append, length-take, Option, Some, None}
use Rattle.std.specs.Prelude.{nat_eq}
use Rattle.std.specs.List.{ends_with}
use Rattle.std.proofs.lemmas.List.{take-append-le, take_all, append-nil, take-append-drop}
use Rattle.std.proofs.Math.Seq.{take-append_seam, drop-append_seam}
use Rattle.std.proofs.lemmas.Bool.Decides.{leb_tells}
use Rattle.httparse.specs.Grammar.{RequestHead}
use Rattle.httparse.proofs.GrammarLemmas.{request_unique}
use Rattle.gql_wire.specs.Head.{HasOutcome, Outcome, refuse, expects, unread, read, outcome_of, parts_of}
use Rattle.gql_wire.proofs.Streams.{head_full}
use Rattle.gql_wire.specs.Held.{IsHeld}
use Rattle.gql_wire.specs.Stream.{IsUnfinished, Req, request, IsRequest, behind_blank, long, stops, whole, IsHead, IsOpen, begins_blank, head_end, head_limit}
use Rattle.gql_wire.specs.declared.head.HeadRefusal.{HeadRefusal}
use Rattle.gql_wire.specs.declared.stream.Pending.{Pending}

pub outcome_unique : {limit : ℕ} → {head : List ℕ} {s t : Outcome} → HasOutcome limit head s → HasOutcome limit head t → s ≡ t
outcome_unique (unread n) (unread m) = refl
outcome_unique (unread n) (read {h = h} r) = absurd (n h r.reads r.few)
outcome_unique (read {h = h} r) (unread n) = absurd (n h r.reads r.few)
outcome_unique {limit} (read {head} {h = h} r) (read {h = k} q) = ap (λ (g : RequestHead). outcome_of limit (parts_of g)) (request_unique head h k [] [] r.reads q.reads).0

prefix_of : (a b x y : List ℕ) → a ++ x ≡ b ++ y → length a ≤ length b → take (length a) b ≡ a
prefix_of a b x y e h = sym (take-append-le (length a) b y h) ∙ ap (λ (s : List ℕ). take (length a) s) (sym e) ∙ take-append_seam a x

pub same_front : (a b x y : List ℕ) → a ++ x ≡ b ++ y → length a ≡ length b → a ≡ b
same_front a b x y e h = sym (prefix_of a b x y e (omega arith)) ∙ take_all (length a) b (omega arith)

-- what ends here is no shorter front of what doesn't end before
not_before : (a b x y : List ℕ) → ends_with nat_eq a head_end ≡ true → ((k : ℕ) → k < length b → ends_with nat_eq (take k b) head_end ≡ false) → a ++ x ≡ b ++ y → length b ≤ length a
not_before a b x y ended unended e = elim (leb_tells (length b) (length a)) [
  | inl (w, h) ↦ h
  | inr (w, h) ↦ let f = rw (prefix_of a b x y e (omega arith)) at (unended (length a) h) in absurd (let bad : true ≡ false = sym ended ∙ f in cc)
]

pub one_head : (a b x y : List ℕ) → IsHead a → IsHead b → a ++ x ≡ b ++ y → a ≡ b
one_head a b x y h k e =
    let p = not_before a b x y h.ended k.before e in
    let q = not_before b a y x k.ended h.before (sym e) in
    same_front a b x y e (omega arith)

-- a head that is too long holds no head
not_long : (a b x y : List ℕ) → IsOpen a → length a ≡ head_limit → IsHead b → a ++ x ≡ b ++ y → ⊥
not_long a b x y o n h e =
    let less : length b ≤ length a = omega (arith, h.short) in
    let f = rw (prefix_of b a y x (sym e) less) at (o.unended (length b) less) in
    let bad : true ≡ false = sym h.ended ∙ f in absurd (let r : zero ≡ suc zero = cc in omega arith)

begun_of : (a x : List ℕ) → 2 ≤ length a → begins_blank a ≡ begins_blank (a ++ x)
begun_of [] x h = absurd (omega arith)
begun_of (a ∷ []) x h = absurd (omega arith)
begun_of (a ∷ b ∷ bs) x h = refl

-- bytes that begin with no empty line do not follow one
pub not_blank : (a b x y : List ℕ) → begins_blank a ≡ false → 2 ≤ length a → a ++ x ≡ (13 ∷ 10 ∷ b) ++ y → ⊥
not_blank a b x y f h e = let bad : false ≡ true = sym f ∙ begun_of a x h ∙ ap begins_blank e in absurd (let r : zero ≡ suc zero = cc in omega arith)

-- two whole requests with one head
whole_same : (h b c x y m n t u : List ℕ) (v w : Bool) → b ++ x ≡ c ++ y → expects m t (length b) v ≡ expects n u (length c) w
    → (h ++ b ≡ h ++ c) × (request m t b v ≡ request n u c w)
whole_same h b c x y m n t u v w e f =
    let len : length b ≡ length c = cc in
    let same : b ≡ c = same_front b c x y e len in
    let method : m ≡ n = cc in let target : t ≡ u = cc in let closing : v ≡ w = cc in
    (ap (λ (z : List ℕ). h ++ z) same, cc)

pub cut_left : (h b c : List ℕ) → h ++ b ≡ h ++ c → b ≡ c
cut_left h b c e = sym (drop-append_seam h b) ∙ ap (λ (z : List ℕ). drop (length h) z) e ∙ drop-append_seam h c

refused_whole : {limit : ℕ} → (h k b x y : List ℕ) (f : HeadRefusal) (fb : Bool) (m t : List ℕ) (v : Bool) → IsHead h → IsHead k → HasOutcome limit h (refuse f fb) → HasOutcome limit k (expects m t (length b) v)
    → h ++ x ≡ (k ++ b) ++ y → ⊥
refused_whole h k b x y f fb m t v ih ik s w e =
    let same : h ≡ k = one_head h k x (b ++ y) ih ik (e ∙ append_assoc k b y) in
    let clash : refuse f fb ≡ expects m t (length b) v = outcome_unique (rw same at s) w in absurd (let r : zero ≡ suc zero = cc in omega arith)

pub one_reading_lem : {limit : ℕ} → (a b x y : List ℕ) (r q : Req) → IsRequest limit a r → IsRequest limit b q → a ++ x ≡ b ++ y → (a ≡ b) × (r ≡ q)
one_reading_lem _ _ x y r q (behind_blank {bytes = a} g) (behind_blank {bytes = b} h) e =
    let rest = one_reading_lem a b x y r q g h (ap (λ (z : List ℕ). drop 2 z) e) in (ap (λ (z : List ℕ). 13 ∷ 10 ∷ z) rest.0, rest.1)
one_reading_lem _ b x y r q (behind_blank {bytes = a} g) (long o n) e = absurd (not_blank b a y x o.begun (omega arith) (sym e))
one_reading_lem _ b x y r q (behind_blank {bytes = a} g) (stops h s) e = absurd (not_blank b a y x h.begun (omega (arith, head_full b h)) (sym e))
one_reading_lem _ _ x y r q (behind_blank {bytes = a} g) (whole {head} {body} h s) e = absurd (not_blank head a (body ++ y) x h.begun (omega (arith, head_full head h)) (sym (append_assoc head body y) ∙ sym e))
one_reading_lem a _ x y r q (long o n) (behind_blank {bytes = b} g) e = absurd (not_blank a b x y o.begun (omega arith) e)
one_reading_lem a _ x y r q (stops h s) (behind_blank {bytes = b} g) e = absurd (not_blank a b x y h.begun (omega (arith, head_full a h)) e)
one_reading_lem _ _ x y r q (whole {head} {body} h s) (behind_blank {bytes = b} g) e = absurd (not_blank head b (body ++ x) y h.begun (omega (arith, head_full head h)) (sym (append_assoc head body x) ∙ e))
one_reading_lem a b x y r q (long o n) (long p m) e = (same_front a b x y e (omega arith), refl)
one_reading_lem a b x y r q (long o n) (stops h s) e = absurd (not_long a b x y o n h e)
one_reading_lem a b x y r q (stops h s) (long o n) e = absurd (not_long b a y x o n h (sym e))
one_reading_lem a _ x y r q (long o n) (whole {head} {body} h s) e = absurd (not_long a head x (body ++ y) o n h (e ∙ append_assoc head body y))
one_reading_lem _ b x y r q (whole {head} {body} h s) (long o n) e = absurd (not_long b head y (body ++ x) o n h (sym e ∙ append_assoc head body x))
one_reading_lem a b x y r q (stops {refusal = f} {bodiless = fb} h s) (stops {refusal = g} {bodiless = gb} k t) e =
    let same : a ≡ b = one_head a b x y h k e in
    let outcome : refuse f fb ≡ refuse g gb = outcome_unique (rw same at s) t in
    (same, cc)
one_reading_lem a _ x y r q (stops {refusal = f} {bodiless = fb} h s) (whole {head} {body} {method} {target} {closing} k t) e = absurd (refused_whole a head body x y f fb method target closing h k s t e)
one_reading_lem _ b x y r q (whole {head} {body} {method} {target} {closing} k t) (stops {refusal = f} {bodiless = fb} h s) e = absurd (refused_whole b head body y x f fb method target closing h k s t (sym e))
one_reading_lem _ _ x y r q (whole {head = h} {body = b} {method = m} {target = t} {closing = v} ih s) (whole {head = k} {body = c} {method = n} {target = u} {closing = w} ik z) e =
    let apart : h ++ (b ++ x) ≡ k ++ (c ++ y) = sym (append_assoc h b x) ∙ e ∙ append_assoc k c y in
    let same : h ≡ k = one_head h k (b ++ x) (c ++ y) ih ik apart in
    let bodies : b ++ x ≡ c ++ y = cut_left h (b ++ x) (c ++ y) (apart ∙ ap (λ (f : List ℕ). f ++ (c ++ y)) (sym same)) in
    let both = whole_same h b c x y m n t u v w bodies (outcome_unique s (rw (← same) at z)) in
    (both.0 ∙ ap (λ (f : List ℕ). f ++ c) same, both.1)

-- in an open head there is no head
open_head : (bytes head more : List ℕ) → IsOpen bytes → IsHead head → head ++ more ≡ bytes → ⊥
open_head bytes head more o h e =
    let less : length head ≤ length bytes = omega (arith, ap length e, length-append head more) in
    let front : take (length head) bytes ≡ head = ap (λ (s : List ℕ). take (length head) s) (sym e) ∙ take-append_seam head more in
    let f = rw front at (o.unended (length head) less) in
    let bad : true ≡ false = sym h.ended ∙ f in absurd (let r : zero ≡ suc zero = cc in omega arith)

-- no front of what is held is a request
pub open_unfinished : {limit : ℕ} → (bytes front more : List ℕ) (r : Req) → IsOpen bytes → length bytes < head_limit → IsRequest limit front r → front ++ more ≡ bytes → ⊥
open_unfinished bytes _ more r o less (behind_blank {bytes = a} g) e =
    not_blank bytes a [] more o.begun (omega (arith, ap length e, length-append (13 ∷ 10 ∷ a) more)) (append-nil bytes ∙ sym e)
open_unfinished bytes front more r o less (long p n) e = absurd (omega (arith, ap length e, length-append front more))
open_unfinished bytes front more r o less (stops h s) e = open_head bytes front more o h e
open_unfinished bytes _ more r o less (whole {head = h} {body = b} ih s) e = open_head bytes h (b ++ more) o ih (sym (append_assoc h b more) ∙ e)

-- nor of a head with a part of its body
pub body_unfinished : {limit : ℕ} → (bytes front more : List ℕ) (r : Req) (k n : ℕ) (method target : List ℕ) (closing : Bool) → k ≤ length bytes → IsHead (take k bytes)
    → HasOutcome limit (take k bytes) (expects method target n closing) → length bytes < k + n → IsRequest limit front r → front ++ more ≡ bytes → ⊥
body_unfinished bytes _ more r k n m t c within head outcome_is less (behind_blank {bytes = a} g) e =
    not_blank (take k bytes) a (drop k bytes) more head.begun (omega (arith, head_full (take k bytes) head)) (take-append-drop k bytes ∙ sym e)
body_unfinished bytes front more r k n m t c within head outcome_is less (long q l) e = not_long front (take k bytes) more (drop k bytes) q l head (e ∙ sym (take-append-drop k bytes))
body_unfinished bytes front more r k n m t c within head outcome_is less (stops h s) e =
    let same : front ≡ take k bytes = one_head front (take k bytes) more (drop k bytes) h head (e ∙ sym (take-append-drop k bytes)) in
    let clash = outcome_unique (rw same at s) outcome_is in absurd (let r : zero ≡ suc zero = cc in omega arith)
body_unfinished bytes _ more r k n m t c within head outcome_is less (whole {head = h} {body = b} ih s) e =
    let same : h ≡ take k bytes = one_head h (take k bytes) (b ++ more) (drop k bytes) ih head (sym (append_assoc h b more) ∙ e ∙ sym (take-append-drop k bytes)) in
    let outcome = outcome_unique (rw same at s) outcome_is in
    let len : length b ≡ n = cc in
    absurd (omega (arith, len, less, within, ap length e, ap length same, length-append (h ++ b) more, length-append h b, length-take k bytes))

pub held_unfinished : {limit : ℕ} → (bytes : List ℕ) (p : Option Pending) → IsHeld limit bytes p → IsUnfinished limit bytes
held_unfinished bytes None h front more r g e = open_unfinished bytes front more r h.0 h.1 g e
held_unfinished bytes (Some p) h front more r g e = body_unfinished bytes front more r p.head p.length _ _ p.closing h.within h.head h.outcome_is h.unfilled g e

-- the empty list of bytes is unfinished
pub nothing_unfinished : {limit : ℕ} → IsUnfinished limit []
nothing_unfinished _ more r (behind_blank {bytes = a} g) e = absurd (omega (arith, ap length e, length-append (13 ∷ 10 ∷ a) more))
nothing_unfinished front more r (long p n) e = absurd (omega (arith, ap length e, length-append front more))
nothing_unfinished front more r (stops h s) e = absurd (omega (arith, head_full front h, ap length e, length-append front more))
nothing_unfinished _ more r (whole {head = h} {body = b} ih s) e = absurd (omega (arith, head_full h ih, ap length e, length-append (h ++ b) more, length-append h b))
