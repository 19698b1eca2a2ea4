-- The words `serve --port P --connections N`, and those with `--at-once K` after them, with numbers in
-- decimal digits: they have no fault, and give these numbers.
use Rattle.std.proofs.Common.{◌≡◌, ◌∙◌, ◌==◌, ◌<◌, ◌≤◌, ◌^◌, ℕ, Bool, true, false, cond, List, [], ◌∷◌, Some, None, inl, inr, refl, sym, ap, subst, arith, codes, drop}
use Rattle.std.specs.Prelude.{decimal, fold, if◌then◌else◌, pos}
use Rattle.std.specs.Str.{bytes_eq}
use Rattle.std.specs.Str.Parse.{IsNumeral, digits_value, starts_with_minus, without_leading_plus}
use Rattle.std.proofs.lemmas.Bool.{ne_eqb}
use Rattle.std.proofs.lemmas.Fmt.{decimal_is_IsNumeral}
use Rattle.std.proofs.lemmas.Int.{ints}
use Rattle.std.proofs.lemmas.Str.Parse.{digit_from_value}
use Rattle.clap.specs.Lexer.{long_of, short_of, without_minus}
use Rattle.clap.specs.Kinds.{Kinds, or_else, value_kinds}
use Rattle.clap.specs.Values.{IsSignedIn}
use Rattle.clap.specs.ValueTests.{accepts}
use Rattle.clap.specs.Faults.{check_fault, defaults_fault, settle_fault, walk_fault}
use Rattle.clap.specs.Walk.{Held, Row, Text, Walk, finished, idle, nothing_held, one_of, rows_after, settled, walk_from, walked}
use Rattle.clap.specs.declared.builder.value_parser.ValueParser.TheVariants as parser
use Rattle.clap.specs.declared.error.kind.ErrorKind.TheVariants.{ValueValidation}
use Rattle.clap.proofs.OnLiterals.{clap_on_literals}
use Rattle.clap.proofs.ValueTestLemmas.{Accepts-accepts}
use Rattle.gql_command.specs.CommandLine.{AreServeWords, IsAtOnce, IsConnections, IsPort, serve_at_once_words, serve_words}
use Rattle.gql_command.specs.Grammar.{GivesAtOnce, GivesNumber, GivesNumbers}
use Rattle.gql_command.proofs.LineWords.{enters_serve, line_faults, line_options, serve_options}
use Rattle.gql_command.proofs.ServeOptions.{new_row}
use Rattle.gql_command.proofs.ServeWords.{no_defaults, serve, serve_faults}

-- ---- a numeral is a word that is no flag

-- clap takes the text for a value, and as it is written
abbrev IsValue : Text → Type 0
IsValue t = (long_of t ≡ None) × (short_of t ≡ None) × (bytes_eq t (codes "--") ≡ false) × (without_minus t ≡ t)

is_value : (t : Text) → IsNumeral 10 t → IsValue t
is_value [] h = absurd (omega (arith, h.0))
is_value (d ∷ ds) h =
    let other : (d == 45) ≡ false = ne_eqb _ _ (λ e. omega (arith, digit_from_value d h.1.0)) in
    (rw other refl, rw other refl, rw other refl, rw other refl)

no_minus : (t : Text) → IsNumeral 10 t → starts_with_minus t ≡ false
no_minus [] h = absurd (omega (arith, h.0))
no_minus (d ∷ ds) h = ne_eqb _ _ (λ e. omega (arith, digit_from_value d h.1.0))

no_plus : (t : Text) → IsNumeral 10 t → without_leading_plus t ≡ t
no_plus [] h = absurd (omega (arith, h.0))
no_plus (d ∷ ds) h =
    let plus : (d == 43) ≡ false = ne_eqb _ _ (λ e. omega (arith, digit_from_value d h.1.0)) in
    ap (λ (b : Bool). drop (cond b 1 0) (d ∷ ds)) plus

-- a numeral in the range passes the option's parser
is_signed_in : (most : ℕ) (t : Text) → most < 2 ^ 63 → IsNumeral 10 t → 1 ≤ digits_value 10 t → digits_value 10 t ≤ most → IsSignedIn (pos 1) (pos most) t
is_signed_in most t small h low high =
    rw (no_minus t h, no_plus t h) (h, record { sfits = omega arith }, omega (arith, ints), omega (arith, ints))

pub is_accepted : (most : ℕ) (t : Text) → most < 2 ^ 63 → IsNumeral 10 t → 1 ≤ digits_value 10 t → digits_value 10 t ≤ most
    → accepts false (parser.Signed (pos 1) (pos most)) t ≡ true
is_accepted most t small h low high = Accepts-accepts false (parser.Signed (pos 1) (pos most)) t (is_signed_in most t small h low high)

-- ---- the words

abbrev both : Text → Text → List Text
both p n = codes "--port" ∷ p ∷ codes "--connections" ∷ n ∷ []

abbrev three : Text → Text → Text → List Text
three p n k = codes "--port" ∷ p ∷ codes "--connections" ∷ n ∷ codes "--at-once" ∷ k ∷ []

-- the errors of the values are all that is left of those of the words
abbrev value_errors : ℕ → Text → Kinds
value_errors most t = value_kinds false (parser.Signed (pos 1) (pos most)) t

-- the errors of a value that another option follows, and those after it
abbrev before : Kinds → Kinds → Kinds
before a rest = or_else (or_else (or_else (or_else a []) []) []) rest

-- the errors of the last value
abbrev last : Kinds → Kinds
last a = or_else (or_else a []) []

faults_are : (p n : Text) → IsValue p → IsValue n → serve_faults (both p n) ≡ before (value_errors 65535 p) (last (value_errors 1000000 n))
unfolding clap_on_literals
faults_are p n vp vn = rw (vp.0, vp.1, vp.2, vn.0, vn.1, vn.2) refl

-- the walk over `--port P --connections N`, whatever words follow
abbrev after_two : Text → Text → Walk
after_two p n = record {
  held = record { rows = new_row (codes "port") p ∷ []; pending = Some (codes "connections", n ∷ []); skip = 0 };
  waiting = idle;
  position = 1;
  is_trailing = false;
  stopped = None;
}

abbrev after_three : Text → Text → Text → Walk
after_three p n k = record {
  held = record {
    rows = new_row (codes "port") p ∷ new_row (codes "connections") n ∷ [];
    pending = Some (codes "at-once", k ∷ []);
    skip = 0;
  };
  waiting = idle;
  position = 1;
  is_trailing = false;
  stopped = None;
}

walk_two : (p n : Text) → IsValue p → IsValue n → fold (walked serve.rules []) (walk_from nothing_held) (both p n) ≡ after_two p n
unfolding clap_on_literals
walk_two p n vp vn = rw (vp.0, vp.1, vp.2, vn.0, vn.1, vn.2) refl

walk_at_once : (p n k : Text) → IsValue k → fold (walked serve.rules []) (after_two p n) (codes "--at-once" ∷ k ∷ []) ≡ after_three p n k
unfolding clap_on_literals
walk_at_once p n k vk = rw (vk.0, vk.1, vk.2) refl

-- the errors of the turn that settles a value
abbrev settles : Kinds → Kinds
settles a = or_else (or_else a []) []

faults_two : (p n : Text) (rest : List Text) → IsValue p → IsValue n
    → walk_fault serve [] (walk_from nothing_held) (codes "--port" ∷ p ∷ codes "--connections" ∷ n ∷ rest)
    ≡ or_else (settles (value_errors 65535 p)) (walk_fault serve [] (after_two p n) rest)
unfolding clap_on_literals
faults_two p n rest vp vn = rw (vp.0, vp.1, vp.2, vn.0, vn.1, vn.2) refl

faults_at_once : (p n k : Text) → IsValue k
    → walk_fault serve [] (after_two p n) (codes "--at-once" ∷ k ∷ []) ≡ or_else (settles (value_errors 1000000 n)) []
unfolding clap_on_literals
faults_at_once p n k vk = rw (vk.0, vk.1, vk.2) refl

settle_three : (p n k : Text) → settle_fault serve.rules false (after_three p n k).held ≡ or_else (value_errors 16 k) []
unfolding clap_on_literals
settle_three p n k = refl

check_three : (p n k : Text) → check_fault serve (finished serve.rules (after_three p n k).held) false ≡ []
unfolding clap_on_literals
check_three p n k = refl

none_then : (a b : Kinds) → a ≡ [] → b ≡ [] → before a b ≡ []
none_then a b x y = rw (x, y) refl

none_last : (a : Kinds) → a ≡ [] → last a ≡ []
none_last a x = rw x refl

no_error_if : (b : Bool) (k : Kinds) → b ≡ true → (if b then [] else k) ≡ []
no_error_if true k e = refl
no_error_if false k e = cc

no_errors : (most : ℕ) (t : Text) → accepts false (parser.Signed (pos 1) (pos most)) t ≡ true → value_errors most t ≡ []
no_errors most t a = no_error_if _ (ValueValidation ∷ []) a

no_fault : (p n : Text) → IsValue p → IsValue n → accepts false (parser.Signed (pos 1) (pos 65535)) p ≡ true
    → accepts false (parser.Signed (pos 1) (pos 1000000)) n ≡ true → serve_faults (both p n) ≡ []
no_fault p n vp vn a b = faults_are p n vp vn
    ∙ none_then (value_errors 65535 p) (last (value_errors 1000000 n)) (no_errors 65535 p a) (none_last (value_errors 1000000 n) (no_errors 1000000 n b))

none_settles : (a : Kinds) → a ≡ [] → settles a ≡ []
none_settles a x = rw x refl

none_either : (a b : Kinds) → a ≡ [] → b ≡ [] → or_else a b ≡ []
none_either a b x y = rw (x, y) refl

-- the three words of options have no fault
no_fault_three : (p n k : Text) → IsValue p → IsValue n → IsValue k → accepts false (parser.Signed (pos 1) (pos 65535)) p ≡ true
    → accepts false (parser.Signed (pos 1) (pos 1000000)) n ≡ true → accepts false (parser.Signed (pos 1) (pos 16)) k ≡ true
    → serve_faults (three p n k) ≡ []
no_fault_three p n k vp vn vk a b c =
    let walks : walk_fault serve [] (walk_from nothing_held) (three p n k) ≡ [] =
    faults_two p n (codes "--at-once" ∷ k ∷ []) vp vn
    ∙ none_either (settles (value_errors 65535 p)) (walk_fault serve [] (after_two p n) (codes "--at-once" ∷ k ∷ []))
    (none_settles (value_errors 65535 p) (no_errors 65535 p a))
    (faults_at_once p n k vk ∙ none_either (settles (value_errors 1000000 n)) [] (none_settles (value_errors 1000000 n) (no_errors 1000000 n b)) refl) in
    let end : fold (walked serve.rules []) (walk_from nothing_held) (three p n k) ≡ after_three p n k =
    ap (λ (w : Walk). fold (walked serve.rules []) w (codes "--at-once" ∷ k ∷ [])) (walk_two p n vp vn) ∙ walk_at_once p n k vk in
    let rest : Held → Kinds = λ h. or_else (settle_fault serve.rules false h) (or_else (defaults_fault (settled serve.rules h).rows serve.rules) (check_fault serve (finished serve.rules h) false)) in
    let after : rest (after_three p n k).held ≡ [] =
    none_either (settle_fault serve.rules false (after_three p n k).held) (or_else (defaults_fault (settled serve.rules (after_three p n k).held).rows serve.rules) (check_fault serve (finished serve.rules (after_three p n k).held) false))
    (settle_three p n k ∙ none_either (value_errors 16 k) [] (no_errors 16 k c) refl)
    (none_either (defaults_fault (settled serve.rules (after_three p n k).held).rows serve.rules) (check_fault serve (finished serve.rules (after_three p n k).held) false)
    (no_defaults (settled serve.rules (after_three p n k).held).rows) (check_three p n k)) in
    none_either (walk_fault serve [] (walk_from nothing_held) (three p n k)) (rest (fold (walked serve.rules []) (walk_from nothing_held) (three p n k)).held)
    walks (ap (λ (w : Walk). rest w.held) end ∙ after)

port_is : (p n : Text) → IsValue p → IsValue n → one_of (codes "port") (rows_after serve.rules [] (both p n)) ≡ Some p
unfolding clap_on_literals
port_is p n vp vn = rw (vp.0, vp.1, vp.2, vn.0, vn.1, vn.2, vp.3) refl

connections_is : (p n : Text) → IsValue p → IsValue n → one_of (codes "connections") (rows_after serve.rules [] (both p n)) ≡ Some n
unfolding clap_on_literals
connections_is p n vp vn = rw (vp.0, vp.1, vp.2, vn.0, vn.1, vn.2, vn.3) refl

at_once_is_out : (p n : Text) → IsValue p → IsValue n → one_of (codes "at-once") (rows_after serve.rules [] (both p n)) ≡ None
unfolding clap_on_literals
at_once_is_out p n vp vn = rw (vp.0, vp.1, vp.2, vn.0, vn.1, vn.2) refl

rows_of_three : (p n k : Text) → IsValue p → IsValue n → IsValue k → rows_after serve.rules [] (three p n k)
    ≡ new_row (codes "port") p ∷ new_row (codes "connections") n ∷ new_row (codes "at-once") k ∷ []
unfolding clap_on_literals
rows_of_three p n k vp vn vk = rw (vp.0, vp.1, vp.2, vn.0, vn.1, vn.2, vk.0, vk.1, vk.2) refl

port_of_three : (p n k : Text) → IsValue p → IsValue n → IsValue k → one_of (codes "port") (rows_after serve.rules [] (three p n k)) ≡ Some p
port_of_three p n k vp vn vk = ap (one_of (codes "port")) (rows_of_three p n k vp vn vk) ∙ ap (λ (t : Text). Some t) (vp.3)

connections_of_three : (p n k : Text) → IsValue p → IsValue n → IsValue k → one_of (codes "connections") (rows_after serve.rules [] (three p n k)) ≡ Some n
connections_of_three p n k vp vn vk = ap (one_of (codes "connections")) (rows_of_three p n k vp vn vk) ∙ ap (λ (t : Text). Some t) (vn.3)

at_once_of_three : (p n k : Text) → IsValue p → IsValue n → IsValue k → one_of (codes "at-once") (rows_after serve.rules [] (three p n k)) ≡ Some k
at_once_of_three p n k vp vn vk = ap (one_of (codes "at-once")) (rows_of_three p n k vp vn vk) ∙ ap (λ (t : Text). Some t) (vk.3)

-- ---- the numbers

-- what is known of a number in decimal digits
abbrev IsDecimal : ℕ → Text → Type 0
IsDecimal n t = IsNumeral 10 t × (digits_value 10 t ≡ n)

gives_decimal : (name : Text) (rows : List Row) (n : ℕ) (t : Text) → IsDecimal n t → one_of name rows ≡ Some t → GivesNumber name rows n
gives_decimal name rows n t is found =
    (t, found, subst (IsNumeral 10) (sym (no_plus t is.0)) is.0, sym is.1 ∙ ap (digits_value 10) (sym (no_plus t is.0)))

in_range : (most n : ℕ) (t : Text) → most < 2 ^ 63 → IsDecimal n t → 1 ≤ n → n ≤ most → accepts false (parser.Signed (pos 1) (pos most)) t ≡ true
in_range most n t small is low high = is_accepted most t small is.0 (rw is.1 low) (rw is.1 high)

-- the plain words of `serve` have no fault
pub serve_has_no_fault : (words : List Text) (port connections at_once : ℕ) → AreServeWords port connections at_once words
    → IsPort port → IsConnections connections → IsAtOnce at_once → line_faults words ≡ []
serve_has_no_fault words port connections at_once (inl is) p c k =
    let x : IsDecimal port (decimal port) = decimal_is_IsNumeral port (omega (arith, p.1)) in
    let y : IsDecimal connections (decimal connections) = decimal_is_IsNumeral connections (omega (arith, c.1)) in
    rw is.0 (enters_serve (both (decimal port) (decimal connections)) ∙ no_fault (decimal port) (decimal connections) (is_value _ x.0) (is_value _ y.0)
    (in_range 65535 port _ (omega arith) x p.0 p.1) (in_range 1000000 connections _ (omega arith) y c.0 c.1))
serve_has_no_fault words port connections at_once (inr is) p c k =
    let x : IsDecimal port (decimal port) = decimal_is_IsNumeral port (omega (arith, p.1)) in
    let y : IsDecimal connections (decimal connections) = decimal_is_IsNumeral connections (omega (arith, c.1)) in
    let z : IsDecimal at_once (decimal at_once) = decimal_is_IsNumeral at_once (omega (arith, k.1)) in
    rw is (enters_serve (three (decimal port) (decimal connections) (decimal at_once))
    ∙ no_fault_three (decimal port) (decimal connections) (decimal at_once) (is_value _ x.0) (is_value _ y.0) (is_value _ z.0)
    (in_range 65535 port _ (omega arith) x p.0 p.1) (in_range 1000000 connections _ (omega arith) y c.0 c.1) (in_range 16 at_once _ (omega arith) z k.0 k.1))

-- and give these numbers
pub serve_gives : (words : List Text) (port connections at_once : ℕ) → AreServeWords port connections at_once words
    → IsPort port → IsConnections connections → IsAtOnce at_once → GivesNumbers (line_options words) port connections at_once
serve_gives words port connections at_once (inl is) p c k =
    let x : IsDecimal port (decimal port) = decimal_is_IsNumeral port (omega (arith, p.1)) in
    let y : IsDecimal connections (decimal connections) = decimal_is_IsNumeral connections (omega (arith, c.1)) in
    let ws = both (decimal port) (decimal connections) in
    let rows : line_options words ≡ rows_after serve.rules [] ws = ap line_options is.0 ∙ serve_options ws in
    subst (λ (r : List Row). GivesNumbers r port connections at_once) (sym rows) (
      gives_decimal (codes "port") (rows_after serve.rules [] ws) port _ x (port_is _ _ (is_value _ x.0) (is_value _ y.0)),
      gives_decimal (codes "connections") (rows_after serve.rules [] ws) connections _ y (connections_is _ _ (is_value _ x.0) (is_value _ y.0)),
      inl (at_once_is_out _ _ (is_value _ x.0) (is_value _ y.0), is.1),
      p,
      c,
      k,
    )
serve_gives words port connections at_once (inr is) p c k =
    let x : IsDecimal port (decimal port) = decimal_is_IsNumeral port (omega (arith, p.1)) in
    let y : IsDecimal connections (decimal connections) = decimal_is_IsNumeral connections (omega (arith, c.1)) in
    let z : IsDecimal at_once (decimal at_once) = decimal_is_IsNumeral at_once (omega (arith, k.1)) in
    let vx = is_value _ x.0 in
    let vy = is_value _ y.0 in
    let vz = is_value _ z.0 in
    let ws = three (decimal port) (decimal connections) (decimal at_once) in
    let rows : line_options words ≡ rows_after serve.rules [] ws = ap line_options is ∙ serve_options ws in
    subst (λ (r : List Row). GivesNumbers r port connections at_once) (sym rows) (
      gives_decimal (codes "port") (rows_after serve.rules [] ws) port _ x (port_of_three _ _ _ vx vy vz),
      gives_decimal (codes "connections") (rows_after serve.rules [] ws) connections _ y (connections_of_three _ _ _ vx vy vz),
      inr (gives_decimal (codes "at-once") (rows_after serve.rules [] ws) at_once _ z (at_once_of_three _ _ _ vx vy vz)),
      p,
      c,
      k,
    )

-- no other numbers are given
same_number : (name : Text) (rows : List Row) (m n : ℕ) → GivesNumber name rows m → GivesNumber name rows n → m ≡ n
same_number name rows m n a b =
    let text : Some a.0 ≡ Some b.0 = sym a.1 ∙ b.1 in
    let same : a.0 ≡ b.0 = cc in
    a.3 ∙ (ap (λ (t : Text). digits_value 10 (without_leading_plus t)) same ∙ sym b.3)

none_some : (name : Text) (rows : List Row) (n : ℕ) → one_of name rows ≡ None → GivesNumber name rows n → ⊥
none_some name rows n none number = (let bad : None ≡ Some number.0 = sym none ∙ number.1 in cc)

pub same_port : (rows : List Row) (p q m n j k : ℕ) → GivesNumbers rows p m j → GivesNumbers rows q n k → p ≡ q
same_port rows p q m n j k a b = same_number (codes "port") rows p q a.0 b.0

pub same_connections : (rows : List Row) (p q m n j k : ℕ) → GivesNumbers rows p m j → GivesNumbers rows q n k → m ≡ n
same_connections rows p q m n j k a b = same_number (codes "connections") rows m n a.1 b.1

same_given : (rows : List Row) (j k : ℕ) → GivesAtOnce rows j → GivesAtOnce rows k → j ≡ k
same_given rows j k (inl a) (inl b) = a.1 ∙ sym b.1
same_given rows j k (inl a) (inr b) = absurd (none_some (codes "at-once") rows k a.0 b)
same_given rows j k (inr a) (inl b) = absurd (none_some (codes "at-once") rows j b.0 a)
same_given rows j k (inr a) (inr b) = same_number (codes "at-once") rows j k a b

pub same_at_once : (rows : List Row) (p q m n j k : ℕ) → GivesNumbers rows p m j → GivesNumbers rows q n k → j ≡ k
same_at_once rows p q m n j k a b = same_given rows j k a.2 b.2
