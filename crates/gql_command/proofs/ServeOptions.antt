-- Where clap's grammar takes the words of `serve`, its options give all numbers, in their ranges.
use Rattle.std.proofs.Common.{◌≡◌, ◌⊎◌, ◌∙◌, ◌==◌, ◌≤◌, ◌||◌, ◌&&◌, not, ℕ, Bool, true, false, zero, suc, cond, List, [], ◌∷◌, ◌++◌, Option, Some, None, refl, sym, ap, subst, inl, inr, arith, codes, length}
use Rattle.std.specs.Prelude.{find, fold, pos, slice_get, if◌then◌else◌}
use Rattle.std.specs.Option.{option_map_or}
use Rattle.std.specs.Str.{bytes_eq, chars}
use Rattle.std.specs.Str.Parse.{IsNumeral, digits_value, without_leading_plus}
use Rattle.std.proofs.lemmas.Bool.{eqb-true}
use Rattle.std.proofs.lemmas.Int.{ints}
use Rattle.std.proofs.lemmas.Slice.Eq.{bytes_eq-Decides}
use Rattle.clap.specs.Facts.{explicit_source}
use Rattle.clap.specs.Lexer.{long_of, name_and_value, short_of, without_minus}
use Rattle.clap.specs.Kinds.{Kinds, or_else, range_kinds, check_kinds}
use Rattle.clap.specs.Faults.{bundle_step_fault, check_fault, defaults_fault, flag_word_fault, flags_fault, long_fault, repeat_fault, set_fault, settle_fault, short_fault, step_fault, turn_fault, use_fault, values_fault, walk_fault}
use Rattle.clap.specs.Simple.{filled}
use Rattle.clap.specs.Takes.{is_given}
use Rattle.clap.specs.Values.{IsSignedIn}
use Rattle.clap.specs.ValueTests.{accepts}
use Rattle.clap.specs.Walk.{arg_by_id, more_values, option_word, Held, Outcome, Row, Rule, Step, Text, Waiting, Walk, after_flag, after_step, at_row, bundle, bundle_met, bundle_step, done, finished, has_long, has_row, has_short, idle, long_met, long_or_other, next, nothing_held, one_of, option, plain, plain_word, positional, refused, rows_after, settled, subcommand, trailing, used, value, waits, walk, walk_from, walked, with_default, with_values}
use Rattle.clap.specs.declared.builder.value_parser.Reading.TheVariants.{WithoutMinus}
use Rattle.clap.specs.declared.builder.value_parser.ValueParser.TheVariants as parser
use Rattle.clap.specs.declared.error.kind.ErrorKind.TheVariants.{ArgumentConflict, DisplayHelp, ValueValidation, InvalidValue, WrongNumberOfValues}
use Rattle.clap.specs.declared.parser.matches.ValueSource.TheVariants.{CommandLine}
use Rattle.clap.proofs.ValueTestLemmas.{accepts-Accepts}
use Rattle.gql_command.specs.Grammar.{GivesAtOnce, GivesNumber, GivesNumbers, number_option}
use Rattle.gql_command.proofs.FlagWords.{bundle_word, help, not_long, not_short, one_hyphen}
use Rattle.gql_command.proofs.ServeWords.{IsHeld, IsPending, IsWalk, at_once, connections, found, no_subcommand, port, rules, serve, serve_faults, turns, walk_helps}

-- ---- steps with no error

first_none : (a b : Kinds) → or_else a b ≡ [] → a ≡ []
first_none [] b e = refl
first_none (k ∷ ks) b e = e

second_none : (a b : Kinds) → or_else a b ≡ [] → b ≡ []
second_none [] b e = e
second_none (k ∷ ks) b e = cc

never_help : (a : Kinds) → or_else a (DisplayHelp ∷ []) ≡ [] → ⊥
never_help [] e = cc
never_help (k ∷ ks) e = cc

-- ---- rows

-- the row of an option has one value, which is in the option's range
abbrev IsText : ℕ → Row → Type 0
IsText most r = (v : Text) × (r.values ≡ v ∷ []) × (r.reading ≡ WithoutMinus) × (accepts false (parser.Signed (pos 1) (pos most)) v ≡ true)

abbrev IsRow : Row → Type 0
IsRow r = ((r.id ≡ codes "port") × IsText 65535 r)
    ⊎ (((r.id ≡ codes "connections") × IsText 1000000 r)
    ⊎ ((r.id ≡ codes "at-once") × IsText 16 r))

abbrev AreRows : List Row → Type 0
AreRows [] = Unit {0}
AreRows (r ∷ rs) = IsRow r × AreRows rs

-- no row has the id, so that a change at it adds the row that is missing
missing_row : (id : Text) (change : Row → List Row) (missing rows : List Row) → has_row id rows ≡ false → at_row id change missing rows ≡ rows ++ missing
missing_row id change missing [] none = refl
missing_row id change missing (r ∷ rs) none = go (bytes_eq r.id id) none (missing_row id change missing rs)
  where
    go : (b : Bool) → (b || has_row id rs) ≡ false → (has_row id rs ≡ false → at_row id change missing rs ≡ rs ++ missing)
        → (if b then change r ++ rs else r ∷ at_row id change missing rs) ≡ r ∷ rs ++ missing
    go true none more = cc
    go false none more = ap (λ l. r ∷ l) (more none)

no_more : (rows : List Row) → rows ++ [] ≡ rows
no_more [] = refl
no_more (r ∷ rs) = ap (λ l. r ∷ l) (no_more rs)

one_more : (rows : List Row) (r : Row) → AreRows rows → IsRow r → AreRows (rows ++ r ∷ [])
one_more [] r are is = (is, tt)
one_more (s ∷ rs) r are is = (are.0, one_more rs r are.1 is)

-- ---- one use of an option

-- the row of an option that is used once, with this value
abbrev pub new_row : Text → Text → Row
new_row name v = record { id = name; values = v ∷ []; count = None; source = Some CommandLine; reading = WithoutMinus }

one_value : (n : ℕ) → range_kinds 1 1 n ≡ [] → 1 ≡ n
one_value n e = eqb-true 1 n (go (n == 0) (1 == n) e)
  where
    go : (b c : Bool) → (if b then InvalidValue ∷ [] else (if c then [] else WrongNumberOfValues ∷ [])) ≡ [] → c ≡ true
    go true c none = cc
    go false true none = refl
    go false false none = cc

not_again : (b : Bool) → (if b && true then ArgumentConflict ∷ [] else []) ≡ [] → b ≡ false
not_again true none = cc
not_again false none = refl

is_accepted : (b : Bool) → or_else (if b then [] else ValueValidation ∷ []) [] ≡ [] → b ≡ true
is_accepted true none = refl
is_accepted false none = cc

module _ (name : Text) (most : ℕ) (needed : Bool) (is_row : (v : Text) → accepts false (parser.Signed (pos 1) (pos most)) v ≡ true → IsRow (new_row name v)) where
  abbrev used_option : Rule
  used_option = filled (number_option name most needed)

  used_is : (v : Text) (rows : List Row) → has_row name rows ≡ false → used used_option (v ∷ []) rows ≡ rows ++ new_row name v ∷ []
  used_is v rows none =
      ap (λ (rs : List Row). with_values name WithoutMinus CommandLine (v ∷ []) rs) (missing_row name (λ _. []) [] rows none ∙ no_more rows)
      ∙ missing_row name (more_values CommandLine (v ∷ [])) (new_row name v ∷ []) rows none

  -- a use with no error adds a row of the option
  use_rows : (vs : List Text) (rows : List Row) → use_fault false used_option vs rows ≡ [] → AreRows rows → AreRows (used used_option vs rows)
  use_rows [] rows e are = cc
  use_rows (v ∷ w ∷ ws) rows e are =
      let bad : 1 ≡ length (v ∷ w ∷ ws) = one_value (length (v ∷ w ∷ ws)) (first_none (range_kinds 1 1 (length (v ∷ w ∷ ws))) (set_fault false used_option (v ∷ w ∷ ws) rows) e) in
      absurd (omega arith)
  use_rows (v ∷ []) rows e are =
      let rest : set_fault false used_option (v ∷ []) rows ≡ [] = second_none (range_kinds 1 1 1) (set_fault false used_option (v ∷ []) rows) e in
      let none = not_again (has_row name rows) (first_none (repeat_fault false name rows) (values_fault used_option (v ∷ [])) rest) in
      let passes = is_accepted (accepts false (parser.Signed (pos 1) (pos most)) v) (second_none (repeat_fault false name rows) (values_fault used_option (v ∷ [])) rest) in
      subst AreRows (sym (used_is v rows none)) (one_more rows (new_row name v) are (is_row v passes))

port_rows : (vs : List Text) (rows : List Row) → use_fault false port vs rows ≡ [] → AreRows rows → AreRows (used port vs rows)
port_rows = use_rows (codes "port") 65535 true (λ v passes. inl (refl, (v, refl, refl, passes)))

connections_rows : (vs : List Text) (rows : List Row) → use_fault false connections vs rows ≡ [] → AreRows rows → AreRows (used connections vs rows)
connections_rows = use_rows (codes "connections") 1000000 true (λ v passes. inr (inl (refl, (v, refl, refl, passes))))

at_once_rows : (vs : List Text) (rows : List Row) → use_fault false at_once vs rows ≡ [] → AreRows rows → AreRows (used at_once vs rows)
at_once_rows = use_rows (codes "at-once") 16 false (λ v passes. inr (inr (refl, (v, refl, refl, passes))))

-- ---- what is held

abbrev held_by : List Row → Option (Text × List Text) → ℕ → Held
held_by rows p skip = record { rows = rows; pending = p; skip = skip }

-- what is pending is settled with no error, and its row added
Settles : List Row → Text → List Text → ℕ → Type 0
Settles rows id vs skip = settle_fault rules false (held_by rows (Some (id, vs)) skip) ≡ [] → AreRows (settled rules (held_by rows (Some (id, vs)) skip)).rows

settle_rows : (rows : List Row) (p : Option (Text × List Text)) (skip : ℕ) → IsPending p → AreRows rows
    → settle_fault rules false (held_by rows p skip) ≡ [] → AreRows (settled rules (held_by rows p skip)).rows
unfolding Settles
settle_rows rows None skip is are e = are
settle_rows rows (Some (id, vs)) skip is are e = elim is [
  | inl same ↦ subst (λ (t : Text). Settles rows t vs skip) (sym same) (λ f. port_rows vs rows f are) e
  | inr (inl same) ↦ subst (λ (t : Text). Settles rows t vs skip) (sym same) (λ f. connections_rows vs rows f are) e
  | inr (inr same) ↦ subst (λ (t : Text). Settles rows t vs skip) (sym same) (λ f. at_once_rows vs rows f are) e
]

settle_held : (h : Held) → IsHeld h → AreRows h.rows → settle_fault rules false h ≡ [] → AreRows (settled rules h).rows
settle_held h is are e = settle_rows h.rows h.pending h.skip is.0 are e

-- ---- one word

long_rows : (a b o c : Bool) (v : Option Text) (h : Held) → IsHeld h → AreRows h.rows → long_fault rules false (found a b o c) v h ≡ []
    → AreRows (long_met rules (found a b o c) v h).0.rows
long_rows true b o c (Some v) h is are e =
    port_rows (v ∷ []) (settled rules h).rows (second_none (settle_fault rules false h) (use_fault false port (v ∷ []) (settled rules h).rows) e)
    (settle_held h is are (first_none (settle_fault rules false h) (use_fault false port (v ∷ []) (settled rules h).rows) e))
long_rows true b o c None h is are e = settle_held h is are e
long_rows false true o c (Some v) h is are e =
    connections_rows (v ∷ []) (settled rules h).rows (second_none (settle_fault rules false h) (use_fault false connections (v ∷ []) (settled rules h).rows) e)
    (settle_held h is are (first_none (settle_fault rules false h) (use_fault false connections (v ∷ []) (settled rules h).rows) e))
long_rows false true o c None h is are e = settle_held h is are e
long_rows false false true c (Some v) h is are e =
    at_once_rows (v ∷ []) (settled rules h).rows (second_none (settle_fault rules false h) (use_fault false at_once (v ∷ []) (settled rules h).rows) e)
    (settle_held h is are (first_none (settle_fault rules false h) (use_fault false at_once (v ∷ []) (settled rules h).rows) e))
long_rows false false true c None h is are e = settle_held h is are e
long_rows false false false true (Some v) h is are e = cc
long_rows false false false true None h is are e = absurd (never_help (settle_fault rules false h) e)
long_rows false false false false v h is are e = cc

plain_rows : (waiting : Waiting) (word : Text) (h : Held) → AreRows h.rows → AreRows (plain_word rules waiting word h).0.rows
plain_rows idle word h are = are
plain_rows positional word h are = are
plain_rows (option id) word h are = go (arg_by_id rules id)
  where
    go : (o : Option Rule) → AreRows (option_word o id word h).0.rows
    go None = are
    go (Some a) = are

after_rows : (waiting : Waiting) (word : Text) (h : Held) (o : Outcome) → AreRows h.rows → AreRows (after_flag rules waiting word h o).0.rows
after_rows waiting word h done are = are
after_rows waiting word h (waits id) are = are
after_rows waiting word h plain are = plain_rows waiting word h are
after_rows waiting word h refused are = plain_rows waiting word h are

-- a short flag has an error
no_short : (b : Bool) (rest : Text) (h : Held) (more : Held → Kinds) → short_fault rules false (cond b (Some help) None) rest h more ≡ [] → ⊥
no_short false rest h more e = cc
no_short true rest h more e = never_help (settle_fault rules false h) (first_none _ _ e)

bundle_rows : (k : ℕ) (text : Text) (skip : ℕ) (h : Held) → skip ≡ 0 → AreRows h.rows → flags_fault rules false k text skip h ≡ []
    → AreRows (bundle_met rules k text skip plain h).0.rows
unfolding flags_fault bundle_met
bundle_rows zero text skip h none are = λ e. are
bundle_rows (suc k) text skip h none are = rw none (go (slice_get (chars text) 0))
  where
    go : (o : Option ℕ) → bundle_step_fault rules false o text 0 h (flags_fault rules false k) ≡ [] → AreRows (bundle_step rules o text 0 plain h (bundle_met rules k)).0.rows
    go None e = are
    go (Some x) e = absurd (no_short (has_short help x) _ h _ e)

-- a word with no error keeps the rows, or adds one
abbrev Keeps : Waiting → Text → Held → Type 0
Keeps waiting word h = flag_word_fault rules false (long_of word) word h ≡ [] → AreRows (long_or_other rules waiting word (long_of word) h).0.rows

double : (waiting : Waiting) (rest : Text) (h : Held) → IsHeld h → AreRows h.rows → Keeps waiting (45 ∷ 45 ∷ rest) h
double waiting [] h is are = λ e. plain_rows waiting (45 ∷ 45 ∷ []) h are
double waiting (z ∷ zs) h is are =
    let name = (name_and_value (z ∷ zs)).0 in
    let v = (name_and_value (z ∷ zs)).1 in
    let a = has_long port name in
    let b = has_long connections name in
    let o = has_long at_once name in
    let c = has_long help name in
    λ e. after_rows waiting (45 ∷ 45 ∷ z ∷ zs) (long_met rules (found a b o c) v h).0 (long_met rules (found a b o c) v h).1 (long_rows a b o c v h is are e)

no_flag : (waiting : Waiting) (word : Text) (h : Held) → AreRows h.rows → long_of word ≡ None → short_of word ≡ None → Keeps waiting word h
no_flag waiting word h are long short = rw (long, short) (λ e. plain_rows waiting word h are)

short_flag : (waiting : Waiting) (word text : Text) (h : Held) → IsHeld h → AreRows h.rows → long_of word ≡ None → short_of word ≡ Some text → Keeps waiting word h
short_flag waiting word text h is are long short =
    rw (long, short) (λ e. after_rows waiting word (bundle rules text h).0 (bundle rules text h).1 (bundle_rows (length text) text h.skip (record h { skip = 0 }) is.1 are e))

hyphen : (waiting : Waiting) (rest : Text) (h : Held) → IsHeld h → AreRows h.rows → Keeps waiting (45 ∷ rest) h
hyphen waiting [] h is are = λ e. plain_rows waiting (45 ∷ []) h are
hyphen waiting (y ∷ ys) h is are = go (y == 45) refl
  where
    go : (b : Bool) → (y == 45) ≡ b → Keeps waiting (45 ∷ y ∷ ys) h
    go true e = subst (λ (x : ℕ). Keeps waiting (45 ∷ x ∷ ys) h) (sym (eqb-true y 45 e)) (double waiting ys h is are)
    go false e = short_flag waiting (45 ∷ y ∷ ys) (y ∷ ys) h is are (one_hyphen y ys e) (bundle_word y ys e)

any_word : (waiting : Waiting) (word : Text) (h : Held) → IsHeld h → AreRows h.rows → Keeps waiting word h
any_word waiting [] h is are = λ e. plain_rows waiting [] h are
any_word waiting (x ∷ xs) h is are = go (x == 45) refl
  where
    go : (b : Bool) → (x == 45) ≡ b → Keeps waiting (x ∷ xs) h
    go true e = subst (λ (y : ℕ). Keeps waiting (y ∷ xs) h) (sym (eqb-true x 45 e)) (hyphen waiting xs h is are)
    go false e = no_flag waiting (x ∷ xs) h are (not_long x xs e) (not_short x xs e)

-- ---- the walk

step_rows : (word : Text) (w : Walk) (j : Held) (s : Step) → AreRows j.rows → AreRows (after_step rules word w j s).held.rows
step_rows word w j (next waiting) are = are
step_rows word w j (trailing n) are = are
step_rows word w j (subcommand name) are = are
step_rows word w j value are = are

abbrev TurnKeeps : Walk → Text → Type 0
TurnKeeps w word = turn_fault serve [] w word ≡ [] → AreRows (walked rules [] w word).held.rows

turn_of : (word : Text) (h : Held) (waiting : Waiting) (position : ℕ) (is_trailing : Bool) → IsHeld h → AreRows h.rows
    → TurnKeeps (record { held = h; waiting = waiting; position = position; is_trailing = is_trailing; stopped = None }) word
unfolding walked
turn_of word h waiting position true is are = λ e. are
turn_of word h waiting position false is are = rw (no_subcommand waiting word) (go (bytes_eq word (codes "--")))
  where
    go : (b : Bool) → or_else (if b then [] else flag_word_fault rules false (long_of word) word h)
        (step_fault serve position (if b then (h, trailing position) else long_or_other rules waiting word (long_of word) h).0
        (if b then (h, trailing position) else long_or_other rules waiting word (long_of word) h).1) ≡ []
        → AreRows (after_step rules word (record { held = h; waiting = waiting; position = position; is_trailing = false; stopped = None })
        (if b then (h, trailing position) else long_or_other rules waiting word (long_of word) h).0
        (if b then (h, trailing position) else long_or_other rules waiting word (long_of word) h).1).held.rows
    go true e = are
    go false e = step_rows word (record { held = h; waiting = waiting; position = position; is_trailing = false; stopped = None }) (long_or_other rules waiting word (long_of word) h).0 (long_or_other rules waiting word (long_of word) h).1
        (any_word waiting word h is are (first_none (flag_word_fault rules false (long_of word) word h)
        (step_fault serve position (long_or_other rules waiting word (long_of word) h).0 (long_or_other rules waiting word (long_of word) h).1) e))

turn_keeps : (w : Walk) (word : Text) → IsWalk w → AreRows w.held.rows → TurnKeeps w word
turn_keeps w word is are =
    subst (λ (s : Option (Text × List Text)). TurnKeeps (record w { stopped = s }) word) (sym is.2) (turn_of word w.held w.waiting w.position w.is_trailing is.0 are)

walk_rows : (words : List Text) (w : Walk) → IsWalk w → AreRows w.held.rows → walk_fault serve [] w words ≡ [] → AreRows (fold (walked rules []) w words).held.rows
unfolding walk_fault
walk_rows [] w is are e = are
walk_rows (word ∷ rest) w is are e =
    walk_rows rest (walked rules [] w word) (turns w word is).1 (turn_keeps w word is are (first_none (turn_fault serve [] w word) _ e))
    (second_none (turn_fault serve [] w word) _ e)

-- ---- the numbers

-- a row that is found by its id
row_found : (id : Text) (rows : List Row) (r : Row) → AreRows rows → find (λ s. bytes_eq s.id id) rows ≡ Some r → IsRow r × (r.id ≡ id)
row_found id [] r are e = cc
row_found id (s ∷ rs) r are e = go (bytes_eq s.id id) refl e (row_found id rs r are.1)
  where
    go : (b : Bool) → bytes_eq s.id id ≡ b → cond b (Some s) (find (λ t. bytes_eq t.id id) rs) ≡ Some r
        → (find (λ t. bytes_eq t.id id) rs ≡ Some r → IsRow r × (r.id ≡ id)) → IsRow r × (r.id ≡ id)
    go true same f more =
        let is : s ≡ r = cc in
        subst (λ (t : Row). IsRow t × (t.id ≡ id)) is (are.0, (bytes_eq-Decides _ _).0 same)
    go false same f more = more f

-- the text of a number in the range is a numeral, whose number is in the range
InRange : ℕ → Text → Type 0
InRange most t = IsNumeral 10 (without_leading_plus t) × (1 ≤ digits_value 10 (without_leading_plus t)) × (digits_value 10 (without_leading_plus t) ≤ most)

in_range : (most : ℕ) (v : Text) → IsSignedIn (pos 1) (pos most) v → InRange most (without_minus v)
unfolding InRange
in_range most [] h = absurd (omega (arith, h.0.0))
in_range most (x ∷ xs) h = go (x == 45) refl
  where
    go : (b : Bool) → (x == 45) ≡ b → InRange most (without_minus (x ∷ xs))
    go true e = (let low = rw e at h.2 in absurd (omega (arith, ints)))
    go false e =
        let numeral = rw e at h.0 in
        let low = rw e at h.2 in
        let high = rw e at h.3 in
        rw e (numeral, omega (arith, ints), omega (arith, ints))

-- an option that is given has a number in its range
number_of : (name : Text) (most : ℕ) (rows : List Row) (r : Row) → find (λ s. bytes_eq s.id name) rows ≡ Some r → IsText most r
    → (n : ℕ) × GivesNumber name rows n × (1 ≤ n) × (n ≤ most)
unfolding InRange
number_of name most rows r at is =
    let text : one_of name rows ≡ Some (without_minus is.0) = rw (at, is.1, is.2) refl in
    let number : InRange most (without_minus is.0) = in_range most is.0 (accepts-Accepts false (parser.Signed (pos 1) (pos most)) is.0 is.3) in
    (digits_value 10 (without_leading_plus (without_minus is.0)), (without_minus is.0, text, number.0, refl), number.1, number.2)

is_found : (id : Text) (rows : List Row) → is_given id rows ≡ true → (r : Row) × (find (λ s. bytes_eq s.id id) rows ≡ Some r)
is_found id rows given = go (find (λ s. bytes_eq s.id id) rows) refl given
  where
    go : (o : Option Row) → find (λ s. bytes_eq s.id id) rows ≡ o → option_map_or (λ (r : Row). explicit_source r.source) o false ≡ true
        → (r : Row) × (find (λ s. bytes_eq s.id id) rows ≡ Some r)
    go None e g = cc
    go (Some r) e g = (r, e)

port_connections : codes "port" ≡ codes "connections" → ⊥
port_connections e = cc

port_at_once : codes "port" ≡ codes "at-once" → ⊥
port_at_once e = cc

connections_at_once : codes "connections" ≡ codes "at-once" → ⊥
connections_at_once e = cc

port_given : (rows : List Row) → AreRows rows → is_given (codes "port") rows ≡ true → (n : ℕ) × GivesNumber (codes "port") rows n × (1 ≤ n) × (n ≤ 65535)
port_given rows are given =
    let row = is_found (codes "port") rows given in
    let is = row_found (codes "port") rows row.0 are row.1 in
    elim is.0 [
      | inl p ↦ number_of (codes "port") 65535 rows row.0 row.1 p.1
      | inr (inl p) ↦ absurd (port_connections (sym is.1 ∙ p.0))
      | inr (inr p) ↦ absurd (port_at_once (sym is.1 ∙ p.0))
    ]

connections_given : (rows : List Row) → AreRows rows → is_given (codes "connections") rows ≡ true
    → (n : ℕ) × GivesNumber (codes "connections") rows n × (1 ≤ n) × (n ≤ 1000000)
connections_given rows are given =
    let row = is_found (codes "connections") rows given in
    let is = row_found (codes "connections") rows row.0 are row.1 in
    elim is.0 [
      | inl p ↦ absurd (port_connections (sym p.0 ∙ is.1))
      | inr (inl p) ↦ number_of (codes "connections") 1000000 rows row.0 row.1 p.1
      | inr (inr p) ↦ absurd (connections_at_once (sym is.1 ∙ p.0))
    ]

-- the number of connections at one time: 16 if the option is left out, or else one in the range
at_once_given : (rows : List Row) → AreRows rows → (n : ℕ) × GivesAtOnce rows n × (1 ≤ n) × (n ≤ 16)
at_once_given rows are = go (find (λ s. bytes_eq s.id (codes "at-once")) rows) refl
  where
    number : (r : Row) → find (λ s. bytes_eq s.id (codes "at-once")) rows ≡ Some r → IsRow r → r.id ≡ codes "at-once"
        → (n : ℕ) × GivesNumber (codes "at-once") rows n × (1 ≤ n) × (n ≤ 16)
    number r e (inl p) id = absurd (port_at_once (sym p.0 ∙ id))
    number r e (inr (inl p)) id = absurd (connections_at_once (sym p.0 ∙ id))
    number r e (inr (inr p)) id = number_of (codes "at-once") 16 rows r e p.1

    go : (o : Option Row) → find (λ s. bytes_eq s.id (codes "at-once")) rows ≡ o → (n : ℕ) × GivesAtOnce rows n × (1 ≤ n) × (n ≤ 16)
    go None e = (16, inl (rw e refl, refl), omega arith, omega arith)
    go (Some r) e =
        let is = row_found (codes "at-once") rows r are e in
        let given = number r e is.0 is.1 in
        (given.0, inr given.1, given.2, given.3)

-- ---- after the walk

-- no argument has a default
default_kept : (b : Bool) (rows : List Row) → (if b then rows else rows) ≡ rows
default_kept true rows = refl
default_kept false rows = refl

finished_is : (rows : List Row) → fold with_default rows rules ≡ rows
finished_is rows =
    let one : with_default rows port ≡ rows = default_kept (has_row (codes "port") rows) rows in
    let two : with_default rows connections ≡ rows = default_kept (has_row (codes "connections") rows) rows in
    let three : with_default rows at_once ≡ rows = default_kept (has_row (codes "at-once") rows) rows in
    let four : with_default rows help ≡ rows = default_kept (has_row (codes "help") rows) rows in
    ap (λ (r : List Row). with_default (with_default (with_default r connections) at_once) help) one
    ∙ (ap (λ (r : List Row). with_default (with_default r at_once) help) two ∙ (ap (λ (r : List Row). with_default r help) three ∙ four))

-- what is required was given
both_given : (a b : Bool) → check_kinds false false (not a || (not b || false)) ≡ [] → (a ≡ true) × (b ≡ true)
both_given true true e = (refl, refl)
both_given true false e = cc
both_given false b e = cc

-- where the words have no fault, the options give all numbers, in their ranges
pub numbers_given : (words : List Text) → serve_faults words ≡ []
    → (p : ℕ) × (c : ℕ) × (k : ℕ) × GivesNumbers (rows_after serve.rules [] words) p c k
numbers_given words none =
    let start : IsWalk (walk_from nothing_held) = ((tt, refl), tt, refl) in
    let end : Held = (walk rules [] nothing_held words).held in
    let settle = settle_fault rules false end in
    let defaults = defaults_fault (settled rules end).rows rules in
    let check = check_fault serve (finished rules end) false in
    let walk_none = first_none (walk_fault serve [] (walk_from nothing_held) words) (or_else settle (or_else defaults check)) none in
    let rest = second_none (walk_fault serve [] (walk_from nothing_held) words) (or_else settle (or_else defaults check)) none in
    let rows = walk_rows words (walk_from nothing_held) start tt walk_none in
    let held = (walk_helps words (walk_from nothing_held) start).1.0 in
    let settled_are : AreRows (settled rules end).rows = settle_held end held rows (first_none settle (or_else defaults check) rest) in
    let are : AreRows (finished rules end) = subst AreRows (sym (finished_is (settled rules end).rows)) settled_are in
    let check_none : check ≡ [] = second_none defaults check (second_none settle (or_else defaults check) rest) in
    let given = both_given (is_given (codes "port") (finished rules end)) (is_given (codes "connections") (finished rules end)) check_none in
    let port_number = port_given (finished rules end) are given.0 in
    let connections_number = connections_given (finished rules end) are given.1 in
    let at_once_number = at_once_given (finished rules end) are in (
      port_number.0,
      connections_number.0,
      at_once_number.0,
      (
        port_number.1,
        connections_number.1,
        at_once_number.1,
        (port_number.2, port_number.3),
        (connections_number.2, connections_number.3),
        (at_once_number.2, at_once_number.3),
      ),
    )
