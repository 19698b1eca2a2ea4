-- What clap makes of the words after `serve`: a call for help is among the errors only where a word
-- is a flag for help.
use Rattle.std.proofs.Common.{◌≡◌, ◌⊎◌, ◌∙◌, ◌==◌, ◌||◌, ◌&&◌, not, ℕ, Bool, true, false, zero, suc, List, [], ◌∷◌, ◌++◌, Option, Some, None, refl, sym, ap, subst, inl, inr, cond, codes, length}
use Rattle.std.specs.Prelude.{fold, slice_get, if◌then◌else◌, encode_utf8, drop, pos}
use Rattle.std.specs.List.{list_any, slice_index_or}
use Rattle.std.specs.Str.{bytes_eq, chars}
use Rattle.std.proofs.lemmas.Bool.{eqb-true}
use Rattle.clap.specs.Lexer.{long_of, name_and_value, short_of}
use Rattle.clap.specs.Walk.{with_default, has_row, values_or_missing, bundle_step, short_met, Held, Row, Rule, Step, Text, Waiting, Walk, Outcome, after_flag, after_step, arg_by_id, bundle, bundle_met, done, waits, plain, refused, finished, has_long, has_short, idle, option, positional, long_met, long_or_other, next, trailing, subcommand, value, nothing_held, option_word, plain_word, reacted, settled, started, subcommand_met, walk, walk_from, walked}
use Rattle.clap.specs.Simple.{App, Shape, built, filled}
use Rattle.clap.specs.Kinds.{Kinds, or_else, range_kinds, check_kinds, value_kinds, values_kinds}
use Rattle.clap.specs.Faults.{bundle_step_fault, short_fault, repeat_fault, set_fault, values_fault, check_fault, default_fault, defaults_fault, flag_word_fault, flags_fault, level_fault, long_fault, settle_fault, step_fault, turn_fault, use_fault, walk_fault}
use Rattle.clap.specs.ValueTests.{accepts}
use Rattle.clap.specs.Takes.{is_given}
use Rattle.clap.specs.declared.builder.value_parser.ValueParser.TheVariants as parser
use Rattle.clap.specs.declared.error.kind.ErrorKind.TheVariants.{ArgumentConflict, DisplayHelp, InvalidValue, MissingRequiredArgument, MissingSubcommand, DisplayHelpOnMissingArgumentOrSubcommand, ValueValidation, WrongNumberOfValues}
use Rattle.gql_command.specs.CommandLine.{IsHelpFlag}
use Rattle.gql_command.specs.Grammar.{at_once_option, command_line, connections_option, number_option, port_option}
use Rattle.gql_command.proofs.FlagWords.{NoRequest, help, no_unknown, no_many, not_long, not_short, one_hyphen, one_refusal, bundle_word, whole_name, or_nothing}

-- ---- the level of `serve`

-- the command line as clap builds it, with its own flags and subcommand
abbrev pub line : App
line = built command_line

abbrev pub serve : Shape
serve = slice_index_or line.subs 1 line.top

abbrev pub serve_faults : List Text → Kinds
serve_faults words = level_fault serve [] nothing_held words false []

abbrev pub port : Rule
port = filled port_option

abbrev pub connections : Rule
connections = filled connections_option

abbrev pub at_once : Rule
at_once = filled at_once_option

abbrev pub rules : List Rule
rules = port ∷ connections ∷ at_once ∷ help ∷ []

-- ---- errors that are no call for help or for the version

pub no_error : NoRequest []
no_error = (λ none. none, λ none. none)

pub either_none : (a b : Kinds) → NoRequest a → NoRequest b → NoRequest (or_else a b)
either_none [] b x y = y
either_none (k ∷ ks) b x y = x

pub if_none : (b : Bool) (x y : Kinds) → NoRequest x → NoRequest y → NoRequest (if b then x else y)
if_none true x y p q = p
if_none false x y p q = q

no_conflict : NoRequest (ArgumentConflict ∷ [])
no_conflict = one_refusal ArgumentConflict (λ e. cc) (λ e. cc)

no_invalid : NoRequest (InvalidValue ∷ [])
no_invalid = one_refusal InvalidValue (λ e. cc) (λ e. cc)

no_validation : NoRequest (ValueValidation ∷ [])
no_validation = one_refusal ValueValidation (λ e. cc) (λ e. cc)

no_wrong_number : NoRequest (WrongNumberOfValues ∷ [])
no_wrong_number = one_refusal WrongNumberOfValues (λ e. cc) (λ e. cc)

-- errors, and then a call for help
then_help : (a : Kinds) → NoRequest a → (or_else a (DisplayHelp ∷ []) ≡ DisplayHelp ∷ []) ⊎ NoRequest (or_else a (DisplayHelp ∷ []))
then_help [] none = inl refl
then_help (k ∷ ks) none = inr none

no_range : (n : ℕ) → NoRequest (range_kinds 1 1 n)
no_range n =
    if_none (n == 0) (InvalidValue ∷ []) (if 1 == n then [] else WrongNumberOfValues ∷ []) no_invalid
    (if_none (1 == n) [] (WrongNumberOfValues ∷ []) no_error no_wrong_number)

no_value : (most : ℕ) (vs : List Text) → NoRequest (values_kinds false (parser.Signed (pos 1) (pos most)) vs)
no_value most [] = no_error
no_value most (v ∷ vs) =
    either_none (value_kinds false (parser.Signed (pos 1) (pos most)) v) (values_kinds false (parser.Signed (pos 1) (pos most)) vs)
    (if_none (accepts false (parser.Signed (pos 1) (pos most)) v) [] (ValueValidation ∷ []) no_error no_validation) (no_value most vs)

no_use : (name : Text) (most : ℕ) (needed again : Bool) (vs : List Text) (rows : List Row) → NoRequest (use_fault again (filled (number_option name most needed)) vs rows)
no_use name most needed again vs rows =
    let a = filled (number_option name most needed) in
    either_none (range_kinds 1 1 (length vs)) (set_fault again a (values_or_missing a vs) rows) (no_range (length vs))
    (either_none (repeat_fault again name rows) (values_fault a (values_or_missing a vs))
    (if_none (has_row name rows && not again) (ArgumentConflict ∷ []) [] no_conflict no_error) (no_value most (values_or_missing a vs)))

-- ---- what is held between two words

-- the id of one of the three options
abbrev pub IsOption : Text → Type 0
IsOption id = (id ≡ codes "port") ⊎ ((id ≡ codes "connections") ⊎ (id ≡ codes "at-once"))

-- what is pending is one of the three options
abbrev pub IsPending : Option (Text × List Text) → Type 0
IsPending None = Unit {0}
IsPending (Some p) = IsOption p.0

abbrev pub IsHeld : Held → Type 0
IsHeld h = IsPending h.pending × (h.skip ≡ 0)

-- what waits is one of the three options
abbrev pub IsWaiting : Waiting → Type 0
IsWaiting idle = Unit {0}
IsWaiting (option id) = IsOption id
IsWaiting positional = Unit {0}

abbrev IsOutcome : Outcome → Type 0
IsOutcome (waits id) = IsOption id
IsOutcome _ = Unit {0}

abbrev IsStep : Step → Type 0
IsStep (next waiting) = IsWaiting waiting
IsStep (trailing n) = Unit {0}
IsStep (subcommand name) = ⊥
IsStep value = Unit {0}

abbrev IsMet : Held × Step → Type 0
IsMet m = IsHeld m.0 × IsStep m.1

abbrev pub IsWalk : Walk → Type 0
IsWalk w = IsHeld w.held × IsWaiting w.waiting × (w.stopped ≡ None)

no_settle : (again : Bool) (rows : List Row) (p : Option (Text × List Text)) (skip : ℕ) → IsPending p
    → NoRequest (settle_fault rules again (record { rows = rows; pending = p; skip = skip }))
no_settle again rows None skip is = no_error
no_settle again rows (Some p) skip is = elim is [
  | inl e ↦ rw e (no_use (codes "port") 65535 true again p.1 rows)
  | inr (inl e) ↦ rw e (no_use (codes "connections") 1000000 true again p.1 rows)
  | inr (inr e) ↦ rw e (no_use (codes "at-once") 16 false again p.1 rows)
]

no_held_settle : (again : Bool) (h : Held) → IsHeld h → NoRequest (settle_fault rules again h)
no_held_settle again h is = no_settle again h.rows h.pending h.skip is.0

pushed_pending : (id word : Text) (p : Option (Text × List Text)) → IsOption id → IsPending p → IsPending (Some ((started id p).0, (started id p).1 ++ word ∷ []))
pushed_pending id word None is held = is
pushed_pending id word (Some p) is held = held

option_met_word : (o : Option Rule) (id word : Text) (h : Held) → IsOption id → IsHeld h → IsMet ((option_word o id word h).0, next (option_word o id word h).1)
option_met_word None id word h is held = (held, is)
option_met_word (Some a) id word h is held = ((pushed_pending id word h.pending is held.0, held.1), go _)
  where
    go : (b : Bool) → IsWaiting (if b then option id else idle)
    go true = is
    go false = tt

plain_met : (waiting : Waiting) (word : Text) (h : Held) → IsWaiting waiting → IsHeld h → IsMet (plain_word rules waiting word h)
plain_met idle word h is held = (held, tt)
plain_met positional word h is held = (held, tt)
plain_met (option id) word h is held = option_met_word (arg_by_id rules id) id word h is held

after_met : (waiting : Waiting) (word : Text) (h : Held) (o : Outcome) → IsWaiting waiting → IsHeld h → IsOutcome o → IsMet (after_flag rules waiting word h o)
after_met waiting word h done w held o = (held, tt)
after_met waiting word h (waits id) w held o = (held, o)
after_met waiting word h plain w held o = plain_met waiting word h w held
after_met waiting word h refused w held o = plain_met waiting word h w held

-- ---- a flag

-- a word that is a flag for help has that one error, and any other has no such error
abbrev pub Answered : Text → Kinds → Type 0
Answered word kinds = (IsHelpFlag word × (kinds ≡ DisplayHelp ∷ [])) ⊎ NoRequest kinds

-- what a long name finds
abbrev pub found : Bool → Bool → Bool → Bool → Option Rule
found a b o c = cond a (Some port) (cond b (Some connections) (cond o (Some at_once) (cond c (Some help) None)))

answers_flag : (word : Text) (a : Kinds) → IsHelpFlag word → NoRequest a → Answered word (or_else a (DisplayHelp ∷ []))
answers_flag word a is none = elim (then_help a none) [ inl e ↦ inl (is, e) | inr n ↦ inr n ]

long_answered : (again a b o c : Bool) (v : Option Text) (word : Text) (h : Held) → IsHeld h → (c ≡ true → v ≡ None → IsHelpFlag word)
    → Answered word (long_fault rules again (found a b o c) v h)
long_answered again true b o c (Some v) word h held is = inr (either_none (settle_fault rules again h) (use_fault again port (v ∷ []) (settled rules h).rows) (no_held_settle again h held) (no_use (codes "port") 65535 true again (v ∷ []) (settled rules h).rows))
long_answered again true b o c None word h held is = inr (no_held_settle again h held)
long_answered again false true o c (Some v) word h held is = inr (either_none (settle_fault rules again h) (use_fault again connections (v ∷ []) (settled rules h).rows) (no_held_settle again h held) (no_use (codes "connections") 1000000 true again (v ∷ []) (settled rules h).rows))
long_answered again false true o c None word h held is = inr (no_held_settle again h held)
long_answered again false false true c (Some v) word h held is = inr (either_none (settle_fault rules again h) (use_fault again at_once (v ∷ []) (settled rules h).rows) (no_held_settle again h held) (no_use (codes "at-once") 16 false again (v ∷ []) (settled rules h).rows))
long_answered again false false true c None word h held is = inr (no_held_settle again h held)
long_answered again false false false true (Some v) word h held is = inr no_many
long_answered again false false false true None word h held is = answers_flag word (settle_fault rules again h) (is refl refl) (no_held_settle again h held)
long_answered again false false false false v word h held is = inr no_unknown

long_outcome : (a b o c : Bool) (v : Option Text) (h : Held) → IsHeld h
    → IsHeld (long_met rules (found a b o c) v h).0 × IsOutcome (long_met rules (found a b o c) v h).1
long_outcome true b o c (Some v) h held = ((tt, held.1), tt)
long_outcome true b o c None h held = ((inl refl, held.1), inl refl)
long_outcome false true o c (Some v) h held = ((tt, held.1), tt)
long_outcome false true o c None h held = ((inr (inl refl), held.1), inr (inl refl))
long_outcome false false true c (Some v) h held = ((tt, held.1), tt)
long_outcome false false true c None h held = ((inr (inr refl), held.1), inr (inr refl))
long_outcome false false false true (Some v) h held = (held, tt)
long_outcome false false false true None h held = ((tt, held.1), tt)
long_outcome false false false false v h held = (held, tt)

-- a bundle of short flags keeps what is held
short_found : (b : Bool) (rest : Text) (h : Held) (more : Held → Held × Outcome) → IsHeld h → ((k : Held) → IsHeld k → IsHeld (more k).0 × IsOutcome (more k).1)
    → IsHeld (short_met rules (cond b (Some help) None) rest h more).0 × IsOutcome (short_met rules (cond b (Some help) None) rest h more).1
short_found false rest h more held on = (held, tt)
short_found true rest h more held on = on _ (tt, held.1)

bundle_outcome : (k : ℕ) (text : Text) (skip : ℕ) (o : Outcome) (h : Held) → IsHeld h → IsOutcome o
    → IsHeld (bundle_met rules k text skip o h).0 × IsOutcome (bundle_met rules k text skip o h).1
unfolding bundle_met
bundle_outcome zero text skip o h held is = (held, is)
bundle_outcome (suc k) text skip o h held is =
    go (slice_get (chars text) 0) skip (λ t n p j is_held is_outcome. bundle_outcome k t n p j is_held is_outcome)
  where
    go : (x : Option ℕ) (s : ℕ)
        → ((t : Text) (n : ℕ) (p : Outcome) (j : Held) → IsHeld j → IsOutcome p → IsHeld (bundle_met rules k t n p j).0 × IsOutcome (bundle_met rules k t n p j).1)
        → IsHeld (bundle_step rules x text s o h (bundle_met rules k)).0 × IsOutcome (bundle_step rules x text s o h (bundle_met rules k)).1
    go None s more = (held, is)
    go (Some x) (suc s) more = more (drop (length (encode_utf8 x)) text) s o h held is
    go (Some x) zero more = short_found (has_short help x) _ h _ held (λ j is_held. more (drop (length (encode_utf8 x)) text) 0 done j is_held tt)

-- ---- one word

-- what a word comes to, before it is taken for a value: its errors, and what is held after it
abbrev Reads : Bool → Waiting → Text → Held → Type 0
Reads again waiting word h = Answered word (flag_word_fault rules again (long_of word) word h)
    × IsMet (long_or_other rules waiting word (long_of word) h)

double : (again : Bool) (waiting : Waiting) (rest : Text) (h : Held) → IsWaiting waiting → IsHeld h → Reads again waiting (45 ∷ 45 ∷ rest) h
double again waiting [] h is held = (inr no_error, plain_met waiting (45 ∷ 45 ∷ []) h is held)
double again waiting (z ∷ zs) h is held =
    let name = (name_and_value (z ∷ zs)).0 in
    let v = (name_and_value (z ∷ zs)).1 in
    let a = has_long port name in
    let b = has_long connections name in
    let o = has_long at_once name in
    let c = has_long help name in
    let after = long_outcome a b o c v h held in (
      long_answered again a b o c v (45 ∷ 45 ∷ z ∷ zs) h held (λ t n. inl (whole_name (codes "help") (z ∷ zs) (or_nothing _ t) n)),
      after_met waiting (45 ∷ 45 ∷ z ∷ zs) (long_met rules (found a b o c) v h).0 (long_met rules (found a b o c) v h).1 is after.0 after.1,
    )

-- a word that is no flag
no_flag : (again : Bool) (waiting : Waiting) (word : Text) (h : Held) → IsWaiting waiting → IsHeld h → long_of word ≡ None → short_of word ≡ None → Reads again waiting word h
no_flag again waiting word h is held long short = rw (long, short) (inr no_error, plain_met waiting word h is held)

-- of a bundle of short flags the first decides
first_flag : (again b : Bool) (x : ℕ) (word rest : Text) (h : Held) (more : Held → Kinds) → IsHeld h → (b ≡ true → IsHelpFlag word)
    → Answered word (short_fault rules again (cond b (Some help) None) rest h more)
first_flag again false x word rest h more held is = inr no_unknown
first_flag again true x word rest h more held is = elim (answers_flag word (settle_fault rules again h) (is refl) (no_held_settle again h held)) [
  | inl p ↦ inl (p.0, rw p.1 refl)
  | inr none ↦ inr (nonempty (settle_fault rules again h) none)
]
  where
    nonempty : (a : Kinds) → NoRequest (or_else a (DisplayHelp ∷ [])) → NoRequest (or_else (or_else a (DisplayHelp ∷ [])) (more (reacted rules help [] h)))
    nonempty [] none = absurd (none.0 (inl refl))
    nonempty (k ∷ ks) none = none

bundle_answered : (again : Bool) (k : ℕ) (word text : Text) (skip : ℕ) (h : Held) → IsHeld h → skip ≡ 0 → word ≡ 45 ∷ text
    → Answered word (flags_fault rules again k text skip h)
unfolding flags_fault
bundle_answered again zero word text skip h held none is = inr no_error
bundle_answered again (suc k) word text skip h held none is = rw none (go (slice_get (chars text) 0) refl)
  where
    go : (o : Option ℕ) → slice_get (chars text) 0 ≡ o → Answered word (bundle_step_fault rules again o text 0 h (flags_fault rules again k))
    go None first = inr no_error
    go (Some x) first = first_flag again (has_short help x) x word _ h _ held
        (λ b. inr (text, is, first ∙ ap (λ y. Some y) (sym (eqb-true 104 x (or_nothing _ b)))))

short_flag : (again : Bool) (waiting : Waiting) (word text : Text) (h : Held) → IsWaiting waiting → IsHeld h → word ≡ 45 ∷ text
    → long_of word ≡ None → short_of word ≡ Some text → Reads again waiting word h
short_flag again waiting word text h is held at long short =
    let plain_held : Held = record h { skip = 0 } in
    let after = bundle_outcome (length text) text h.skip plain plain_held (held.0, refl) tt in
    rw (long, short) (
      bundle_answered again (length text) word text h.skip plain_held (held.0, refl) held.1 at,
      after_met waiting word (bundle rules text h).0 (bundle rules text h).1 is after.0 after.1,
    )

hyphen : (again : Bool) (waiting : Waiting) (rest : Text) (h : Held) → IsWaiting waiting → IsHeld h → Reads again waiting (45 ∷ rest) h
hyphen again waiting [] h is held = (inr no_error, plain_met waiting (45 ∷ []) h is held)
hyphen again waiting (y ∷ ys) h is held = go (y == 45) refl
  where
    go : (b : Bool) → (y == 45) ≡ b → Reads again waiting (45 ∷ y ∷ ys) h
    go true e = subst (λ (x : ℕ). Reads again waiting (45 ∷ x ∷ ys) h) (sym (eqb-true y 45 e)) (double again waiting ys h is held)
    go false e = short_flag again waiting _ (y ∷ ys) h is held refl (one_hyphen y ys e) (bundle_word y ys e)

any_word : (again : Bool) (waiting : Waiting) (word : Text) (h : Held) → IsWaiting waiting → IsHeld h → Reads again waiting word h
any_word again waiting [] h is held = (inr no_error, plain_met waiting [] h is held)
any_word again waiting (x ∷ xs) h is held = go (x == 45) refl
  where
    go : (b : Bool) → (x == 45) ≡ b → Reads again waiting (x ∷ xs) h
    go true e = subst (λ (y : ℕ). Reads again waiting (y ∷ xs) h) (sym (eqb-true x 45 e)) (hyphen again waiting xs h is held)
    go false e = no_flag again waiting _ h is held (not_long x xs e) (not_short x xs e)

pub no_subcommand : (waiting : Waiting) (word : Text) → subcommand_met [] waiting word ≡ None
no_subcommand idle word = refl
no_subcommand (option id) word = refl
no_subcommand positional word = refl

-- ---- one turn of the walk

-- a step that is no subcommand adds no call for help
then_step : (word : Text) (a : Kinds) (position : ℕ) (h : Held) (s : Step) → IsStep s → Answered word a → Answered word (or_else a (step_fault serve position h s))
then_step word a position h s is (inl p) = inl (p.0, rw p.1 refl)
then_step word a position h s is (inr none) = inr (either_none a (step_fault serve position h s) none (go s is))
  where
    go : (t : Step) → IsStep t → NoRequest (step_fault serve position h t)
    go (next waiting) i = no_error
    go (trailing n) i = no_error
    go (subcommand name) i = no_error
    go value i = no_unknown

step_walk : (word : Text) (h : Held) (waiting : Waiting) (position : ℕ) (is_trailing : Bool) (j : Held) (s : Step) → IsWaiting waiting → IsHeld j → IsStep s
    → IsWalk (after_step rules word (record { held = h; waiting = waiting; position = position; is_trailing = is_trailing; stopped = None }) j s)
step_walk word h waiting position is_trailing j (next w) is held i = (held, i, refl)
step_walk word h waiting position is_trailing j (trailing n) is held i = (held, is, refl)
step_walk word h waiting position is_trailing j (subcommand name) is held i = absurd i
step_walk word h waiting position is_trailing j value is held i = (held, is, refl)

-- what a turn comes to: its errors, and the walk after it
abbrev pub Turns : Walk → Text → Type 0
Turns w word = Answered word (turn_fault serve [] w word) × IsWalk (walked rules [] w word)

turns_of : (word : Text) (h : Held) (waiting : Waiting) (position : ℕ) (is_trailing : Bool) → IsHeld h → IsWaiting waiting
    → Turns (record { held = h; waiting = waiting; position = position; is_trailing = is_trailing; stopped = None }) word
unfolding walked
turns_of word h waiting position true held is = (inr no_unknown, (held, is, refl))
turns_of word h waiting position false held is = rw (no_subcommand waiting word) (go (bytes_eq word (codes "--")) refl)
  where
    read : Reads serve.args_override_self waiting word h
    read = any_word serve.args_override_self waiting word h is held

    go : (b : Bool) → bytes_eq word (codes "--") ≡ b
        → Answered word (or_else (if b then [] else flag_word_fault rules serve.args_override_self (long_of word) word h)
        (step_fault serve position (if b then (h, trailing position) else long_or_other rules waiting word (long_of word) h).0
        (if b then (h, trailing position) else long_or_other rules waiting word (long_of word) h).1))
        × IsWalk (after_step rules word (record { held = h; waiting = waiting; position = position; is_trailing = false; stopped = None })
        (if b then (h, trailing position) else long_or_other rules waiting word (long_of word) h).0
        (if b then (h, trailing position) else long_or_other rules waiting word (long_of word) h).1)
    go true e = (inr no_error, (held, is, refl))
    go false e = (
      then_step word (flag_word_fault rules serve.args_override_self (long_of word) word h) position (long_or_other rules waiting word (long_of word) h).0
          (long_or_other rules waiting word (long_of word) h).1 read.1.1 read.0,
      step_walk word h waiting position false (long_or_other rules waiting word (long_of word) h).0 (long_or_other rules waiting word (long_of word) h).1 is read.1.0 read.1.1,
    )

pub turns : (w : Walk) (word : Text) → IsWalk w → Turns w word
turns w word is = subst (λ (s : Option (Text × List Text)). Turns (record w { stopped = s }) word) (sym is.2) (turns_of word w.held w.waiting w.position w.is_trailing is.0 is.1)

-- ---- the walk, and the level

-- some word is a flag for help
abbrev pub HasFlag : List Text → Type 0
HasFlag words = (before : List Text) × (flag : Text) × (after : List Text) × IsHelpFlag flag × (words ≡ before ++ flag ∷ after)

-- the one error is a call for help, by a flag among the words, or there is no such error
abbrev pub HelpsOnly : List Text → Kinds → Type 0
HelpsOnly words kinds = (HasFlag words × (kinds ≡ DisplayHelp ∷ [])) ⊎ NoRequest kinds

one_more : (word : Text) (rest : List Text) (a b : Kinds) → Answered word a → HelpsOnly rest b → HelpsOnly (word ∷ rest) (or_else a b)
one_more word rest a b (inl p) later = inl (([], word, rest, p.0, refl), rw p.1 refl)
one_more word rest a b (inr none) (inr n) = inr (either_none a b none n)
one_more word rest a b (inr none) (inl q) = go a none
  where
    go : (k : Kinds) → NoRequest k → HelpsOnly (word ∷ rest) (or_else k b)
    go [] n = inl ((word ∷ q.0.0, q.0.1, q.0.2, q.0.3, ap (λ l. word ∷ l) q.0.4), q.1)
    go (k ∷ ks) n = inr n

pub walk_helps : (words : List Text) (w : Walk) → IsWalk w → HelpsOnly words (walk_fault serve [] w words) × IsWalk (fold (walked rules []) w words)
unfolding walk_fault
walk_helps [] w is = (inr no_error, is)
walk_helps (word ∷ rest) w is =
    let here = turns w word is in
    let later = walk_helps rest (walked rules [] w word) here.1 in
    (one_more word rest _ _ here.0 later.0, later.1)

no_default : (b : Bool) (x : Kinds) → (if b || true then [] else x) ≡ []
no_default true x = refl
no_default false x = refl

none_of_four : (a b o c : Kinds) → a ≡ [] → b ≡ [] → o ≡ [] → c ≡ [] → or_else a (or_else b (or_else o (or_else c []))) ≡ []
none_of_four a b o c x y w z = rw (x, y, w, z) refl

pub no_defaults : (rows : List Row) → defaults_fault rows rules ≡ []
unfolding defaults_fault
no_defaults rows = none_of_four (default_fault rows port) (default_fault (with_default rows port) connections)
    (default_fault (with_default (with_default rows port) connections) at_once)
    (default_fault (with_default (with_default (with_default rows port) connections) at_once) help)
    (no_default (has_row (codes "port") rows) _)
    (no_default (has_row (codes "connections") (with_default rows port)) _)
    (no_default (has_row (codes "at-once") (with_default (with_default rows port) connections)) _)
    (no_default (has_row (codes "help") (with_default (with_default (with_default rows port) connections) at_once)) _)

no_check : (a b c : Bool) → NoRequest (check_kinds a b c)
no_check true b c = one_refusal DisplayHelpOnMissingArgumentOrSubcommand (λ e. cc) (λ e. cc)
no_check false true c = one_refusal MissingSubcommand (λ e. cc) (λ e. cc)
no_check false false true = one_refusal MissingRequiredArgument (λ e. cc) (λ e. cc)
no_check false false false = no_error

-- errors that come after those of the walk, and are no call for help
then_none : (words : List Text) (a b : Kinds) → HelpsOnly words a → NoRequest b → HelpsOnly words (or_else a b)
then_none words a b (inl p) none = inl (p.0, rw p.1 refl)
then_none words a b (inr n) none = inr (either_none a b n none)

-- of the words after `serve` the one error is a call for help, by a flag among them, or there is no
-- such error
pub serve_helps : (words : List Text) → HelpsOnly words (serve_faults words)
serve_helps words =
    let start : IsWalk (walk_from nothing_held) = ((tt, refl), tt, refl) in
    let walked = walk_helps words (walk_from nothing_held) start in
    let end : Held = (walk rules [] nothing_held words).held in
    let again = serve.args_override_self in
    let settle = settle_fault rules again end in
    let defaults = defaults_fault (settled rules end).rows rules in
    let check = check_fault serve (finished rules end) false in
    then_none words (walk_fault serve [] (walk_from nothing_held) words) (or_else settle (or_else defaults check)) walked.0
    (either_none settle (or_else defaults check) (no_held_settle again end walked.1.0)
    (subst (λ (ks : Kinds). NoRequest (or_else ks check)) (sym (no_defaults (settled rules end).rows)) (no_check false false (list_any (λ a. a.required && not (is_given a.id (finished rules end))) rules))))
