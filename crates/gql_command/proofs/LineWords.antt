-- What clap's grammar of the command line makes of the words after the program's name.
use Rattle.std.proofs.Common.{◌≡◌, ◌⊎◌, ◌∙◌, ◌++◌, Bool, true, false, List, [], ◌∷◌, Some, None, refl, sym, ap, subst, inl, inr, codes, is_some}
use Rattle.std.specs.List.{slice_index_or}
use Rattle.std.specs.Str.{bytes_eq}
use Rattle.std.proofs.lemmas.Slice.Eq.{bytes_eq-Decides}
use Rattle.std.specs.Prelude.{Option, option_map}
use Rattle.std.specs.Option.{option_map_or}
use Rattle.clap.specs.Walk.{Row, rows_after, stop_after, Text, Walk, idle, finished, nothing_held, settled, subcommand_met, walk, walk_from, walked}
use Rattle.clap.specs.Simple.{Shape, entered, names_of}
use Rattle.clap.specs.Kinds.{IsAmong, Kinds, or_else}
use Rattle.clap.specs.Faults.{built_fault, check_fault, defaults_fault, entered_fault, settle_fault, level_fault, turn_fault, walk_fault}
use Rattle.clap.specs.declared.error.kind.ErrorKind.TheVariants.{DisplayHelp, DisplayVersion, InvalidSubcommand, MissingSubcommand, UnknownArgument}
use Rattle.clap.proofs.FaultLemmas.{past, stopped_fault}
use Rattle.clap.proofs.WalkLemmas.{walk_stopped}
use Rattle.clap.proofs.OnLiterals.{clap_on_literals}
use Rattle.gql_command.specs.CommandLine.{IsHelpFlag, IsVersionFlag}
use Rattle.gql_command.proofs.FlagWords.{OnlyRefuses, help_has_hyphen, no_unknown, one_refusal, refused_first, stray, first_word, first_help_flag, first_version_flag, version_has_hyphen}
use Rattle.gql_command.proofs.ServeWords.{HelpsOnly, line, serve, serve_faults, serve_helps}

-- ---- the level of `pipe`

abbrev pub pipe : Shape
pipe = slice_index_or line.subs 0 line.top

abbrev pub pipe_faults : List Text → Kinds
pipe_faults words = level_fault pipe [] nothing_held words false []

-- the words after `pipe`
abbrev pub InPipe : List Text → Kinds → Type 0
InPipe words kinds = ((kinds ≡ []) × ((words ≡ []) ⊎ (words ≡ codes "--" ∷ [])))
    ⊎ (((flag : Text) × (rest : List Text) × IsHelpFlag flag × (words ≡ flag ∷ rest) × (kinds ≡ DisplayHelp ∷ []))
    ⊎ OnlyRefuses kinds)

pipe_alone : pipe_faults [] ≡ []
unfolding clap_on_literals
pipe_alone = refl

pipe_ended : pipe_faults (codes "--" ∷ []) ≡ []
unfolding clap_on_literals
pipe_ended = refl

pipe_value : (w : Text) (ws : List Text) → pipe_faults (codes "--" ∷ w ∷ ws) ≡ UnknownArgument ∷ []
unfolding clap_on_literals
pipe_value w ws = refl

pipe_first : (w : Text) (ws : List Text) → turn_fault pipe [] (walk_from nothing_held) w ≡ DisplayHelp ∷ [] → pipe_faults (w ∷ ws) ≡ DisplayHelp ∷ []
unfolding walk_fault
pipe_first w ws e = rw e refl

pipe_refused : (w : Text) (ws : List Text) → OnlyRefuses (turn_fault pipe [] (walk_from nothing_held) w) → OnlyRefuses (pipe_faults (w ∷ ws))
unfolding walk_fault
pipe_refused w ws r = refused_first _ _ (refused_first _ _ r)

-- the words after `pipe` are none or `--`, or begin with a flag for help, or are refused
pub in_pipe : (words : List Text) → InPipe words (pipe_faults words)
in_pipe [] = inl (pipe_alone, inl refl)
in_pipe (w ∷ ws) = go (bytes_eq w (codes "--")) refl
  where
    ended : (rest : List Text) → InPipe (codes "--" ∷ rest) (pipe_faults (codes "--" ∷ rest))
    ended [] = inl (pipe_ended, inr refl)
    ended (v ∷ vs) = inr (inr (rw (pipe_value v vs) no_unknown))

    go : (b : Bool) → bytes_eq w (codes "--") ≡ b → InPipe (w ∷ ws) (pipe_faults (w ∷ ws))
    go true e = subst (λ (t : Text). InPipe (t ∷ ws) (pipe_faults (t ∷ ws))) (sym ((bytes_eq-Decides _ _).0 e)) (ended ws)
    go false e = elim (first_word false pipe [] w refl e) [
      | inl (inl p) ↦ inr (inl (w, ws, p.0, refl, pipe_first w ws p.1))
      | inl (inr p) ↦ (let never : false ≡ true = p.0.0 in cc)
      | inr r ↦ inr (inr (pipe_refused w ws r))
    ]

-- ---- the level of the program

abbrev pub line_faults : List Text → Kinds
line_faults words = built_fault line nothing_held words

or_nothing_else : (ks : Kinds) → or_else ks [] ≡ ks
or_nothing_else [] = refl
or_nothing_else (k ∷ ks) = refl

-- the faults that come after the walk over the program's own words
abbrev after_walk : Walk → Kinds
after_walk w = or_else (entered_fault line w.stopped) (or_else (settle_fault line.top.rules line.top.args_override_self w.held)
    (or_else (defaults_fault (settled line.top.rules w.held).rows line.top.rules)
    (check_fault line.top (finished line.top.rules w.held) (is_some (entered line w.stopped)))))

-- the walk stops at a subcommand, and keeps the words after it
abbrev at_word : Text → List Text → Walk
at_word name words = record (walk_from nothing_held) { stopped = Some (name, words) }

walk_at_pipe : (words : List Text) → at_word (codes "pipe") words ≡ walk line.top.rules (names_of line) nothing_held (codes "pipe" ∷ words)
unfolding walked
walk_at_pipe words = walk_stopped line.top.rules (names_of line) (walk_from nothing_held) (codes "pipe") [] words

walk_at_serve : (words : List Text) → at_word (codes "serve") words ≡ walk line.top.rules (names_of line) nothing_held (codes "serve" ∷ words)
unfolding walked
walk_at_serve words = walk_stopped line.top.rules (names_of line) (walk_from nothing_held) (codes "serve") [] words

walk_passes_pipe : (words : List Text) → walk_fault line.top (names_of line) (walk_from nothing_held) (codes "pipe" ∷ words) ≡ []
unfolding walk_fault walked
walk_passes_pipe words = stopped_fault line.top (names_of line) (walk_from nothing_held) (codes "pipe", []) words

walk_passes_serve : (words : List Text) → walk_fault line.top (names_of line) (walk_from nothing_held) (codes "serve" ∷ words) ≡ []
unfolding walk_fault walked
walk_passes_serve words = stopped_fault line.top (names_of line) (walk_from nothing_held) (codes "serve", []) words

after_pipe : (words : List Text) → after_walk (at_word (codes "pipe") words) ≡ pipe_faults words
unfolding defaults_fault
after_pipe words = or_nothing_else (pipe_faults words)

after_serve : (words : List Text) → after_walk (at_word (codes "serve") words) ≡ serve_faults words
unfolding defaults_fault
after_serve words = or_nothing_else (serve_faults words)

-- the words after `pipe` are left to it
pub enters_pipe : (words : List Text) → line_faults (codes "pipe" ∷ words) ≡ pipe_faults words
enters_pipe words = past _ _ (walk_passes_pipe words) ∙ (ap after_walk (sym (walk_at_pipe words)) ∙ after_pipe words)

-- and so are those after `serve`
pub enters_serve : (words : List Text) → line_faults (codes "serve" ∷ words) ≡ serve_faults words
enters_serve words = past _ _ (walk_passes_serve words) ∙ (ap after_walk (sym (walk_at_serve words)) ∙ after_serve words)

no_words : line_faults [] ≡ MissingSubcommand ∷ []
unfolding clap_on_literals
no_words = refl

help_word : (ws : List Text) → line_faults (codes "help" ∷ ws) ≡ DisplayHelp ∷ InvalidSubcommand ∷ []
unfolding clap_on_literals
help_word ws = refl

dash_alone : line_faults (codes "--" ∷ []) ≡ MissingSubcommand ∷ []
unfolding clap_on_literals
dash_alone = refl

dash_value : (w : Text) (ws : List Text) → line_faults (codes "--" ∷ w ∷ ws) ≡ UnknownArgument ∷ InvalidSubcommand ∷ []
unfolding clap_on_literals
dash_value w ws = refl

-- ---- what the words may ask for

-- the words ask for `pipe`
abbrev pub LinePipe : List Text → Type 0
LinePipe words = (words ≡ codes "pipe" ∷ []) ⊎ (words ≡ codes "pipe" ∷ codes "--" ∷ [])

-- they begin with `serve`
abbrev pub LineServe : List Text → Type 0
LineServe words = (rest : List Text) × (words ≡ codes "serve" ∷ rest)

-- a flag for help is the first word, or the first after `pipe` or `serve`
abbrev pub LineFlag : List Text → Type 0
LineFlag words = (flag : Text) × (rest : List Text) × IsHelpFlag flag
    × ((words ≡ flag ∷ rest) ⊎ ((words ≡ codes "pipe" ∷ flag ∷ rest) ⊎ (words ≡ codes "serve" ∷ flag ∷ rest)))

-- a flag for help is among the words after `serve`
abbrev pub LineLater : List Text → Type 0
LineLater words = (before : List Text) × (flag : Text) × (after : List Text) × IsHelpFlag flag × (words ≡ codes "serve" ∷ before ++ flag ∷ after)

-- they ask for help
abbrev pub LineHelp : List Text → Type 0
LineHelp words = LineFlag words ⊎ (((rest : List Text) × (words ≡ codes "help" ∷ rest)) ⊎ LineLater words)

-- they ask for the version
abbrev pub LineVersion : List Text → Type 0
LineVersion words = (flag : Text) × (rest : List Text) × IsVersionFlag flag × (words ≡ flag ∷ rest)

-- what the errors say of the words
abbrev pub InLine : List Text → Kinds → Type 0
InLine words kinds = (kinds ≡ [] → LinePipe words ⊎ LineServe words)
    × (IsAmong DisplayHelp kinds → LineHelp words) × (IsAmong DisplayVersion kinds → LineVersion words)

of_refusal : (words : List Text) (kinds : Kinds) → OnlyRefuses kinds → InLine words kinds
of_refusal words [] r = absurd r
of_refusal words (k ∷ ks) r = (λ e. cc, λ h. absurd (r.0 h), λ v. absurd (r.1 v))

of_help : (words : List Text) (kinds : Kinds) → LineHelp words → kinds ≡ DisplayHelp ∷ [] → InLine words kinds
of_help words kinds is e = rw e (λ e. cc, λ h. is, λ v. elim v [ inl e ↦ cc | inr none ↦ absurd none ])

of_version : (words : List Text) (kinds : Kinds) → LineVersion words → kinds ≡ DisplayVersion ∷ [] → InLine words kinds
of_version words kinds is e = rw e (λ e. cc, λ h. elim h [ inl e ↦ cc | inr none ↦ absurd none ], λ v. is)

after_pipe_word : (words : List Text) (kinds : Kinds) → InPipe words kinds → InLine (codes "pipe" ∷ words) kinds
after_pipe_word words kinds in_it = elim in_it [
  | inl p ↦ rw p.0 (
    λ e. elim p.1 [ inl f ↦ inl (inl (ap (λ l. codes "pipe" ∷ l) f)) | inr f ↦ inl (inr (ap (λ l. codes "pipe" ∷ l) f)) ],
    λ none. absurd none,
    λ none. absurd none,
  )
  | inr (inl p) ↦ of_help _ kinds (inl (p.0, p.1, p.2, inr (inl (ap (λ l. codes "pipe" ∷ l) p.3)))) p.4
  | inr (inr r) ↦ of_refusal _ kinds r
]

after_serve_word : (words : List Text) (kinds : Kinds) → HelpsOnly words kinds → InLine (codes "serve" ∷ words) kinds
after_serve_word words kinds in_it = elim in_it [
  | inl p ↦ of_help _ kinds (inr (inr (p.0.0, p.0.1, p.0.2, p.0.3, ap (λ l. codes "serve" ∷ l) p.0.4))) p.1
  | inr none ↦ (λ e. inr (words, refl), λ h. absurd (none.0 h), λ v. absurd (none.1 v))
]

line_first : (w : Text) (ws : List Text) (kinds : Kinds) → turn_fault line.top (names_of line) (walk_from nothing_held) w ≡ kinds
    → (kinds ≡ DisplayHelp ∷ []) ⊎ (kinds ≡ DisplayVersion ∷ []) → line_faults (w ∷ ws) ≡ kinds
unfolding walk_fault
line_first w ws kinds e some = elim some [ inl f ↦ rw (e, f) refl | inr f ↦ rw (e, f) refl ]

line_refused : (w : Text) (ws : List Text) → OnlyRefuses (turn_fault line.top (names_of line) (walk_from nothing_held) w) → OnlyRefuses (line_faults (w ∷ ws))
unfolding walk_fault
line_refused w ws r = refused_first _ _ (refused_first _ _ r)

names_none : (w : Text) → bytes_eq (codes "pipe") w ≡ false → bytes_eq (codes "serve") w ≡ false → bytes_eq (codes "help") w ≡ false
    → subcommand_met (names_of line) idle w ≡ None
names_none w no_pipe no_serve no_help = rw (no_pipe, no_serve, no_help) refl

no_missing : OnlyRefuses (MissingSubcommand ∷ [])
no_missing = one_refusal MissingSubcommand (λ e. cc) (λ e. cc)

after_dash : (rest : List Text) → InLine (codes "--" ∷ rest) (line_faults (codes "--" ∷ rest))
after_dash [] = of_refusal _ _ (rw dash_alone no_missing)
after_dash (v ∷ vs) = of_refusal _ _ (rw (dash_value v vs) (stray false))

of_word : (w : Text) (ws : List Text) → subcommand_met (names_of line) idle w ≡ None → bytes_eq w (codes "--") ≡ false → InLine (w ∷ ws) (line_faults (w ∷ ws))
of_word w ws none dash = elim (first_word true line.top (names_of line) w none dash) [
  | inl (inl p) ↦ of_help _ _ (inl (w, ws, p.0, inl refl)) (line_first w ws (DisplayHelp ∷ []) p.1 (inl refl))
  | inl (inr p) ↦ of_version _ _ (w, ws, p.0.1, refl) (line_first w ws (DisplayVersion ∷ []) p.1 (inr refl))
  | inr r ↦ of_refusal _ _ (line_refused w ws r)
]

of_help_word : (ws : List Text) → InLine (codes "help" ∷ ws) (line_faults (codes "help" ∷ ws))
of_help_word ws = rw (help_word ws) (
  λ e. cc,
  λ h. inr (inl (ws, refl)),
  λ v. elim v [ inl e ↦ cc | inr (inl e) ↦ cc | inr (inr none) ↦ absurd none ],
)

-- what the errors say of any words after the program's name
pub in_line : (words : List Text) → InLine words (line_faults words)
in_line [] = of_refusal _ _ (rw no_words no_missing)
in_line (w ∷ ws) = as_pipe (bytes_eq (codes "pipe") w) refl
  where
    -- the first word is this one
    is_word : (name : Text) → bytes_eq name w ≡ true → InLine (name ∷ ws) (line_faults (name ∷ ws)) → InLine (w ∷ ws) (line_faults (w ∷ ws))
    is_word name e here = subst (λ (t : Text). InLine (t ∷ ws) (line_faults (t ∷ ws))) ((bytes_eq-Decides _ _).0 e) here

    as_flag : subcommand_met (names_of line) idle w ≡ None → (b : Bool) → bytes_eq w (codes "--") ≡ b → InLine (w ∷ ws) (line_faults (w ∷ ws))
    as_flag none true e = subst (λ (t : Text). InLine (t ∷ ws) (line_faults (t ∷ ws))) (sym ((bytes_eq-Decides _ _).0 e)) (after_dash ws)
    as_flag none false e = of_word w ws none e

    as_help : bytes_eq (codes "pipe") w ≡ false → bytes_eq (codes "serve") w ≡ false → (b : Bool) → bytes_eq (codes "help") w ≡ b → InLine (w ∷ ws) (line_faults (w ∷ ws))
    as_help no_pipe no_serve true e = is_word (codes "help") e (of_help_word ws)
    as_help no_pipe no_serve false e = as_flag (names_none w no_pipe no_serve e) (bytes_eq w (codes "--")) refl

    as_serve : bytes_eq (codes "pipe") w ≡ false → (b : Bool) → bytes_eq (codes "serve") w ≡ b → InLine (w ∷ ws) (line_faults (w ∷ ws))
    as_serve no_pipe true e = is_word (codes "serve") e (rw (enters_serve ws) (after_serve_word ws _ (serve_helps ws)))
    as_serve no_pipe false e = as_help no_pipe e (bytes_eq (codes "help") w) refl

    as_pipe : (b : Bool) → bytes_eq (codes "pipe") w ≡ b → InLine (w ∷ ws) (line_faults (w ∷ ws))
    as_pipe true e = is_word (codes "pipe") e (rw (enters_pipe ws) (after_pipe_word ws _ (in_pipe ws)))
    as_pipe false e = as_serve e (bytes_eq (codes "serve") w) refl

-- ---- the other way round

-- words that ask for `pipe` have no fault
pub pipe_has_no_fault : (words : List Text) → LinePipe words → line_faults words ≡ []
pipe_has_no_fault words asks = elim asks [
  | inl e ↦ rw e (enters_pipe [] ∙ pipe_alone)
  | inr e ↦ rw e (enters_pipe (codes "--" ∷ []) ∙ pipe_ended)
]

first_help : (w : Text) (ws : List Text) → IsHelpFlag w → line_faults (w ∷ ws) ≡ DisplayHelp ∷ []
first_help w ws is =
    let at = help_has_hyphen w is in
    let none : subcommand_met (names_of line) idle w ≡ None = rw at.1 refl in
    line_first w ws (DisplayHelp ∷ []) (first_help_flag line.top (names_of line) w (refl, refl) none is) (inl refl)

first_version : (w : Text) (ws : List Text) → IsVersionFlag w → line_faults (w ∷ ws) ≡ DisplayVersion ∷ []
first_version w ws is =
    let at = version_has_hyphen w is in
    let none : subcommand_met (names_of line) idle w ≡ None = rw at.1 refl in
    line_first w ws (DisplayVersion ∷ []) (first_version_flag line.top (names_of line) w none is) (inr refl)

serve_first : (w : Text) (ws : List Text) → turn_fault serve [] (walk_from nothing_held) w ≡ DisplayHelp ∷ [] → serve_faults (w ∷ ws) ≡ DisplayHelp ∷ []
unfolding walk_fault
serve_first w ws e = rw e refl

-- words with a flag for help have that one fault
pub help_flag_faults : (words : List Text) → LineFlag words → line_faults words ≡ DisplayHelp ∷ []
help_flag_faults words asks = elim asks.3 [
  | inl e ↦ rw e (first_help asks.0 asks.1 asks.2)
  | inr (inl e) ↦ rw e (enters_pipe (asks.0 ∷ asks.1) ∙ pipe_first asks.0 asks.1 (first_help_flag pipe [] asks.0 (refl, refl) refl asks.2))
  | inr (inr e) ↦ rw e (enters_serve (asks.0 ∷ asks.1) ∙ serve_first asks.0 asks.1 (first_help_flag serve [] asks.0 (refl, refl) refl asks.2))
]

-- the same for words with a flag for the version
pub version_flag_faults : (words : List Text) → LineVersion words → line_faults words ≡ DisplayVersion ∷ []
version_flag_faults words asks = rw asks.3 (first_version asks.0 asks.1 asks.2)

-- ---- the subcommand that is entered

-- the subcommand that the words enter, and what is found for its options
abbrev pub line_entered : List Text → Option (Text × List Row)
line_entered words = entered line (stop_after line.top.rules (names_of line) words)

abbrev pub line_options : List Text → List Row
line_options words = option_map_or (λ p. p.1) (line_entered words) []

pub pipe_entered : (words : List Text) → option_map (λ p. p.0) (line_entered (codes "pipe" ∷ words)) ≡ Some (codes "pipe")
pipe_entered words = sym (ap (λ (w : Walk). option_map (λ (p : Text × List Row). p.0) (entered line w.stopped)) (walk_at_pipe words))

pub serve_entered : (words : List Text) → line_entered (codes "serve" ∷ words) ≡ Some (codes "serve", rows_after serve.rules [] words)
serve_entered words = sym (ap (λ (w : Walk). entered line w.stopped) (walk_at_serve words))

pub serve_options : (words : List Text) → line_options (codes "serve" ∷ words) ≡ rows_after serve.rules [] words
serve_options words = ap (λ (o : Option (Text × List Row)). option_map_or (λ p. p.1) o []) (serve_entered words)
