-- What `read_command` may answer, by the faults of the words.
use Rattle.std.proofs.Common.{◌≡◌, ◌∙◌, ◌⊎◌, ℕ, true, false, List, [], ◌∷◌, Option, Some, None, refl, sym, ap, ap₂, subst, inl, inr, codes, Ok, Err}
use Rattle.std.specs.Prelude.{Box, IfOk, Result, option_map}
use Rattle.std.specs.Option.{option_map_or}
use Rattle.std.specs.Box.{box_value}
use Rattle.clap.specs.Walk.{Row, Text, rows_after}
use Rattle.clap.specs.Simple.{App, HasMatchesOf, is_simple, subcommand_of, subcommand_rows, subcommand_rows_of}
use Rattle.clap.specs.Kinds.{HasKind, IsAmong, Kinds}
use Rattle.clap.specs.Faults.{fault_of, is_simple_and_free}
use Rattle.clap.specs.Values.{kind_of}
use Rattle.clap.specs.declared.error.Error.{Error}
use Rattle.clap.specs.declared.error.kind.ErrorKind.{ErrorKind}
use Rattle.clap.specs.declared.error.kind.ErrorKind.TheVariants.{DisplayHelp, DisplayVersion, OutOfMemory}
use Rattle.clap.specs.declared.parser.matches.ArgMatches.TheViews.{out-ArgMatches, out-SubCommand}
use Rattle.clap.specs.declared.parser.matches.ArgMatches.{ArgMatches}
use Rattle.clap.specs.Matches.{subcommand_name_of}
use Rattle.clap.specs.declared.parser.matches.SubCommand.{SubCommand}
use Rattle.clap.proofs.OnLiterals.{clap_on_literals}
use Rattle.gql_command.specs.CommandLine.{Answers, AreServeWords, Asks, BeginsWithServe, GivesOrMemory, HasHelpFlag, HasRanges, HasVersionFlag, HelpOrMemory, VersionOrMemory, arguments}
use Rattle.gql_command.specs.Grammar.{FollowsGrammar, GivesNumbers, IsAnswerTo, LacksNumbers, ReadsNumbers, command_line, faults, options}
use Rattle.gql_command.specs.declared.command.Command.{Command}
use Rattle.gql_command.specs.declared.command.Command.TheVariants.{Pipe, Serve}
use Rattle.gql_command.specs.declared.command.CommandFault.{CommandFault}
use Rattle.gql_command.specs.declared.command.CommandFault.TheVariants.{Help, Version, Refused, Memory}
use Rattle.gql_command.proofs.LineWords.{enters_serve, help_flag_faults, in_line, line_entered, line_faults, line_options, pipe_entered, pipe_has_no_fault, serve_entered, serve_options, version_flag_faults}
use Rattle.gql_command.proofs.ServeOptions.{numbers_given}
use Rattle.gql_command.proofs.ServeWords.{serve, serve_faults}
use Rattle.gql_command.proofs.PlainServe.{same_at_once, same_connections, same_port, serve_gives, serve_has_no_fault}

-- ---- clap's clauses speak of the command line

simple_and_free : is_simple_and_free command_line ≡ true
unfolding clap_on_literals
simple_and_free = refl

simple : is_simple command_line ≡ true
unfolding clap_on_literals
simple = refl

-- the command that clap was given is the one of the specs
pub at_command_line : (app : App) (words : List Text) (e : Error) → app ≡ command_line
    → (is_simple_and_free app ≡ true → HasKind (fault_of app words) e) → HasKind (faults words) e
at_command_line app words e is kinds = subst (λ (a : App). HasKind (fault_of a words) e) is (kinds (ap is_simple_and_free is ∙ simple_and_free))

-- a parse that gave matches met no fault
pub no_fault : (app : App) (words : List Text) → app ≡ command_line
    → (is_simple_and_free app ≡ true → fault_of app words ≡ []) → faults words ≡ []
no_fault app words is kinds = ap (λ (a : App). fault_of a words) (sym is) ∙ kinds (ap is_simple_and_free is ∙ simple_and_free)

-- and entered the subcommand that the words name
pub entered_of : (app : App) (words : List Text) (rows : Option (Text × List Row)) → app ≡ command_line
    → (is_simple app ≡ true → rows ≡ subcommand_of app words) → rows ≡ line_entered (arguments words)
entered_of app words rows is same = same (ap is_simple is ∙ simple) ∙ ap (λ (a : App). subcommand_of a words) is

-- ---- an error

-- words that ask for a command have no fault
asks_no_fault : (command : Command) (words : List Text) → Asks command words → faults words ≡ []
asks_no_fault Pipe words asks = pipe_has_no_fault (arguments words) asks
asks_no_fault (Serve port connections at_once) words asks = serve_has_no_fault (arguments words) port connections at_once asks.0 asks.1 asks.2 asks.3

-- an error of words with no fault is out of memory
memory_only : (e : Error) (fault : CommandFault) → HasKind [] e → IsAnswerTo (kind_of e) fault → fault ≡ Memory
memory_only e fault kinds answer = elim kinds [
  | inl memory ↦ go fault (subst (λ (k : ErrorKind). IsAnswerTo k fault) memory answer)
  | inr none ↦ absurd none
]
  where
    go : (f : CommandFault) → IsAnswerTo OutOfMemory f → f ≡ Memory
    go (Help text) t = cc
    go (Version text) t = cc
    go (Refused text) t = absurd (t.2 refl)
    go Memory t = refl

pub gives_err : (command : Command) (words : List Text) (e : Error) (fault : CommandFault) → HasKind (faults words) e → IsAnswerTo (kind_of e) fault
    → Asks command words → GivesOrMemory command (Err fault)
gives_err command words e fault kinds answer asks =
    inr (ap (λ (f : CommandFault). Err f) (memory_only e fault (subst (λ (ks : Kinds). HasKind ks e) (asks_no_fault command words asks) kinds) answer))

-- an error of words with a flag for help is help, or out of memory
pub help_err : (words : List Text) (e : Error) (fault : CommandFault) → HasKind (faults words) e → IsAnswerTo (kind_of e) fault
    → HasHelpFlag words → HelpOrMemory (Err fault)
help_err words e fault kinds answer asks = elim (subst (λ (ks : Kinds). HasKind ks e) (help_flag_faults (arguments words) asks) kinds) [
  | inl is ↦ go OutOfMemory (inl refl) fault (subst (λ (k : ErrorKind). IsAnswerTo k fault) is answer)
  | inr (inl is) ↦ go DisplayHelp (inr refl) fault (subst (λ (k : ErrorKind). IsAnswerTo k fault) is answer)
  | inr (inr none) ↦ absurd none
]
  where
    go : (k : ErrorKind) → (k ≡ OutOfMemory) ⊎ (k ≡ DisplayHelp) → (f : CommandFault) → IsAnswerTo k f → HelpOrMemory (Err f)
    go k is (Help text) t = tt
    go k is Memory t = tt
    go k is (Refused text) t = elim is [ inl e ↦ t.2 e | inr e ↦ t.0 e ]
    go k is (Version text) t = elim is [
      | inl e ↦ (let bad : DisplayVersion ≡ OutOfMemory = sym t ∙ e in cc)
      | inr e ↦ (let bad : DisplayVersion ≡ DisplayHelp = sym t ∙ e in cc)
    ]

-- and so of the version
pub version_err : (words : List Text) (e : Error) (fault : CommandFault) → HasKind (faults words) e → IsAnswerTo (kind_of e) fault
    → HasVersionFlag words → VersionOrMemory (Err fault)
version_err words e fault kinds answer asks = elim (subst (λ (ks : Kinds). HasKind ks e) (version_flag_faults (arguments words) asks) kinds) [
  | inl is ↦ go OutOfMemory (inl refl) fault (subst (λ (k : ErrorKind). IsAnswerTo k fault) is answer)
  | inr (inl is) ↦ go DisplayVersion (inr refl) fault (subst (λ (k : ErrorKind). IsAnswerTo k fault) is answer)
  | inr (inr none) ↦ absurd none
]
  where
    go : (k : ErrorKind) → (k ≡ OutOfMemory) ⊎ (k ≡ DisplayVersion) → (f : CommandFault) → IsAnswerTo k f → VersionOrMemory (Err f)
    go k is (Version text) t = tt
    go k is Memory t = tt
    go k is (Refused text) t = elim is [ inl e ↦ t.2 e | inr e ↦ t.1 e ]
    go k is (Help text) t = elim is [
      | inl e ↦ (let bad : DisplayHelp ≡ OutOfMemory = sym t ∙ e in cc)
      | inr e ↦ (let bad : DisplayHelp ≡ DisplayVersion = sym t ∙ e in cc)
    ]

-- the answer to an error follows the grammar
among_of : (k : ErrorKind) (words : List Text) (e : Error) → (OutOfMemory ≡ k → ⊥) → HasKind (faults words) e → kind_of e ≡ k → IsAmong k (faults words)
among_of k words e other kinds is = elim kinds [
  | inl memory ↦ absurd (other (sym memory ∙ is))
  | inr among ↦ subst (λ (x : ErrorKind). IsAmong x (faults words)) is among
]

pub follows_err : (words : List Text) (e : Error) (fault : CommandFault) → HasKind (faults words) e → IsAnswerTo (kind_of e) fault → FollowsGrammar words (Err fault)
follows_err words e (Help text) kinds answer = among_of DisplayHelp words e (λ x. cc) kinds answer
follows_err words e (Version text) kinds answer = among_of DisplayVersion words e (λ x. cc) kinds answer
follows_err words e (Refused text) kinds answer = elim kinds [ inl memory ↦ absurd (answer.2 memory) | inr among ↦ (kind_of e, answer, among) ]
follows_err words e Memory kinds answer = tt

-- and answers the words
pub answers_err : (words : List Text) (e : Error) (fault : CommandFault) → HasKind (faults words) e → IsAnswerTo (kind_of e) fault → Answers words (Err fault)
answers_err words e (Help text) kinds answer = (in_line (arguments words)).1 (follows_err words e (Help text) kinds answer)
answers_err words e (Version text) kinds answer = (in_line (arguments words)).2 (follows_err words e (Version text) kinds answer)
answers_err words e (Refused text) kinds answer = (
  λ command asks. elim (gives_err command words e (Refused text) kinds answer asks) [ inl bad ↦ cc | inr bad ↦ cc ],
  λ asks. help_err words e (Refused text) kinds answer asks,
  λ asks. version_err words e (Refused text) kinds answer asks,
)
answers_err words e Memory kinds answer = tt

-- ---- matches

-- words with a flag give no matches
pub help_ok : (words : List Text) → faults words ≡ [] → HasHelpFlag words → ⊥
help_ok words none asks = (let bad : DisplayHelp ∷ [] ≡ [] = sym (help_flag_faults (arguments words) asks) ∙ none in cc)

pub version_ok : (words : List Text) → faults words ≡ [] → HasVersionFlag words → ⊥
version_ok words none asks = (let bad : DisplayVersion ∷ [] ≡ [] = sym (version_flag_faults (arguments words) asks) ∙ none in cc)

-- the name of the subcommand that was entered
abbrev name_of : Option (Text × List Row) → Option Text
name_of = option_map (λ p. p.0)

-- the words enter `pipe`, or `serve` with its options
entered_pipe : (words : List Text) → Asks Pipe words → name_of (line_entered (arguments words)) ≡ Some (codes "pipe")
entered_pipe words asks = elim asks [
  | inl e ↦ ap (λ (w : List Text). name_of (line_entered w)) e ∙ pipe_entered []
  | inr e ↦ ap (λ (w : List Text). name_of (line_entered w)) e ∙ pipe_entered (codes "--" ∷ [])
]

entered_serve : (words : List Text) → BeginsWithServe words → name_of (line_entered (arguments words)) ≡ Some (codes "serve")
entered_serve words begins = ap (λ (w : List Text). name_of (line_entered w)) begins.1 ∙ ap name_of (serve_entered begins.0)

not_both : (o : Option Text) → o ≡ Some (codes "pipe") → o ≡ Some (codes "serve") → ⊥
not_both o e f = (let bad : Some (codes "pipe") ≡ Some (codes "serve") = sym e ∙ f in cc)

-- where `serve` was not entered, the words ask for `pipe`
pub pipe_ok : (words : List Text) → faults words ≡ [] → (name_of (line_entered (arguments words)) ≡ Some (codes "serve") → ⊥) → Asks Pipe words
pipe_ok words none other = elim ((in_line (arguments words)).0 none) [
  | inl pipe ↦ pipe
  | inr serve ↦ absurd (other (entered_serve words serve))
]

-- and where it was, they begin with `serve`
pub serve_ok : (words : List Text) → faults words ≡ [] → name_of (line_entered (arguments words)) ≡ Some (codes "serve") → BeginsWithServe words
serve_ok words none is = elim ((in_line (arguments words)).0 none) [
  | inl pipe ↦ absurd (not_both _ (entered_pipe words pipe) is)
  | inr serve ↦ serve
]

-- the plain words of `serve` begin with it
begins_with_serve : (words : List Text) (port connections at_once : ℕ) → AreServeWords port connections at_once words
    → (rest : List Text) × (words ≡ codes "serve" ∷ rest)
begins_with_serve words port connections at_once (inl is) = (_, is.0)
begins_with_serve words port connections at_once (inr is) = (_, is)

-- no words ask for `serve` where it was not entered
pub gives_pipe : (command : Command) (words : List Text) → (name_of (line_entered (arguments words)) ≡ Some (codes "serve") → ⊥) → Asks command words
    → GivesOrMemory command (Ok Pipe)
gives_pipe Pipe words other asks = inl refl
gives_pipe (Serve port connections at_once) words other asks = absurd (other (entered_serve words (begins_with_serve _ port connections at_once asks.0)))

-- what `serve` answers, from the options of the words
pub gives_serve : (command : Command) (words : List Text) (result : Result Command CommandFault) → name_of (line_entered (arguments words)) ≡ Some (codes "serve")
    → ReadsNumbers (options words) result → Asks command words → GivesOrMemory command result
gives_serve Pipe words result is reads asks = absurd (not_both _ (entered_pipe words asks) is)
gives_serve (Serve port connections at_once) words result is reads asks = go result reads
  where
    go : (r : Result Command CommandFault) → ReadsNumbers (options words) r → GivesOrMemory (Serve port connections at_once) r
    go (Ok Pipe) n = absurd n
    go (Ok (Serve p c k)) n =
        let given = serve_gives (arguments words) port connections at_once asks.0 asks.1 asks.2 asks.3 in
        let e = same_port (options words) p port c connections k at_once n given in
        let f = same_connections (options words) p port c connections k at_once n given in
        let g = same_at_once (options words) p port c connections k at_once n given in
        inl (ap₂ (λ x y. Ok (Serve x y k)) e f ∙ ap (λ z. Ok (Serve port connections z)) g)
    go (Err (Help text)) n = absurd n
    go (Err (Version text)) n = absurd n
    go (Err (Refused text)) n = absurd (n port connections at_once (serve_gives (arguments words) port connections at_once asks.0 asks.1 asks.2 asks.3))
    go (Err Memory) n = inr refl

-- options that the grammar takes do not lack their numbers
never_lacks : (words : List Text) → faults words ≡ [] → BeginsWithServe words → LacksNumbers (options words) → ⊥
never_lacks words none begins lacks =
    let rest = begins.0 in
    let rows : options words ≡ rows_after serve.rules [] rest = ap line_options begins.1 ∙ serve_options rest in
    let serve_none : serve_faults rest ≡ [] = sym (enters_serve rest) ∙ (sym (ap line_faults begins.1) ∙ none) in
    let given = numbers_given rest serve_none in
    lacks given.0 given.1 given.2 (subst (λ (r : List Row). GivesNumbers r given.0 given.1 given.2) (sym rows) given.3)

pub serve_ranges : (words : List Text) (result : Result Command CommandFault) → ReadsNumbers (options words) result → IfOk result HasRanges
serve_ranges words (Ok Pipe) n = tt
serve_ranges words (Ok (Serve p c k)) n = (n.3, n.4, n.5)
serve_ranges words (Err e) n = tt

pub serve_answers : (words : List Text) (result : Result Command CommandFault) → faults words ≡ [] → BeginsWithServe words
    → ReadsNumbers (options words) result → Answers words result
serve_answers words (Ok Pipe) none begins n = absurd n
serve_answers words (Ok (Serve p c k)) none begins n = begins
serve_answers words (Err (Help text)) none begins n = absurd n
serve_answers words (Err (Version text)) none begins n = absurd n
serve_answers words (Err (Refused text)) none begins n = (
  λ command asks. elim (gives_serve command words (Err (Refused text)) (entered_serve words begins) n asks) [ inl bad ↦ cc | inr bad ↦ cc ],
  help_ok words none,
  version_ok words none,
)
serve_answers words (Err Memory) none begins n = tt

pub serve_follows : (words : List Text) (result : Result Command CommandFault) → faults words ≡ [] → BeginsWithServe words
    → ReadsNumbers (options words) result → FollowsGrammar words result
serve_follows words (Ok Pipe) none begins n = absurd n
serve_follows words (Ok (Serve p c k)) none begins n = (none, n)
serve_follows words (Err (Help text)) none begins n = absurd n
serve_follows words (Err (Version text)) none begins n = absurd n
serve_follows words (Err (Refused text)) none begins n = absurd (never_lacks words none begins n)
serve_follows words (Err Memory) none begins n = tt

-- ---- what clap says of the subcommand that was entered

module _ {Z : Type 0} where
  -- its name
  pub name_is : (s : Option (Box SubCommand Z)) → option_map (λ b. (out-SubCommand (box_value b)).name.now) s ≡ name_of (subcommand_rows s)
  name_is None = refl
  name_is (Some b) = refl

-- what it found for its options
pub rows_are : (o : Option (Text × List Row)) (rows : List Row) → option_map (λ p. p.1) o ≡ Some rows → rows ≡ option_map_or (λ p. p.1) o []
rows_are None rows e = cc
rows_are (Some p) rows e = (let f : Some p.1 ≡ Some rows = e in cc)

module _ (app : App) (words : List Text) (m : ArgMatches) (is : app ≡ command_line) (matches : HasMatchesOf app words m) where
  entered_is : subcommand_rows_of m ≡ line_entered (arguments words)
  entered_is = entered_of app words (subcommand_rows_of m) is (λ e. (matches e).1)

  name_entered : subcommand_name_of m ≡ name_of (line_entered (arguments words))
  name_entered = name_is (out-ArgMatches m).subcommand ∙ ap name_of entered_is

  -- `serve` was entered where clap says so
  pub met_serve : subcommand_name_of m ≡ Some (codes "serve") → name_of (line_entered (arguments words)) ≡ Some (codes "serve")
  met_serve e = sym name_entered ∙ e

  -- and was not where clap says that
  pub met_other : (subcommand_name_of m ≡ Some (codes "serve") → false ≡ true) → name_of (line_entered (arguments words)) ≡ Some (codes "serve") → ⊥
  met_other none e = (let bad : false ≡ true = none (name_entered ∙ e) in cc)

  -- its options are those that the words give
  pub reads_options : (rows : List Row) (result : Result Command CommandFault) → option_map (λ p. p.1) (subcommand_rows_of m) ≡ Some rows
      → ReadsNumbers rows result → ReadsNumbers (options words) result
  reads_options rows result same reads =
      let at : rows ≡ options words = rows_are (line_entered (arguments words)) rows (ap (option_map (λ p. p.1)) (sym entered_is) ∙ same) in
      subst (λ (r : List Row). ReadsNumbers r result) at reads
