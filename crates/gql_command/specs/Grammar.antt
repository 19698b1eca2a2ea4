-- The grammar of the command line, as clap reads it, and the answers that follow from it.
use Rattle.std.specs.Prelude.{◌≡◌, ◌≢◌, ⊤, ℕ, pos, true, false, List, [], ◌∷◌}
use Rattle.std.specs.Prelude.{◌⊎◌, Bool, Result, Ok, Err, Some, None, codes}
use Rattle.std.specs.Option.{option_map_or}
use Rattle.std.specs.Str.Parse.{IsNumeral, digits_value, without_leading_plus}
use Rattle.clap.specs.Simple.{App, Shape, new_rule, new_shape, subcommand_of}
use Rattle.clap.specs.Walk.{Row, Rule, Text, one_of}
use Rattle.clap.specs.Kinds.{IsAmong, Kinds}
use Rattle.clap.specs.Faults.{fault_of}
use Rattle.clap.specs.declared.builder.value_parser.ValueParser.TheVariants as parser
use Rattle.clap.specs.declared.error.kind.ErrorKind.{ErrorKind}
use Rattle.clap.specs.declared.error.kind.ErrorKind.TheVariants.{DisplayHelp, DisplayVersion}
use Rattle.clap.specs.declared.error.kind.ErrorKind.TheVariants.{OutOfMemory}
use Rattle.gql_command.specs.declared.command.Command.{Command}
use Rattle.gql_command.specs.declared.command.Command.TheVariants.{Pipe, Serve}
use Rattle.gql_command.specs.declared.command.CommandFault.{CommandFault}
use Rattle.gql_command.specs.declared.command.CommandFault.TheVariants.{Help, Version, Refused}
use Rattle.gql_command.specs.declared.command.CommandFault.TheVariants.{Memory}
use Rattle.gql_command.specs.CommandLine.{IsAtOnce, IsConnections, IsPort}

-- ---- the grammar

-- an option `--NAME NUMBER`, whose number is 1 to `most`, and whether it is required
abbrev pub number_option : Text → ℕ → Bool → Rule
number_option name most needed = record (new_rule name) {
  long = Some name;
  value_names = 1;
  parser = Some (parser.Signed (pos 1) (pos most));
  required = needed;
}

-- `--port P`
abbrev pub port_option : Rule
port_option = number_option (codes "port") 65535 true

-- `--connections N`
abbrev pub connections_option : Rule
connections_option = number_option (codes "connections") 1000000 true

-- `--at-once K`, which may be left out
abbrev pub at_once_option : Rule
at_once_option = number_option (codes "at-once") 16 false

-- `serve`, with its three options
abbrev pub serve : Shape
serve = record (new_shape (codes "serve")) {
  rules = port_option ∷ connections_option ∷ at_once_option ∷ [];
}

-- `gqlreg` has no argument of its own but `-V` and `--version`, and requires a subcommand. The
-- subcommands are `pipe`, which has no argument, and `serve`. clap adds `-h`, `--help` and the
-- subcommand `help`.
abbrev pub command_line : App
command_line = record {
  top = record (new_shape (codes "gqlreg")) {
    is_leaf = false;
    subcommand_required = true;
    has_version = true;
  };
  subs = new_shape (codes "pipe") ∷ serve ∷ [];
}

-- the kinds of error that clap reports for the words; none if it accepts them
abbrev pub faults : List Text → Kinds
faults words = fault_of command_line words

-- what clap finds for each option of the subcommand that the words name
abbrev pub options : List Text → List Row
options words = option_map_or (λ p. p.1) (subcommand_of command_line words) []

-- ---- the numbers of `serve`

-- the text of the option is a numeral, which a plus may precede, and this is its number
abbrev pub GivesNumber : Text → List Row → ℕ → Type 0
GivesNumber name rows number = (text : Text) × (one_of name rows ≡ Some text)
    × IsNumeral 10 (without_leading_plus text)
    × (number ≡ digits_value 10 (without_leading_plus text))

-- the text of `--at-once` is a numeral, and this is its number; it is 16 if the option is left out
abbrev pub GivesAtOnce : List Row → ℕ → Type 0
GivesAtOnce rows at_once = ((one_of (codes "at-once") rows ≡ None) × (at_once ≡ 16))
    ⊎ GivesNumber (codes "at-once") rows at_once

-- the options have these numbers, in their ranges
abbrev pub GivesNumbers : List Row → ℕ → ℕ → ℕ → Type 0
GivesNumbers rows port connections at_once = GivesNumber (codes "port") rows port
    × GivesNumber (codes "connections") rows connections
    × GivesAtOnce rows at_once
    × IsPort port × IsConnections connections × IsAtOnce at_once

-- the options do not have all numbers in their ranges
abbrev pub LacksNumbers : List Row → Type 0
LacksNumbers rows =
    (port connections at_once : ℕ) → GivesNumbers rows port connections at_once → ⊥

-- `serve` with the numbers of its options, or a refusal if they are missing
abbrev pub ReadsNumbers : List Row → Result Command CommandFault → Type 0
ReadsNumbers rows (Ok (Serve port connections at_once)) =
    GivesNumbers rows port connections at_once
ReadsNumbers rows (Err (Refused text)) = LacksNumbers rows
ReadsNumbers rows (Err Memory) = ⊤
ReadsNumbers rows _ = ⊥

-- the fault is a refusal, or `Memory`
abbrev pub IsRefusal : CommandFault → Type 0
IsRefusal (Refused text) = ⊤
IsRefusal Memory = ⊤
IsRefusal _ = ⊥

-- ---- answers

-- an error of clap that is neither a call for help or the version nor out of memory
abbrev pub IsRefusedKind : ErrorKind → Type 0
IsRefusedKind kind = (kind ≢ DisplayHelp) × (kind ≢ DisplayVersion) × (kind ≢ OutOfMemory)

-- The result follows the grammar: a command with the numbers of its options if clap accepts the
-- words, help or the version if an error is a call for it, and a refusal only if there is another
-- error.
abbrev pub FollowsGrammar : List Text → Result Command CommandFault → Type 0
FollowsGrammar words (Ok Pipe) = faults words ≡ []
FollowsGrammar words (Ok (Serve port connections at_once)) =
    (faults words ≡ []) × GivesNumbers (options words) port connections at_once
FollowsGrammar words (Err (Help text)) = IsAmong DisplayHelp (faults words)
FollowsGrammar words (Err (Version text)) = IsAmong DisplayVersion (faults words)
FollowsGrammar words (Err (Refused text)) =
    (kind : ErrorKind) × IsRefusedKind kind × IsAmong kind (faults words)
FollowsGrammar words (Err Memory) = ⊤

-- the answer to one error of clap: the text that was asked for, or a refusal
abbrev pub IsAnswerTo : ErrorKind → CommandFault → Type 0
IsAnswerTo kind (Help text) = kind ≡ DisplayHelp
IsAnswerTo kind (Version text) = kind ≡ DisplayVersion
IsAnswerTo kind (Refused text) = IsRefusedKind kind
IsAnswerTo kind Memory = ⊤
