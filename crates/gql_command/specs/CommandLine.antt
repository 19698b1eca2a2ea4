-- What the words of a command line ask for, and what `read_command` returns for them.
use Rattle.std.specs.Prelude.{◌≡◌, ◌⊎◌, ◌≤◌, ⊤, ℕ, List, [], ◌∷◌, ◌++◌, Result, Ok, Err, Some}
use Rattle.std.specs.Prelude.{codes, decimal, drop, map, slice_get, String}
use Rattle.std.proofs.Common.{Global}
use Rattle.std.specs.Str.{chars}
use Rattle.clap.specs.Walk.{Text}
use Rattle.gql_command.specs.declared.command.Command.{Command}
use Rattle.gql_command.specs.declared.command.Command.TheVariants.{Pipe, Serve}
use Rattle.gql_command.specs.declared.command.CommandFault.{CommandFault}
use Rattle.gql_command.specs.declared.command.CommandFault.TheVariants.{Help, Version, Refused}
use Rattle.gql_command.specs.declared.command.CommandFault.TheVariants.{Memory}

-- the texts of the words
abbrev pub word_texts : List (String Global) → List Text
word_texts = map (λ word. word.bytes.items)

-- the words after the program's name
abbrev pub arguments : List Text → List Text
arguments = drop 1

-- ---- numbers

-- a port that `serve` takes, 1 to 65,535
abbrev pub IsPort : ℕ → Type 0
IsPort port = (1 ≤ port) × (port ≤ 65535)

-- a number of connections that `serve` takes, 1 to 1,000,000
abbrev pub IsConnections : ℕ → Type 0
IsConnections connections = (1 ≤ connections) × (connections ≤ 1000000)

-- a number of connections at one time that `serve` takes, 1 to 16
abbrev pub IsAtOnce : ℕ → Type 0
IsAtOnce at_once = (1 ≤ at_once) × (at_once ≤ 16)

-- the numbers of the command are in their ranges
abbrev pub HasRanges : Command → Type 0
HasRanges Pipe = ⊤
HasRanges (Serve port connections at_once) =
    IsPort port × IsConnections connections × IsAtOnce at_once

-- ---- what words ask for

-- `serve` with its two required options in this order, their numbers in decimal digits with no
-- leading zero
abbrev pub serve_words : ℕ → ℕ → List Text
serve_words port connections = codes "serve" ∷ codes "--port" ∷ decimal port
    ∷ codes "--connections" ∷ decimal connections ∷ []

-- these words, and then `--at-once` with its number
abbrev pub serve_at_once_words : ℕ → ℕ → ℕ → List Text
serve_at_once_words port connections at_once = codes "serve" ∷ codes "--port" ∷ decimal port
    ∷ codes "--connections" ∷ decimal connections ∷ codes "--at-once" ∷ decimal at_once ∷ []

-- the words are those of `serve`; without `--at-once`, 16 connections are served at one time
abbrev pub AreServeWords : ℕ → ℕ → ℕ → List Text → Type 0
AreServeWords port connections at_once words =
    ((words ≡ serve_words port connections) × (at_once ≡ 16))
    ⊎ (words ≡ serve_at_once_words port connections at_once)

-- the words ask for the command in its plain form: `pipe`, which `--` may end, or `serve` with
-- numbers in their ranges
abbrev pub Asks : Command → List Text → Type 0
Asks Pipe words =
    (arguments words ≡ codes "pipe" ∷ []) ⊎ (arguments words ≡ codes "pipe" ∷ codes "--" ∷ [])
Asks (Serve port connections at_once) words = AreServeWords port connections at_once
    (arguments words) × IsPort port × IsConnections connections × IsAtOnce at_once

-- the first word after the program's name is `serve`
abbrev pub BeginsWithServe : List Text → Type 0
BeginsWithServe words = (rest : List Text) × (arguments words ≡ codes "serve" ∷ rest)

-- a short flag: a hyphen (45), and a text that begins with this character
abbrev pub IsShortFlag : ℕ → Text → Type 0
IsShortFlag character word =
    (flags : Text) × (word ≡ 45 ∷ flags) × (slice_get (chars flags) 0 ≡ Some character)

-- `--help`, or a short flag that begins with `h` (104)
abbrev pub IsHelpFlag : Text → Type 0
IsHelpFlag word = (word ≡ codes "--help") ⊎ IsShortFlag 104 word

-- `--version`, or a short flag that begins with `V` (86)
abbrev pub IsVersionFlag : Text → Type 0
IsVersionFlag word = (word ≡ codes "--version") ⊎ IsShortFlag 86 word

-- the first word after the program's name, or after `pipe` or `serve`, is a flag for help
abbrev pub HasHelpFlag : List Text → Type 0
HasHelpFlag words = (flag : Text) × (rest : List Text) × IsHelpFlag flag
    × ((arguments words ≡ flag ∷ rest)
    ⊎ ((arguments words ≡ codes "pipe" ∷ flag ∷ rest)
    ⊎ (arguments words ≡ codes "serve" ∷ flag ∷ rest)))

-- the first word after the program's name is `help`; clap may refuse the words after it
abbrev pub HasHelpWord : List Text → Type 0
HasHelpWord words = (rest : List Text) × (arguments words ≡ codes "help" ∷ rest)

-- the first word after the program's name is `serve`, and some word after it is a flag for help
abbrev pub HasLaterHelpFlag : List Text → Type 0
HasLaterHelpFlag words = (before : List Text) × (flag : Text) × (after : List Text)
    × IsHelpFlag flag × (arguments words ≡ codes "serve" ∷ before ++ flag ∷ after)

-- the first word after the program's name is a flag for the version
abbrev pub HasVersionFlag : List Text → Type 0
HasVersionFlag words =
    (flag : Text) × (rest : List Text) × IsVersionFlag flag × (arguments words ≡ flag ∷ rest)

-- ---- answers

-- the words ask for no command in its plain form, and have no flag in a place where it is answered
abbrev pub AsksNothing : List Text → Type 0
AsksNothing words = ((command : Command) → Asks command words → ⊥)
    × (HasHelpFlag words → ⊥) × (HasVersionFlag words → ⊥)

-- `read_command` returns `Pipe` only if the words ask for it, `Serve` only if they begin with
-- `serve`, help or the version only if they have a flag or a word for it, and a refusal only if
-- they ask for nothing
abbrev pub Answers : List Text → Result Command CommandFault → Type 0
Answers words (Ok Pipe) = Asks Pipe words
Answers words (Ok (Serve port connections at_once)) = BeginsWithServe words
Answers words (Err (Help text)) = HasHelpFlag words ⊎ (HasHelpWord words ⊎ HasLaterHelpFlag words)
Answers words (Err (Version text)) = HasVersionFlag words
Answers words (Err (Refused text)) = AsksNothing words
Answers words (Err Memory) = ⊤

-- the result is the command, or `Memory`
abbrev pub GivesOrMemory : Command → Result Command CommandFault → Type 0
GivesOrMemory command result = (result ≡ Ok command) ⊎ (result ≡ Err Memory)

-- the result is help, or `Memory`
abbrev pub HelpOrMemory : Result Command CommandFault → Type 0
HelpOrMemory (Err (Help text)) = ⊤
HelpOrMemory (Err Memory) = ⊤
HelpOrMemory _ = ⊥

-- the result is the version, or `Memory`
abbrev pub VersionOrMemory : Result Command CommandFault → Type 0
VersionOrMemory (Err (Version text)) = ⊤
VersionOrMemory (Err Memory) = ⊤
VersionOrMemory _ = ⊥
