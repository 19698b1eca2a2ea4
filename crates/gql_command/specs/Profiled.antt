-- What `read_profiled_command` returns for the words of a command line.
use Rattle.std.specs.Prelude.{◌≡◌, ◌⊎◌, ⊤, List, Result, Ok, Err, Option, Some, None}
use Rattle.clap.specs.Walk.{Text}
use Rattle.gql_ast.specs.declared.profile.Profile.{Profile}
use Rattle.gql_command.specs.CommandLine.{Answers, Asks}
use Rattle.gql_command.specs.Grammar.{FollowsGrammar, IsRefusal}
use Rattle.gql_command.specs.Profiles.{split}
use Rattle.gql_command.specs.declared.command.Command.{Command}
use Rattle.gql_command.specs.declared.command.CommandFault.{CommandFault}
use Rattle.gql_command.specs.declared.command.CommandFault.TheVariants.{Help, Version, Refused, Memory}
use Rattle.gql_command.specs.declared.command.ProfiledCommand.{ProfiledCommand}

-- the profile that the words ask for, if they name one of them
abbrev pub profile_in : List Text → Option Profile
profile_in words = (split words).0

-- the words without the option `--profile`
abbrev pub other_words : List Text → List Text
other_words words = (split words).1

-- `read_command` may return this for the words
abbrev pub IsAnswer : List Text → Result Command CommandFault → Type 0
IsAnswer words result = Answers words result × FollowsGrammar words result

-- The words without the option are answered as `read_command` answers them. A command has the profile
-- that is named; it is refused where no profile has that name.
abbrev pub AnswersInProfile : List Text → Result ProfiledCommand CommandFault → Type 0
AnswersInProfile words (Ok c) =
    IsAnswer (other_words words) (Ok c.command) × (profile_in words ≡ Some c.profile)
AnswersInProfile words (Err (Refused text)) =
    IsAnswer (other_words words) (Err (Refused text)) ⊎ (profile_in words ≡ None)
AnswersInProfile words (Err Memory) = ⊤
AnswersInProfile words (Err (Help text)) = IsAnswer (other_words words) (Err (Help text))
AnswersInProfile words (Err (Version text)) = IsAnswer (other_words words) (Err (Version text))

-- the words ask for a command in its plain form, and for this profile: that is the result, or `Memory`
abbrev pub GivesInProfile : List Text → ProfiledCommand → Result ProfiledCommand CommandFault → Type 0
GivesInProfile words c result = Asks c.command (other_words words)
    → profile_in words ≡ Some c.profile → (result ≡ Ok c) ⊎ (result ≡ Err Memory)

-- a helper definition for a private contract: the command with its profile; else its fault, or a
-- refusal where there is no profile
abbrev pub IsJoined : Result Command CommandFault → Option Profile → Result ProfiledCommand CommandFault
    → Type 0
IsJoined (Ok command) (Some profile) result =
    result ≡ Ok (record { command = command; profile = profile })
IsJoined (Ok command) None (Ok c) = ⊥
IsJoined (Ok command) None (Err fault) = IsRefusal fault
IsJoined (Err fault) profile result = result ≡ Err fault
