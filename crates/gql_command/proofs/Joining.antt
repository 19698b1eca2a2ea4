-- A command, and the profile of its command line.
use Rattle.std.proofs.Common.{◌≡◌, ◌∙◌, ◌⊎◌, inl, inr, List, Option, Some, None, Result, Ok, Err, ap, refl, sym, subst}
use Rattle.clap.specs.Walk.{Text}
use Rattle.gql_ast.specs.declared.profile.Profile.{Profile}
use Rattle.gql_command.specs.CommandLine.{Answers}
use Rattle.gql_command.specs.Grammar.{FollowsGrammar, IsRefusal}
use Rattle.gql_command.specs.Profiled.{AnswersInProfile, IsAnswer, IsJoined, other_words, profile_in}
use Rattle.gql_command.specs.Profiles.{Parts, split}
use Rattle.gql_command.specs.declared.command.Command.{Command}
use Rattle.gql_command.specs.declared.command.CommandFault.{CommandFault}
use Rattle.gql_command.specs.declared.command.CommandFault.TheVariants as fault
use Rattle.gql_command.specs.declared.command.ProfiledCommand.{ProfiledCommand}

module _ (words : List Text) where
  -- a refusal where no profile is named
  refused : (f : CommandFault) → IsRefusal f → profile_in words ≡ None → AnswersInProfile words (Err f)
  refused (fault.Refused text) h none = inr none
  refused fault.Memory h none = tt
  refused (fault.Help text) h none = absurd h
  refused (fault.Version text) h none = absurd h

  -- a fault of the other words
  failed : (f : CommandFault) → IsAnswer (other_words words) (Err f) → AnswersInProfile words (Err f)
  failed (fault.Refused text) h = inl h
  failed fault.Memory h = tt
  failed (fault.Help text) h = h
  failed (fault.Version text) h = h

  joined : (command : Result Command CommandFault) (p : Option Profile) (result : Result ProfiledCommand CommandFault) → profile_in words ≡ p
      → IsAnswer (other_words words) command → IsJoined command p result → AnswersInProfile words result
  joined (Ok command) (Some profile) result same h j = subst (AnswersInProfile words) (sym j) (h, same)
  joined (Ok command) None (Ok c) same h j = absurd j
  joined (Ok command) None (Err f) same h j = refused f j same
  joined (Err f) p result same h j = subst (AnswersInProfile words) (sym j) (failed f h)

-- the other words are answered, and the profile is the one that is named
pub answers : (words : List Text) (p : Option Profile) (rest : List Text) → (p, rest) ≡ split words
    → (command : Result Command CommandFault) (result : Result ProfiledCommand CommandFault)
    → Answers rest command → FollowsGrammar rest command → IsJoined command p result → AnswersInProfile words result
answers words p rest is command result a g j =
    let others : rest ≡ other_words words = ap (λ (q : Parts). q.1) is in
    joined words command p result (sym (ap (λ (q : Parts). q.0) is))
    (subst (λ ws. Answers ws command) others a, subst (λ ws. FollowsGrammar ws command) others g) j
