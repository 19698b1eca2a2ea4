-- Helper definitions for private contracts: what the option `--profile` says.
use Rattle.std.specs.Prelude.{List, [], ◌∷◌, ◌++◌, Option, Some, None}
use Rattle.clap.specs.Walk.{Text, texts}
use Rattle.gql_command.specs.Profiles.{Parts, after, options}
use Rattle.gql_command.specs.declared.profile.Found.{Found}

-- the profile that is found, and the words after it
abbrev pub parts_of : Found → Parts
parts_of found = (found.profile, texts found.words.now)

-- what a word and those after it say, where words come before: by what is found at the word
abbrev pub with_found : List Text → Text → List Text → Option Found → Parts
with_found before word words None = options (before ++ word ∷ []) words
with_found before word words (Some found) = after before (parts_of found)
