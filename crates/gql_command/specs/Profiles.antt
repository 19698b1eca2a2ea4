-- The profile that a command line asks for: this registry's own rule.
use Rattle.std.specs.Prelude.{◌≡◌, ℕ, List, [], ◌∷◌, ◌++◌, Option, Some, None, codes, bytes_eq, nat_eq, drop, if◌then◌else◌}
use Rattle.std.specs.List.{starts_with}
use Rattle.clap.specs.Walk.{Text}
use Rattle.gql_ast.specs.Profiles.{whole_numbers, october_2021}
use Rattle.gql_ast.specs.declared.profile.Profile.{Profile}

-- the profile of this name
abbrev pub profile_named : Text → Option Profile
profile_named name =
    if bytes_eq name (codes "whole-numbers") then Some whole_numbers
    else if bytes_eq name (codes "october-2021") then Some october_2021
    else None

-- the profile that a command line asks for, if it names one of them, and its other words
abbrev pub Parts : Type 0
Parts = Option Profile × List Text

-- these parts, with words before the others
abbrev pub after : List Text → Parts → Parts
after before parts = (parts.0, before ++ parts.1)

-- the words after `--profile`: the first is the name
abbrev pub named_apart : List Text → Parts
named_apart [] = (None, [])
named_apart (name ∷ words) = (profile_named name, words)

-- Words, the first of which come before others: `--profile NAME` or `--profile=NAME` is taken out of
-- the others, the first of these.
abbrev pub options : List Text → List Text → Parts
options before [] = (Some whole_numbers, before)
options before (word ∷ words) =
    if bytes_eq word (codes "--profile") then after before (named_apart words)
    else if starts_with nat_eq word (codes "--profile=")
    then after before (profile_named (drop 10 word), words)
    else options (before ++ word ∷ []) words

-- the words of a command line: the program's name, the command, and the words after it
abbrev pub split : List Text → Parts
split (program ∷ command ∷ words) = options (program ∷ command ∷ []) words
split words = (Some whole_numbers, words)
