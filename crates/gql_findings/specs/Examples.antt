-- Worked examples: the tokens at places, and marks that are paired.
use Rattle.std.specs.Prelude.{◌≡◌, [], ◌∷◌, Some, None, refl, codes}
use Rattle.gql_findings.specs.Comparing.{unpaired}
use Rattle.gql_findings.specs.Marks.{operation_mark}
use Rattle.gql_findings.specs.Sources.{TextFile}
use Rattle.gql_findings.specs.Tokens.{token_at, token_of}

-- a name
pub a_name : token_of (codes "first_2(x: 1)") ≡ codes "first_2"
a_name = refl

-- a number
pub a_number : token_of (codes "-1.5 }") ≡ codes "-1.5"
a_number = refl

-- a string, to its second quote
pub a_string : token_of (codes "\"a, b\") { c }") ≡ codes "\"a, b"
a_string = refl

-- the dots of a spread, whether a blank follows them or not
pub a_spread : token_of (codes "... Shown") ≡ token_of (codes "...Shown")
a_spread = refl

-- one text on one line, and laid out on more
abbrev pub narrow : TextFile
narrow = record { label = []; path = []; text = codes "{a{x}}" }

abbrev pub wide : TextFile
wide = record { label = []; path = []; text = codes "# two\n{\n  a { x, }\n}" }

-- the same token is at a place of the one and at a place of the other
pub laid_out : token_at (narrow ∷ []) (record { source = 0; line = 1; column = 4; offset = 3 })
    ≡ token_at (wide ∷ []) (record { source = 0; line = 3; column = 7; offset = 14 })
laid_out = refl

-- of three equal marks and one that is equal, the last two have no partner
pub last_are_alone : unpaired (operation_mark None ∷ operation_mark None ∷ operation_mark None ∷ [])
    (operation_mark None ∷ []) ≡ 1 ∷ 2 ∷ []
last_are_alone = refl

-- an operation with a name has no partner in one without
pub names_differ : unpaired (operation_mark (Some (codes "Q")) ∷ []) (operation_mark None ∷ [])
    ≡ 0 ∷ []
names_differ = refl
