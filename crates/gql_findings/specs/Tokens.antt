-- The token at a place of a text: the same wherever the file breaks its lines, indents them, or has
-- commas and comments.
use Rattle.std.specs.Prelude.{ℕ, List, [], ◌∷◌, Bool, ◌==◌, ◌&&◌, ◌||◌, not, if◌then◌else◌, take, drop, option_map, unwrap_or, slice_get}
use Rattle.std.specs.Char.{is_ascii_digit}
use Rattle.std.specs.List.{prefix_len}
use Rattle.gql_findings.specs.Sources.{TextFile}
use Rattle.gql_findings.specs.declared.finding.Spot.{Spot}
use Rattle.gql_text.specs.Chars.{is_name_start, is_name_byte}

-- Whether a byte is still of the token that starts with the first one: a name goes on with letters,
-- digits and `_`; a number with these and dots, so that a sign in it ends it; a string to its next
-- quote. Any other token is known by its first byte.
abbrev pub goes_on : ℕ → ℕ → Bool
goes_on first b =
    if is_name_start first then is_name_byte b
    else if is_ascii_digit first || first == 45 then is_name_byte b || b == 46
    else first == 34 && not (b == 34)

-- the token at the front of a text; empty where the text is
abbrev pub token_of : List ℕ → List ℕ
token_of [] = []
token_of (b ∷ bs) = b ∷ take (prefix_len (goes_on b) bs) bs

-- the token at a place; empty where the list has no such file, or the file no such place
abbrev pub token_at : List TextFile → Spot → List ℕ
token_at sources spot =
    unwrap_or (option_map (λ s. token_of (drop spot.offset s.text))
    (slice_get sources spot.source)) []
