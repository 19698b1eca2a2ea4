-- Levels: how many braces and brackets are open at one time, and which tokens are read before too
-- many are.
use Rattle.std.specs.Prelude.{ℕ, zero, suc, max, List, [], ◌∷◌, if◌then◌else◌}
use lib.Dec.{leb}
use Rattle.gql_text.specs.declared.token.Kind.{Kind}
use Rattle.gql_text.specs.declared.token.Kind.TheVariants.{LeftBrace, LeftBracket, RightBrace, RightBracket}
use Rattle.gql_text.specs.Lexeme.{Lexeme}

-- the predecessor of a number; 0 for 0
abbrev pub one_less : ℕ → ℕ
one_less zero = zero
one_less (suc n) = n

-- the level after a token of this kind, from the level before it: `{` and `[` open one, `}` and `]`
-- close one
abbrev pub shift : Kind → ℕ → ℕ
shift LeftBrace n = suc n
shift LeftBracket n = suc n
shift RightBrace n = one_less n
shift RightBracket n = one_less n
shift _ n = n

-- the level after the tokens, from the level before them
abbrev pub level : ℕ → List Lexeme → ℕ
level n [] = n
level n (t ∷ ts) = level (shift t.kind n) ts

-- the greatest level within the tokens, from the level before them
abbrev pub depth_from : ℕ → List Lexeme → ℕ
depth_from n [] = n
depth_from n (t ∷ ts) = max n (depth_from (shift t.kind n) ts)

-- the greatest number of `{` and `[` open at one time
abbrev pub depth : List Lexeme → ℕ
depth ts = depth_from 0 ts

-- how many braces and brackets may be open at one time: this registry's own rule
abbrev pub most_levels : ℕ
most_levels = 100

-- the tokens that are read, from the level before them: up to the first that opens level 101
abbrev pub looked_from : ℕ → List Lexeme → List Lexeme
looked_from n [] = []
looked_from n (t ∷ ts) =
    t ∷ (if leb (shift t.kind n) most_levels then looked_from (shift t.kind n) ts else [])

-- the tokens that are read: all, or those up to and including the first that opens level 101
abbrev pub looked_at : List Lexeme → List Lexeme
looked_at ts = looked_from 0 ts
