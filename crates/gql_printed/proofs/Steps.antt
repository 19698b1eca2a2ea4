-- The tokens of a text, from those of the rest of it.
use Rattle.std.proofs.Common.{◌≡◌, ℕ, List, [], ◌∷◌, ◌++◌, length, append_assoc, append-nil, refl, sym, subst, Bool, true, false}
use Rattle.std.specs.Prelude.{◌==◌}
use Rattle.std.proofs.Math.Seq.{drop-append_seam, take-append_seam}
use Rattle.gql_text.specs.Marks.{plain_part}
use Rattle.gql_text.specs.Lexeme.{Lexeme}
use Rattle.gql_text.specs.Lexis.{Stands, plain, Tokens, dropped, token}
use Rattle.gql_text.specs.Place.{place_after}
use Rattle.gql_text.specs.declared.token.Kind.{Kind}
use Rattle.gql_text.specs.declared.front.Part.TheVariants.{Dropped, Taken}
use Rattle.gql_text.proofs.Fronts.{none_from}
use Rattle.gql_text.proofs.Longest.{no_three}
use Rattle.gql_ast.specs.LiteralTexts.{comma_if}

-- the token of this kind and this text after these bytes
abbrev pub lexeme_at : Kind → List ℕ → List ℕ → Lexeme
lexeme_at k text front = record { kind = k; text = text; place = place_after front }

-- a token, and then the others
pub next : (k : Kind) (text front rest : List ℕ) (later : List Lexeme)
    → Stands (text ++ rest) (Taken k (length text)) → Tokens (front ++ text) rest later
    → Tokens front (text ++ rest) (lexeme_at k text front ∷ later)
next k text front rest later s t =
    subst (λ xs. Tokens front (text ++ rest) (lexeme_at k xs front ∷ later))
    (take-append_seam text rest)
    (token s (rw (take-append_seam text rest, drop-append_seam text rest) t))

-- a punctuator of one byte, whatever follows it
pub mark : (k : Kind) (b : ℕ) (front rest : List ℕ) (later : List Lexeme) → (b == 34) ≡ false
    → plain_part b rest ≡ Taken k 1 → Tokens (front ++ b ∷ []) rest later
    → Tokens front (b ∷ rest) (lexeme_at k (b ∷ []) front ∷ later)
mark k b front rest later other e t = next k (b ∷ []) front rest later
    (plain (no_three b rest other) (none_from b rest other) (sym e)) t

-- a comma or a space is no token
skip : (b : ℕ) (front rest : List ℕ) (later : List Lexeme) → (b == 34) ≡ false
    → plain_part b rest ≡ Dropped 1 → Tokens (front ++ b ∷ []) rest later
    → Tokens front (b ∷ rest) later
skip b front rest later other e t =
    dropped (plain (no_three b rest other) (none_from b rest other) (sym e)) t

pub space : (front rest : List ℕ) (later : List Lexeme) → Tokens (front ++ 32 ∷ []) rest later
    → Tokens front (32 ∷ rest) later
unfolding plain_part
space front rest later t = skip 32 front rest later refl refl t

comma : (front rest : List ℕ) (later : List Lexeme) → Tokens (front ++ 44 ∷ 32 ∷ []) rest later
    → Tokens front (44 ∷ 32 ∷ rest) later
unfolding plain_part
comma front rest later t =
    skip 44 front (32 ∷ rest) later refl refl
    (space (front ++ 44 ∷ []) rest later (rw (append_assoc front (44 ∷ []) (32 ∷ [])) t))

pub comma_skipped : (started : Bool) (front rest : List ℕ) (later : List Lexeme)
    → Tokens (front ++ comma_if started) rest later → Tokens front (comma_if started ++ rest) later
comma_skipped true front rest later t = comma front rest later t
comma_skipped false front rest later t = rw append-nil at t

-- ---- joined texts

pub apart : (front a b rest : List ℕ) (ts : List Lexeme) → Tokens (front ++ (a ++ b)) rest ts
    → Tokens ((front ++ a) ++ b) rest ts
apart front a b rest ts t = rw (append_assoc front a b) t

pub joined : (front a b rest : List ℕ) (ts : List Lexeme) → Tokens front (a ++ (b ++ rest)) ts
    → Tokens front ((a ++ b) ++ rest) ts
joined front a b rest ts t = rw (append_assoc a b rest) t
