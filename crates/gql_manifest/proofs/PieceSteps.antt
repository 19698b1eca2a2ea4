-- The definitions of a text, one after the other, and the tokens of one.
use Rattle.std.proofs.Common.{◌≡◌, ◌∙◌, [], ◌∷◌, ◌++◌, ◌+◌, ◌<◌, ◌≤◌, ℕ, List, Bor, append_assoc, append-nil, get_or, length, map, take, refl, sym, ap, subst, arith}
use Rattle.std.proofs.lemmas.List.{map-append, map_more, take_all}
use Rattle.std.proofs.lemmas.List.Concat.{flat_map-append}
use Rattle.gql_ast.specs.declared.definition.Definition.{Definition}
use Rattle.gql_text.specs.Lexeme.{Lexeme, lexeme}
use Rattle.gql_text.specs.Lexis.{IsLexed, text_limit}
use Rattle.gql_text.specs.declared.token.Token.{Token}
use Rattle.gql_manifest.specs.Origins.{place_of}
use Rattle.gql_manifest.specs.Packing.{texts_joined}
use Rattle.gql_manifest.specs.Pieces.{AreParts, Brought, HasTokens, IsPart, brought_at, next_start, with_blanks}
use Rattle.gql_manifest.specs.declared.origin.Origin.{Origin}
use Rattle.gql_manifest.specs.declared.pieces.Piece.{Piece}

-- a token and a blank
abbrev blank_after : Lexeme → List ℕ
blank_after t = t.text ++ 32 ∷ []

-- one more token
pub blanks_more : (tokens : List Token) (i : ℕ) (t : Token) (texts : List (Bor (List ℕ))) (old new : List ℕ) → i < length tokens → t ≡ get_or tokens i t → old ≡ with_blanks (map lexeme (take i tokens))
    → new ≡ old ++ texts_joined texts → texts_joined texts ≡ t.text.now ++ 32 ∷ [] → new ≡ with_blanks (map lexeme (take (i + 1) tokens))
blanks_more tokens i t texts old new within is was added joined =
    added ∙ ap (λ o. o ++ texts_joined texts) was ∙ ap (λ j. with_blanks (map lexeme (take i tokens)) ++ j) joined
    ∙ ap (λ (u : Token). with_blanks (map lexeme (take i tokens)) ++ blank_after (lexeme u)) is
    ∙ ap (λ j. with_blanks (map lexeme (take i tokens)) ++ j) (sym (append-nil (blank_after (lexeme (get_or tokens i t)))))
    ∙ sym (flat_map-append blank_after (map lexeme (take i tokens)) (lexeme (get_or tokens i t) ∷ []))
    ∙ sym (ap with_blanks (map_more lexeme tokens i t within))

-- all tokens
pub blanks_all : (text : List ℕ) (tokens items : List Token) (i : ℕ) (joined : List ℕ) → IsLexed text_limit text (map lexeme tokens) → items ≡ tokens → joined ≡ with_blanks (map lexeme (take i items)) → length items ≤ i
    → HasTokens text joined
blanks_all text tokens items i joined lexed same is past =
    (map lexeme tokens, lexed, is ∙ ap (λ (ts : List Token). with_blanks (map lexeme ts)) (take_all i items past) ∙ ap (λ (ts : List Token). with_blanks (map lexeme ts)) same)

-- these pieces are those of the definitions up to the ones that are left
abbrev pub PartsSoFar : Origin → List ℕ → List Definition → List Piece → List Definition → Type 0
PartsSoFar at text all pieces left = (rest : List Brought) → AreParts (place_of at) text left rest → AreParts (place_of at) text all (map (brought_at (place_of at)) pieces ++ rest)

-- none is done
pub parts_none : (at : Origin) (text : List ℕ) (all : List Definition) → PartsSoFar at text all [] all
parts_none at text all rest are = are

-- one more piece
pub parts_more : (at : Origin) (text : List ℕ) (all left others : List Definition) (pieces new : List Piece) (d : Definition) (p : Piece) → PartsSoFar at text all pieces left → left ≡ d ∷ others
    → IsPart (place_of at) text d (next_start text others) (brought_at (place_of at) p) → new ≡ pieces ++ p ∷ [] → PartsSoFar at text all new others
parts_more at text all left others pieces new d p old is part added rest are =
    let first : AreParts (place_of at) text left (brought_at (place_of at) p ∷ rest) = subst (λ ds. AreParts (place_of at) text ds (brought_at (place_of at) p ∷ rest)) (sym is) (part, are) in
    let same : map (brought_at (place_of at)) pieces ++ brought_at (place_of at) p ∷ rest ≡ map (brought_at (place_of at)) new ++ rest =
    sym (append_assoc (map (brought_at (place_of at)) pieces) (brought_at (place_of at) p ∷ []) rest)
    ∙ ap (λ bs. bs ++ rest) (sym (map-append (brought_at (place_of at)) pieces (p ∷ [])) ∙ ap (map (brought_at (place_of at))) (sym added)) in
    subst (AreParts (place_of at) text all) same (old (brought_at (place_of at) p ∷ rest) first)

-- no definition is left
pub none_left : (left : List Definition) → length left < 1 → left ≡ []
none_left [] few = refl
none_left (d ∷ ds) few = absurd (omega (arith, few))

-- all are done
pub parts_all : (at : Origin) (text : List ℕ) (all left : List Definition) (pieces : List Piece) → PartsSoFar at text all pieces left → left ≡ [] → AreParts (place_of at) text all (map (brought_at (place_of at)) pieces)
parts_all at text all left pieces old none =
    subst (AreParts (place_of at) text all) (append-nil (map (brought_at (place_of at)) pieces)) (old [] (subst (λ ds. AreParts (place_of at) text ds []) (sym none) tt))
