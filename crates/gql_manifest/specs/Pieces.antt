-- The definitions of the text of an operation, each with the part of the text that it is.
use Rattle.std.specs.Prelude.{ℕ, ◌≡◌, ◌++◌, ◌∷◌, ◌⊎◌, ⊤, [], List, codes, length, slice_range, string_bytes}
use Rattle.std.specs.List.{flat_map}
use Rattle.std.specs.Str.{trim_end}
use Rattle.gql_ast.specs.Trees as trees
use Rattle.gql_ast.specs.declared.definition.Definition.{Definition}
use Rattle.gql_ast.specs.declared.definition.Document.{Document}
use Rattle.gql_ast.specs.declared.definition.Tree.{Tree}
use Rattle.gql_grammar.specs.Files.{number_of}
use Rattle.gql_grammar.specs.declared.fault.SyntaxFault.{SyntaxFault}
use Rattle.gql_grammar.specs.declared.fault.SyntaxFault.TheVariants as syntax
use Rattle.gql_grammar.specs.declared.fault.SyntaxRefusal.{SyntaxRefusal}
use Rattle.gql_parse_sdl.specs.DocumentFiles.{IsDocumentFault, IsDocumentFile}
use Rattle.gql_text.specs.Lexeme.{Lexeme}
use Rattle.gql_text.specs.Lexis.{IsLexed, text_limit}
use Rattle.gql_text.specs.declared.place.Place as spots
use Rattle.gql_manifest.specs.Origins.{Place, place_of}
use Rattle.gql_manifest.specs.declared.fault.ManifestFault.{ManifestFault}
use Rattle.gql_manifest.specs.declared.fault.ManifestFault.TheVariants.{Memory, Refused}
use Rattle.gql_manifest.specs.declared.pieces.Piece as code

-- a definition that an operation of a manifest brings: the operation, the definition's tree and
-- text, and its tokens
pub record Brought : Type 0 where
  pub place : Place
  pub tree : Tree
  pub text : List ℕ
  pub tokens : List ℕ

-- what the code has of a definition that the operation at this place brings
abbrev pub brought_at : Place → code.Piece → Brought
brought_at place piece = record {
  place = place;
  tree = piece.tree;
  text = piece.bytes.now;
  tokens = string_bytes piece.tokens;
}

-- the offset where a definition begins
abbrev pub start_of : Definition → ℕ
start_of d = (trees.place_of d.tree).offset

-- the offset where the first of some definitions begins, or if there is none the end of the text
abbrev pub next_start : List ℕ → List Definition → ℕ
next_start text [] = length text
next_start text (d ∷ ds) = start_of d

-- the part of a text between two offsets, without white space at its end
abbrev pub part_of : List ℕ → ℕ → ℕ → List ℕ
part_of text start end = trim_end (slice_range text start end)

-- the tokens with a blank after each, so that two definitions with the same tokens mean the same
abbrev pub with_blanks : List Lexeme → List ℕ
with_blanks = flat_map (λ (t : Lexeme). t.text ++ 32 ∷ [])

-- the text has these tokens
abbrev pub HasTokens : List ℕ → List ℕ → Type 0
HasTokens text tokens = (ts : List Lexeme) × IsLexed text_limit text ts × (tokens ≡ with_blanks ts)

-- the definition is brought by the operation at this place, and its text is the part of the
-- operation's text from its first token to this offset, word for word
pub record IsPart (place : Place) (text : List ℕ) (d : Definition) (end : ℕ) (b : Brought)
    : Type 0 where
  pub place_is : b.place ≡ place
  pub tree_is : b.tree ≡ d.tree
  pub text_is : b.text ≡ part_of text (start_of d) end
  pub tokens_are : HasTokens b.text b.tokens

-- each of the definitions is brought, in their order, with its text up to the next one
abbrev pub AreParts : Place → List ℕ → List Definition → List Brought → Type 0
AreParts place text [] [] = ⊤
AreParts place text [] (b ∷ bs) = ⊥
AreParts place text (d ∷ ds) [] = ⊥
AreParts place text (d ∷ ds) (b ∷ bs) =
    IsPart place text d (next_start text ds) b × AreParts place text ds bs

-- the name that a text has for the parser
abbrev pub parsed_as : List ℕ
parsed_as = codes "manifest"

-- the text of the operation at this place is a document, and brings these definitions
abbrev pub Brings : Place → List ℕ → List Brought → Type 0
Brings place text brought = (document : Document)
    × IsDocumentFile text_limit parsed_as text document
    × AreParts place text document.definitions brought

-- the fault gives the operation at this place, and where in its text the parser refuses it, by
-- which number
abbrev pub SaysRefused : Place → SyntaxRefusal → spots.Place → ManifestFault → Type 0
SaysRefused place refusal spot (Refused a line column number) = (place_of a ≡ place)
    × (line ≡ spot.line) × (column ≡ spot.column) × (number ≡ number_of refusal)
SaysRefused place refusal spot _ = ⊥

-- the same, for what the parser answers
abbrev pub SaysFault : Place → SyntaxFault → ManifestFault → Type 0
SaysFault place (syntax.At refusal spot) fault = SaysRefused place refusal spot fault
SaysFault place syntax.Memory fault = ⊥

-- the text of the operation at this place is no document, and the fault says so
abbrev pub IsTextFault : Place → List ℕ → ManifestFault → Type 0
IsTextFault place text fault = (f : SyntaxFault) × IsDocumentFault text_limit parsed_as text f
    × SaysFault place f fault

-- an allocation fails, or it is a fault of this kind
abbrev pub OrMemory : (ManifestFault → Type 0) → ManifestFault → Type 0
OrMemory IsFault fault = (fault ≡ Memory) ⊎ IsFault fault
