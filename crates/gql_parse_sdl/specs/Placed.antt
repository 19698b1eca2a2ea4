-- The places of the definitions of a file.
use Rattle.std.specs.Prelude.{◌≡◌, ◌<◌, ℕ, List, Contains}
use Rattle.std.specs.List.{AllPairs}
use Rattle.gql_text.specs.Lexeme.{Lexeme}
use Rattle.gql_ast.specs.Trees.{id_of}
use Rattle.gql_ast.specs.declared.definition.Definition.{Definition}

-- the definitions have the name of this file, and their offsets rise
pub record ArePlaced (name : List ℕ) (definitions : List Definition) : Type 0 where
  pub named : (d : Definition) → Contains definitions d → d.file ≡ name
  pub rising : AllPairs (λ (d e : Definition). (id_of d).offset < (id_of e).offset) definitions

-- the offsets of the tokens rise
abbrev pub Rising : List Lexeme → Type 0
Rising = AllPairs (λ (t u : Lexeme). t.place.offset < u.place.offset)
