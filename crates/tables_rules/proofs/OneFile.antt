-- The definitions of one document file.
use Rattle.std.proofs.Common.{◌≡◌, inl, inr, ℕ, List, [], ◌∷◌, sym, subst, Contains}
use Rattle.gql_ast.specs.declared.definition.Document.{Document}
use Rattle.gql_ast.specs.FileMaps.{with_file}
use Rattle.gql_facts.specs.ListMembers.{Contains-nil, Contains-cases}
use Rattle.gql_parse_sdl.specs.Placed as parsed
use Rattle.gql_verdict.specs.FileOrder.{ArePlaced, AreFilesPlaced}

-- a file whose definitions are placed, alone
pub one_file : (name : List ℕ) (d : Document) → parsed.ArePlaced name d.definitions → AreFilesPlaced (with_file [] name d)
one_file name d p file c = elim (Contains-cases file (name, d) [] c) [
  | inl e ↦ subst (λ (g : List ℕ × Document). ArePlaced g.0 g.1.definitions) (sym e) (record { named = p.named; rising = p.rising })
  | inr t ↦ absurd (Contains-nil file t)
]

pub no_file : AreFilesPlaced []
no_file file c = absurd (Contains-nil file c)
