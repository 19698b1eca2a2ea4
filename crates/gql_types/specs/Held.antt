-- Helper definitions for private contracts: parts that the code borrows.
use Rattle.gql_ast.specs.declared.type_system.TypeParts.{TypeParts}
use Rattle.gql_types.specs.declared.parts.Part.{Part}
use Rattle.gql_built_in.specs.declared.sited.Sited.{Sited}

-- borrowed parts with their file, as a value
abbrev pub one : Part → Sited TypeParts
one p = record { file = p.file.now; node = p.parts.now }
