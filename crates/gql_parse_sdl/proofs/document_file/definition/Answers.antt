use Rattle.gql_parse_sdl.proofs.Starting.{any_first}
use Rattle.gql_parse_sdl.proofs.document_file.definition.Goals as goal

pub returns-clause-starts : goal.returns-clause-starts
returns-clause-starts c = (any_first _ _ _ c.in_ok-tree.ensures.value, c.in_ok-copy.ensures)
