-- Verdicts as readers of keys.
use Rattle.std.specs.Prelude.{List, map}
use Rattle.gql_ast.specs.Trees.{id_of}
use Rattle.gql_readers.specs.Readers.{Reader}
use Rattle.gql_verdict.specs.Verdicts.{Judgement}

-- a verdict, by its definition and the answers that it observed
abbrev pub reader_of : Judgement → Reader
reader_of v = record { id = id_of v.def; answers = v.answers }

-- the readers that verdicts are
abbrev pub readers : List Judgement → List Reader
readers vs = map reader_of vs
