use Rattle.gql_ast.specs.declared.definition.Document.{Document}
use Rattle.gql_parse_sdl.specs.Placed as parsed
use Rattle.gql_registry.proofs.Mapped.{ok_map}
use Rattle.gql_registry.proofs.PlacedFiles.{placed_as}
use Rattle.gql_registry.proofs.sides.parse_on.Goals as goal
use Rattle.gql_verdict.specs.FileOrder.{ArePlaced}

pub returns-in-Schema-clause-refused : goal.returns-in-Schema-clause-refused
returns-in-Schema-clause-refused c = λ number place is. rw c.in-Schema.is (c.parse_sdl_within.ensures.refused number place is)

pub returns-in-Documents-clause-placed : goal.returns-in-Documents-clause-placed
returns-in-Documents-clause-placed c =
    rw c.in-Documents.is (ok_map c.parse_any_within.result
    (λ (d : Document). parsed.ArePlaced c.args.name d.definitions)
    (λ (d : Document). ArePlaced c.args.name d.definitions)
    (λ d p. placed_as c.args.name d.definitions p) c.parse_any_within.ensures.placed)

pub returns-in-Documents-clause-refused : goal.returns-in-Documents-clause-refused
returns-in-Documents-clause-refused c = λ number place is. rw c.in-Documents.is (c.parse_any_within.ensures.refused number place is)
