use Rattle.std.proofs.Common.{drop, length-drop}
use Rattle.gql_text.specs.Lexis.{Stands}
use Rattle.gql_text.proofs.Steps.{stood}
use Rattle.gql_text.proofs.Fitting.{stands_fits}
use Rattle.gql_text.proofs.Cuts.{cut_behind}
use Rattle.gql_text.proofs.lexer.part_at.Goals as goal
use Rattle.gql_text.proofs.lexer.part_at.Goals.{After-first_part}

stands : (c : After-first_part) → Stands (drop c.args.offset c.args.source.now) c.first_part.result
stands c = stood c.args.source.now c.args.offset _ (rw c.as_bytes.ensures.value at c.first_part.ensures)

pub returns-clause-stands : goal.returns-clause-stands
returns-clause-stands c = stands c

pub returns-clause-fits : goal.returns-clause-fits
returns-clause-fits c = rw length-drop at (stands_fits (stands c))

pub returns-clause-cuts : goal.returns-clause-cuts
returns-clause-cuts c = cut_behind c.args.source.now c.args.offset _ c.utf8.source c.requires.cut (stands c)
