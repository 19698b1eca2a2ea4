use Rattle.std.proofs.Common.{List, map, subst}
use Rattle.gql_ast.specs.declared.definition.Definition.{Definition}
use Rattle.gql_manifest.proofs.PieceSteps.{none_left, parts_all}
use Rattle.gql_manifest.specs.Origins.{place_of}
use Rattle.gql_manifest.specs.Pieces.{AreParts, brought_at}
use Rattle.gql_manifest.proofs.pieces.pieces_of.Goals as goal

pub returns-clause-ok : goal.returns-clause-ok
returns-clause-ok c = (
  c.in_ok-document.document,
  c.in_ok-document.ensures.ok,
  subst (λ (ds : List Definition). AreParts (place_of c.args.at.now) c.args.text.now ds (map (brought_at (place_of c.args.at.now)) c.loop-left.pieces.items)) c.as_slice-left.ensures
      (parts_all c.args.at.now c.args.text.now c.as_slice-left.result.now c.loop-left.left.now c.loop-left.pieces.items c.loop-left.invariant (none_left c.loop-left.left.now c.in_default.len_below)),
)
