use Rattle.std.proofs.Common.{◌+◌, ◌-◌, ◌≤◌, drop, length}
use Rattle.gql_text.specs.Lexis.{Run}
use Rattle.gql_text.specs.Pieces.{block_piece}
use Rattle.gql_text.specs.declared.token.Kind.TheVariants.{BlockString}
use Rattle.gql_text.specs.declared.front.Part.{Part}
use Rattle.gql_text.proofs.pieces.block_part.Given as goal

abbrev pub invariant-pieces : goal.invariant-pieces
invariant-pieces l = record {
  within : l.read ≤ length l.bytes;
  run : (p : Part) → Run block_piece BlockString (3 + l.read) (drop l.read l.bytes) p → Run block_piece BlockString 3 l.bytes p;
}

abbrev pub decreases-pieces : goal.decreases-pieces
decreases-pieces l = length l.bytes - l.read
