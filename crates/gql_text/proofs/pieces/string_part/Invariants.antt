use Rattle.std.proofs.Common.{◌+◌, ◌-◌, ◌≤◌, drop, length}
use Rattle.gql_text.specs.Lexis.{Run}
use Rattle.gql_text.specs.Pieces.{string_piece}
use Rattle.gql_text.specs.declared.token.Kind.TheVariants.{StringValue}
use Rattle.gql_text.specs.declared.front.Part.{Part}
use Rattle.gql_text.proofs.pieces.string_part.Given as goal

abbrev pub invariant-pieces : goal.invariant-pieces
invariant-pieces l = record {
  within : l.read ≤ length l.bytes;
  run : (p : Part) → Run string_piece StringValue (1 + l.read) (drop l.read l.bytes) p → Run string_piece StringValue 1 l.bytes p;
}

abbrev pub decreases-pieces : goal.decreases-pieces
decreases-pieces l = length l.bytes - l.read
