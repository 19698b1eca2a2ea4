use Rattle.std.proofs.Common.{◌≡◌, map, string_bytes, take}
use Rattle.gql_text.specs.Lexeme.{lexeme}
use Rattle.gql_manifest.specs.Pieces.{with_blanks}
use Rattle.gql_manifest.proofs.pieces.tokens_of.Given as goal

abbrev pub invariant-loop-token : goal.invariant-loop-token
invariant-loop-token l = string_bytes l.joined ≡ with_blanks (map lexeme (take l.token-index l.token-items))
