use Rattle.std.proofs.Common.{◌≡◌, ◌≤◌, ◌++◌, map, take, drop}
use lib.Dec.{leb}
use Rattle.gql_text.specs.Lexeme.{lexeme}
use Rattle.gql_grammar.specs.Levels.{depth_from, looked_from, most_levels}
use Rattle.gql_grammar.proofs.file.look.Given as goal

abbrev pub invariant-tokens : goal.invariant-tokens
invariant-tokens l = record {
  bounded : l.level ≤ 100;
  looked : looked_from 0 (map lexeme l.tokens) ≡ map lexeme (take l.i l.tokens) ++ looked_from l.level (map lexeme (drop l.i l.tokens));
  depth : leb (depth_from 0 (map lexeme l.tokens)) most_levels ≡ leb (depth_from l.level (map lexeme (drop l.i l.tokens))) most_levels;
}
