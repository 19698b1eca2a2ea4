use Rattle.std.proofs.Common.{◌≡◌, ◌<◌, ◌+◌, ◌∙◌, ℕ, List, length, get_or, drop, map, false, sym, subst}
use lib.Dec.{leb}
use Rattle.gql_text.specs.Lexeme.{lexeme}
use Rattle.gql_text.specs.declared.token.Token.{Token}
use Rattle.gql_grammar.specs.Levels.{depth_from, most_levels, shift}
use Rattle.gql_grammar.proofs.Cursors.{at_token}
use Rattle.gql_grammar.proofs.Levels.{deep_here}
use Rattle.gql_grammar.proofs.file.look.Goals as goal

too_many : (ts : List Token) (i n m : ℕ) (d : Token) → i < length ts → m ≡ shift (get_or ts i d).kind n → most_levels < m → leb (depth_from n (map lexeme (drop i ts))) most_levels ≡ false
too_many ts i n m d h is more =
    let here : most_levels < shift (lexeme (get_or ts i d)).kind n = subst (λ k. most_levels < k) is more in
    rw (at_token ts i d h) (deep_here n (lexeme (get_or ts i d)) (map lexeme (drop (i + 1) ts)) here)

pub returns-then-level-gt-MAX_LEVELS-clause-shallow : goal.returns-then-level-gt-MAX_LEVELS-clause-shallow
returns-then-level-gt-MAX_LEVELS-clause-shallow c =
    sym (c.tokens.invariant.depth ∙ too_many c.args.tokens.now c.tokens.i c.tokens.level c.shifted-level.result _ c.tokens-test.true c.shifted-level.ensures c.if-level-gt-MAX_LEVELS.true)
