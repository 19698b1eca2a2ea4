use Rattle.std.proofs.Common.{length}
use Rattle.gql_text.specs.declared.token.Kind.TheVariants.{RightBrace}
use Rattle.gql_grammar.specs.Symbol.{before}
use Rattle.gql_grammar.proofs.Loops.{Going}
use Rattle.gql_parse_sdl.specs.Schemas.{root}
use Rattle.gql_parse_sdl.proofs.schema.root_list.Given as goal

abbrev pub invariant-roots : goal.invariant-roots
invariant-roots l = Going (before RightBrace) root l.initial.found l.initial.cursor l.found l.cursor

abbrev pub decreases-roots : goal.decreases-roots
decreases-roots l = length l.cursor
