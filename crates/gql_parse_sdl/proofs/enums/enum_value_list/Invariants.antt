use Rattle.std.proofs.Common.{length}
use Rattle.gql_text.specs.declared.token.Kind.TheVariants.{RightBrace}
use Rattle.gql_grammar.specs.Symbol.{before}
use Rattle.gql_grammar.proofs.Loops.{Going}
use Rattle.gql_parse_sdl.specs.Enums.{enum_value}
use Rattle.gql_parse_sdl.proofs.enums.enum_value_list.Given as goal

abbrev pub invariant-values : goal.invariant-values
invariant-values l = Going (before RightBrace) enum_value l.initial.found l.initial.cursor l.found l.cursor

abbrev pub decreases-values : goal.decreases-values
decreases-values l = length l.cursor
