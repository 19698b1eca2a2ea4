use Rattle.std.proofs.Common.{length}
use Rattle.gql_text.specs.declared.token.Kind.TheVariants.{RightBrace}
use Rattle.gql_grammar.specs.Symbol.{before}
use Rattle.gql_grammar.proofs.Loops.{Going}
use Rattle.gql_parse_sdl.specs.Fields.{field}
use Rattle.gql_parse_sdl.proofs.fields.field_list.Given as goal

abbrev pub invariant-fields : goal.invariant-fields
invariant-fields l = Going (before RightBrace) field l.initial.found l.initial.cursor l.found l.cursor

abbrev pub decreases-fields : goal.decreases-fields
decreases-fields l = length l.cursor
