use Rattle.std.proofs.Common.{length}
use Rattle.gql_text.specs.declared.token.Kind.TheVariants.{Ampersand}
use Rattle.gql_grammar.specs.Symbol.{sees}
use Rattle.gql_grammar.proofs.Loops.{Going}
use Rattle.gql_parse_sdl.specs.Fields.{further_interface}
use Rattle.gql_parse_sdl.proofs.fields.interface_names.Given as goal

abbrev pub invariant-names : goal.invariant-names
invariant-names l = Going (sees Ampersand) further_interface l.initial.found l.initial.cursor l.found l.cursor

abbrev pub decreases-names : goal.decreases-names
decreases-names l = length l.cursor
