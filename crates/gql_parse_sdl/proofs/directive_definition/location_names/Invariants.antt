use Rattle.std.proofs.Common.{length}
use Rattle.gql_text.specs.declared.token.Kind.TheVariants.{Pipe}
use Rattle.gql_grammar.specs.Symbol.{sees}
use Rattle.gql_grammar.proofs.Loops.{Going}
use Rattle.gql_parse_sdl.specs.DirectiveDefinitions.{further_location}
use Rattle.gql_parse_sdl.proofs.directive_definition.location_names.Given as goal

abbrev pub invariant-locations : goal.invariant-locations
invariant-locations l = Going (sees Pipe) further_location l.initial.found l.initial.cursor l.found l.cursor

abbrev pub decreases-locations : goal.decreases-locations
decreases-locations l = length l.cursor
