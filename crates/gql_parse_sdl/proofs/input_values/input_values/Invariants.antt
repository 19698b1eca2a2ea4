use Rattle.std.proofs.Common.{length}
use Rattle.gql_grammar.specs.Symbol.{before}
use Rattle.gql_grammar.proofs.Loops.{Going}
use Rattle.gql_parse_sdl.specs.InputValues.{input_value}
use Rattle.gql_parse_sdl.proofs.input_values.input_values.Given as goal

abbrev pub invariant-values : goal.invariant-values
invariant-values l = Going (before l.close) input_value l.initial.found l.initial.cursor l.found l.cursor

abbrev pub decreases-values : goal.decreases-values
decreases-values l = length l.cursor
