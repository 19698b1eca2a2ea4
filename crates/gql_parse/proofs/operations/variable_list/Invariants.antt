use Rattle.std.proofs.Common.{length}
use Rattle.gql_text.specs.declared.token.Kind.TheVariants.{RightParenthesis}
use Rattle.gql_grammar.specs.Symbol.{before}
use Rattle.gql_grammar.proofs.Loops.{Going}
use Rattle.gql_parse.specs.Operations.{variable_definition}
use Rattle.gql_parse.proofs.operations.variable_list.Given as goal

abbrev pub invariant-variables : goal.invariant-variables
invariant-variables l = Going (before RightParenthesis) variable_definition l.initial.found l.initial.cursor l.found l.cursor

abbrev pub decreases-variables : goal.decreases-variables
decreases-variables l = length l.cursor
