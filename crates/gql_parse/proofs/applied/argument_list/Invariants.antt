use Rattle.std.proofs.Common.{length}
use Rattle.gql_text.specs.declared.token.Kind.TheVariants.{RightParenthesis}
use Rattle.gql_grammar.specs.Symbol.{before}
use Rattle.gql_grammar.proofs.Loops.{Going}
use Rattle.gql_parse.specs.Directives.{argument}
use Rattle.gql_parse.specs.Values.{is_constant}
use Rattle.gql_parse.proofs.applied.argument_list.Given as goal

abbrev pub invariant-arguments : goal.invariant-arguments
invariant-arguments l = Going (before RightParenthesis) (argument (is_constant l.form)) l.initial.found l.initial.cursor l.found l.cursor

abbrev pub decreases-arguments : goal.decreases-arguments
decreases-arguments l = length l.cursor
