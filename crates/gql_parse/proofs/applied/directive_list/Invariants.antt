use Rattle.std.proofs.Common.{[], length}
use Rattle.gql_text.specs.declared.token.Kind.TheVariants.{At}
use Rattle.gql_grammar.specs.Symbol.{sees}
use Rattle.gql_grammar.proofs.Loops.{Going}
use Rattle.gql_parse.specs.Directives.{directive}
use Rattle.gql_parse.specs.Values.{is_constant}
use Rattle.gql_parse.proofs.applied.directive_list.Given as goal

abbrev pub invariant-directives : goal.invariant-directives
invariant-directives l = Going (sees At) (directive (is_constant l.form)) [] l.initial.cursor l.found l.cursor

abbrev pub decreases-directives : goal.decreases-directives
decreases-directives l = length l.cursor
