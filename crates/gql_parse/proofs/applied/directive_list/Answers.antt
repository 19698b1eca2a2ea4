use Rattle.std.proofs.Common.{◌≡◌, true, false, arith}
use Rattle.gql_text.specs.declared.token.Kind.TheVariants as k
use Rattle.gql_grammar.specs.Symbol.{sees}
use Rattle.gql_grammar.proofs.Loops.{fault_reads, going_ends}
use Rattle.gql_parse.specs.Directives.{directives}
use Rattle.gql_parse.proofs.applied.directive_list.Goals as goal

pub returns-clause-value : goal.returns-clause-value
unfolding directives
returns-clause-value c =
    let closed : sees k.At c.directives.cursor ≡ false = grind arith in
    going_ends c.directives.invariant closed

pub returns-in_err-directive-clause-value : goal.returns-in_err-directive-clause-value
unfolding directives
returns-in_err-directive-clause-value c =
    let more : sees k.At c.directives.cursor ≡ true = grind arith in
    fault_reads c.directives.invariant more c.in_err-directive.field-0.0 c.directive.new.cursor c.in_err-directive.ensures.value c.from_residual.result c.from_residual.ensures.1
