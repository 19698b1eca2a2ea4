use Rattle.std.proofs.Common.{◌≡◌, ◌∙◌, true, false, arith}
use Rattle.gql_text.specs.declared.token.Kind.TheVariants as k
use Rattle.gql_grammar.specs.Symbol.{before}
use Rattle.gql_grammar.proofs.Loops.{going_on, going_ends, some_began, some_fault}
use Rattle.gql_parse.specs.Directives.{argument}
use Rattle.gql_parse.specs.Values.{is_constant}
use Rattle.gql_grammar.proofs.Rests.{rest_then}
use Rattle.gql_parse.proofs.applied.argument_list.Goals as goal

pub arguments-preserved : goal.arguments-preserved
arguments-preserved c =
    let more : before k.RightParenthesis c.arguments.cursor ≡ true = grind arith in
    going_on _ _ c.arguments.invariant more c.in_ok-argument-2.ensures.value c.in_ok-argument-2.ensures.rest _ c.in_ok-push-2.ensures.ok

pub returns-clause-value : goal.returns-clause-value
returns-clause-value c =
    let closed : before k.RightParenthesis c.arguments.cursor ≡ false = grind arith in
    some_began (before k.RightParenthesis) (argument (is_constant c.args.form)) c.args.cursor.now c.argument.new.cursor c.in_ok-argument.field-0 c.push.new.self c.in_ok-argument.ensures.value (grind arith) ∙ going_ends c.arguments.invariant closed

pub returns-in_err-argument-2-clause-value : goal.returns-in_err-argument-2-clause-value
returns-in_err-argument-2-clause-value c =
    let more : before k.RightParenthesis c.arguments.cursor ≡ true = grind arith in
    let began = some_began (before k.RightParenthesis) (argument (is_constant c.args.form)) c.args.cursor.now c.argument.new.cursor c.in_ok-argument.field-0 c.push.new.self c.in_ok-argument.ensures.value (grind arith) in
    some_fault _ began c.arguments.invariant more c.in_err-argument-2.field-0.0 c.argument-in-arguments.new.cursor c.in_err-argument-2.ensures.value c.from_residual-in_err-argument-2.result c.from_residual-in_err-argument-2.ensures.1

pub returns-in_err-argument-2-clause-rest : goal.returns-in_err-argument-2-clause-rest
returns-in_err-argument-2-clause-rest c = rest_then c.argument-in-arguments.ensures.rest (rest_then c.arguments.invariant.rest c.argument.ensures.rest)

pub returns-in_err-push-2-clause-rest : goal.returns-in_err-push-2-clause-rest
returns-in_err-push-2-clause-rest c = rest_then c.argument-in-arguments.ensures.rest (rest_then c.arguments.invariant.rest c.argument.ensures.rest)
