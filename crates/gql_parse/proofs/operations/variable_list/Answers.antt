use Rattle.std.proofs.Common.{◌≡◌, ◌∙◌, true, false, arith}
use Rattle.gql_text.specs.declared.token.Kind.TheVariants as k
use Rattle.gql_grammar.specs.Symbol.{before}
use Rattle.gql_grammar.proofs.Loops.{going_on, going_ends, some_began, some_fault}
use Rattle.gql_parse.specs.Operations.{variable_definition}
use Rattle.gql_grammar.proofs.Rests.{rest_then}
use Rattle.gql_parse.proofs.operations.variable_list.Goals as goal

pub variables-preserved : goal.variables-preserved
variables-preserved c =
    let more : before k.RightParenthesis c.variables.cursor ≡ true = grind arith in
    going_on _ _ c.variables.invariant more c.in_ok-variable_definition-2.ensures.value c.in_ok-variable_definition-2.ensures.rest _ c.in_ok-push-2.ensures.ok

pub returns-clause-value : goal.returns-clause-value
returns-clause-value c =
    let closed : before k.RightParenthesis c.variables.cursor ≡ false = grind arith in
    some_began (before k.RightParenthesis) variable_definition c.args.cursor.now c.variable_definition.new.cursor c.in_ok-variable_definition.field-0 c.push.new.self c.in_ok-variable_definition.ensures.value (grind arith) ∙ going_ends c.variables.invariant closed

pub returns-in_err-variable_definition-2-clause-value : goal.returns-in_err-variable_definition-2-clause-value
returns-in_err-variable_definition-2-clause-value c =
    let more : before k.RightParenthesis c.variables.cursor ≡ true = grind arith in
    let began = some_began (before k.RightParenthesis) variable_definition c.args.cursor.now c.variable_definition.new.cursor c.in_ok-variable_definition.field-0 c.push.new.self c.in_ok-variable_definition.ensures.value (grind arith) in
    some_fault _ began c.variables.invariant more c.in_err-variable_definition-2.field-0.0 c.variable_definition-in-variables.new.cursor c.in_err-variable_definition-2.ensures.value c.from_residual-in_err-variable_definition-2.result c.from_residual-in_err-variable_definition-2.ensures.1

pub returns-in_err-variable_definition-2-clause-rest : goal.returns-in_err-variable_definition-2-clause-rest
returns-in_err-variable_definition-2-clause-rest c = rest_then c.variable_definition-in-variables.ensures.rest (rest_then c.variables.invariant.rest c.variable_definition.ensures.rest)

pub returns-in_err-push-2-clause-rest : goal.returns-in_err-push-2-clause-rest
returns-in_err-push-2-clause-rest c = rest_then c.variable_definition-in-variables.ensures.rest (rest_then c.variables.invariant.rest c.variable_definition.ensures.rest)
