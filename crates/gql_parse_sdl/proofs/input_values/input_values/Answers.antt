use Rattle.std.proofs.Common.{◌≡◌, ◌∙◌, true, false, arith}
use Rattle.gql_grammar.specs.Symbol.{before}
use Rattle.gql_grammar.proofs.Loops.{going_on, going_ends, some_began, some_fault}
use Rattle.gql_parse_sdl.specs.InputValues.{input_value}
use Rattle.gql_grammar.proofs.Rests.{rest_then}
use Rattle.gql_parse_sdl.proofs.input_values.input_values.Goals as goal

pub values-preserved : goal.values-preserved
values-preserved c =
    let more : before c.args.close c.values.cursor ≡ true = grind arith in
    going_on _ _ c.values.invariant more c.in_ok-input_value-2.ensures.value c.in_ok-input_value-2.ensures.rest _ c.in_ok-push-2.ensures.ok

pub returns-clause-value : goal.returns-clause-value
returns-clause-value c =
    let closed : before c.args.close c.values.cursor ≡ false = grind arith in
    some_began (before c.args.close) input_value c.args.cursor.now c.input_value.new.cursor c.in_ok-input_value.field-0 c.push.new.self c.in_ok-input_value.ensures.value (grind arith) ∙ going_ends c.values.invariant closed

pub returns-in_err-input_value-2-clause-value : goal.returns-in_err-input_value-2-clause-value
returns-in_err-input_value-2-clause-value c =
    let more : before c.args.close c.values.cursor ≡ true = grind arith in
    let began = some_began (before c.args.close) input_value c.args.cursor.now c.input_value.new.cursor c.in_ok-input_value.field-0 c.push.new.self c.in_ok-input_value.ensures.value (grind arith) in
    some_fault _ began c.values.invariant more c.in_err-input_value-2.field-0.0 c.input_value-in-values.new.cursor c.in_err-input_value-2.ensures.value c.from_residual-in_err-input_value-2.result c.from_residual-in_err-input_value-2.ensures.1

pub returns-in_err-input_value-2-clause-rest : goal.returns-in_err-input_value-2-clause-rest
returns-in_err-input_value-2-clause-rest c = rest_then c.input_value-in-values.ensures.rest (rest_then c.values.invariant.rest c.input_value.ensures.rest)

pub returns-in_err-push-2-clause-rest : goal.returns-in_err-push-2-clause-rest
returns-in_err-push-2-clause-rest c = rest_then c.input_value-in-values.ensures.rest (rest_then c.values.invariant.rest c.input_value.ensures.rest)
