use Rattle.std.proofs.Common.{◌≡◌, ◌∙◌, true, false, arith}
use Rattle.gql_text.specs.declared.token.Kind.TheVariants as k
use Rattle.gql_grammar.specs.Symbol.{before}
use Rattle.gql_grammar.proofs.Loops.{going_on, going_ends, some_began, some_fault}
use Rattle.gql_parse_sdl.specs.Enums.{enum_value}
use Rattle.gql_grammar.proofs.Rests.{rest_then}
use Rattle.gql_parse_sdl.proofs.enums.enum_value_list.Goals as goal

pub values-preserved : goal.values-preserved
values-preserved c =
    let more : before k.RightBrace c.values.cursor ≡ true = grind arith in
    going_on _ _ c.values.invariant more c.in_ok-enum_value-2.ensures.value c.in_ok-enum_value-2.ensures.rest _ c.in_ok-push-2.ensures.ok

pub returns-clause-value : goal.returns-clause-value
returns-clause-value c =
    let closed : before k.RightBrace c.values.cursor ≡ false = grind arith in
    some_began (before k.RightBrace) enum_value c.args.cursor.now c.enum_value.new.cursor c.in_ok-enum_value.field-0 c.push.new.self c.in_ok-enum_value.ensures.value (grind arith) ∙ going_ends c.values.invariant closed

pub returns-in_err-enum_value-2-clause-value : goal.returns-in_err-enum_value-2-clause-value
returns-in_err-enum_value-2-clause-value c =
    let more : before k.RightBrace c.values.cursor ≡ true = grind arith in
    let began = some_began (before k.RightBrace) enum_value c.args.cursor.now c.enum_value.new.cursor c.in_ok-enum_value.field-0 c.push.new.self c.in_ok-enum_value.ensures.value (grind arith) in
    some_fault _ began c.values.invariant more c.in_err-enum_value-2.field-0.0 c.enum_value-in-values.new.cursor c.in_err-enum_value-2.ensures.value c.from_residual-in_err-enum_value-2.result c.from_residual-in_err-enum_value-2.ensures.1

pub returns-in_err-enum_value-2-clause-rest : goal.returns-in_err-enum_value-2-clause-rest
returns-in_err-enum_value-2-clause-rest c = rest_then c.enum_value-in-values.ensures.rest (rest_then c.values.invariant.rest c.enum_value.ensures.rest)

pub returns-in_err-push-2-clause-rest : goal.returns-in_err-push-2-clause-rest
returns-in_err-push-2-clause-rest c = rest_then c.enum_value-in-values.ensures.rest (rest_then c.values.invariant.rest c.enum_value.ensures.rest)
