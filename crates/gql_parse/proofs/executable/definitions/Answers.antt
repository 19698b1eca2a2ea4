use Rattle.std.proofs.Common.{◌≡◌, ◌∙◌, true, false, arith}
use Rattle.gql_text.specs.declared.token.Kind.TheVariants as k
use Rattle.gql_grammar.specs.Symbol.{before}
use Rattle.gql_grammar.proofs.Loops.{going_on, going_ends, some_began, some_fault}
use Rattle.gql_parse.specs.Documents.{definition_in}
use Rattle.gql_grammar.proofs.Rests.{rest_then}
use Rattle.gql_parse.proofs.executable.definitions.Goals as goal

pub definitions-preserved : goal.definitions-preserved
definitions-preserved c =
    let more : before k.EndOfText c.definitions.cursor ≡ true = grind arith in
    going_on _ _ c.definitions.invariant more c.in_ok-definition_in-2.ensures.value c.in_ok-definition_in-2.ensures.rest _ c.in_ok-push-2.ensures.ok

pub returns-clause-value : goal.returns-clause-value
returns-clause-value c =
    let closed : before k.EndOfText c.definitions.cursor ≡ false = grind arith in
    some_began (before k.EndOfText) (definition_in c.args.file.now) c.args.cursor.now c.definition_in.new.cursor c.in_ok-definition_in.field-0 c.push.new.self c.in_ok-definition_in.ensures.value (grind arith) ∙ going_ends c.definitions.invariant closed

pub returns-in_err-definition_in-2-clause-value : goal.returns-in_err-definition_in-2-clause-value
returns-in_err-definition_in-2-clause-value c =
    let more : before k.EndOfText c.definitions.cursor ≡ true = grind arith in
    let began = some_began (before k.EndOfText) (definition_in c.args.file.now) c.args.cursor.now c.definition_in.new.cursor c.in_ok-definition_in.field-0 c.push.new.self c.in_ok-definition_in.ensures.value (grind arith) in
    some_fault _ began c.definitions.invariant more c.in_err-definition_in-2.field-0.0 c.definition_in-in-definitions.new.cursor c.in_err-definition_in-2.ensures.value c.from_residual-in_err-definition_in-2.result c.from_residual-in_err-definition_in-2.ensures.1

pub returns-in_err-definition_in-2-clause-rest : goal.returns-in_err-definition_in-2-clause-rest
returns-in_err-definition_in-2-clause-rest c = rest_then c.definition_in-in-definitions.ensures.rest (rest_then c.definitions.invariant.rest c.definition_in.ensures.rest)

pub returns-in_err-push-2-clause-rest : goal.returns-in_err-push-2-clause-rest
returns-in_err-push-2-clause-rest c = rest_then c.definition_in-in-definitions.ensures.rest (rest_then c.definitions.invariant.rest c.definition_in.ensures.rest)
