use Rattle.std.proofs.Common.{◌≡◌, ◌∙◌, true, false, arith}
use Rattle.gql_text.specs.declared.token.Kind.TheVariants as k
use Rattle.gql_grammar.specs.Symbol.{before}
use Rattle.gql_grammar.proofs.Loops.{going_on, going_ends, some_began, some_fault}
use Rattle.gql_parse_sdl.specs.Schemas.{root}
use Rattle.gql_grammar.proofs.Rests.{rest_then}
use Rattle.gql_parse_sdl.proofs.schema.root_list.Goals as goal

pub roots-preserved : goal.roots-preserved
roots-preserved c =
    let more : before k.RightBrace c.roots.cursor ≡ true = grind arith in
    going_on _ _ c.roots.invariant more c.in_ok-root-2.ensures.value c.in_ok-root-2.ensures.rest _ c.in_ok-push-2.ensures.ok

pub returns-clause-value : goal.returns-clause-value
returns-clause-value c =
    let closed : before k.RightBrace c.roots.cursor ≡ false = grind arith in
    some_began (before k.RightBrace) root c.args.cursor.now c.root.new.cursor c.in_ok-root.field-0 c.push.new.self c.in_ok-root.ensures.value (grind arith) ∙ going_ends c.roots.invariant closed

pub returns-in_err-root-2-clause-value : goal.returns-in_err-root-2-clause-value
returns-in_err-root-2-clause-value c =
    let more : before k.RightBrace c.roots.cursor ≡ true = grind arith in
    let began = some_began (before k.RightBrace) root c.args.cursor.now c.root.new.cursor c.in_ok-root.field-0 c.push.new.self c.in_ok-root.ensures.value (grind arith) in
    some_fault _ began c.roots.invariant more c.in_err-root-2.field-0.0 c.root-in-roots.new.cursor c.in_err-root-2.ensures.value c.from_residual-in_err-root-2.result c.from_residual-in_err-root-2.ensures.1

pub returns-in_err-root-2-clause-rest : goal.returns-in_err-root-2-clause-rest
returns-in_err-root-2-clause-rest c = rest_then c.root-in-roots.ensures.rest (rest_then c.roots.invariant.rest c.root.ensures.rest)

pub returns-in_err-push-2-clause-rest : goal.returns-in_err-push-2-clause-rest
returns-in_err-push-2-clause-rest c = rest_then c.root-in-roots.ensures.rest (rest_then c.roots.invariant.rest c.root.ensures.rest)
