use Rattle.std.proofs.Common.{◌≡◌, ◌∙◌, sym, subst, true, false, arith}
use Rattle.gql_text.specs.declared.token.Kind.TheVariants as k
use Rattle.gql_grammar.specs.Symbol.{before}
use Rattle.gql_grammar.proofs.Loops.{going_init, going_on, going_ends, some_began, some_fault}
use Rattle.gql_parse_sdl.specs.DocumentFiles.{definition}
use Rattle.gql_grammar.proofs.Rests.{rest_then}
use Rattle.gql_parse_sdl.proofs.Placing.{Before, next_before, none_before, rising_rest}
use Rattle.gql_parse_sdl.proofs.document_file.definitions.Goals as goal

pub definitions-preserved : goal.definitions-preserved
definitions-preserved c =
    let more : before k.EndOfText c.definitions.cursor ≡ true = grind arith in (
      going_on _ _ c.definitions.invariant.0 more c.in_ok-definition-2.ensures.value c.in_ok-definition-2.ensures.rest _ c.in_ok-push-2.ensures.ok,
      rising_rest c.definitions.cursor c.definition-in-definitions.new.cursor c.in_ok-definition-2.ensures.rest c.definitions.invariant.1,
      subst (λ found. Before c.args.file.now found c.definition-in-definitions.new.cursor) (sym c.in_ok-push-2.ensures.ok)
          (next_before c.args.file.now c.definitions.found c.definitions.cursor c.definition-in-definitions.new.cursor c.in_ok-definition-2.field-0 c.definitions.invariant.1 c.definitions.invariant.2
          c.in_ok-definition-2.ensures.starts.0 c.in_ok-definition-2.ensures.starts.1 c.in_ok-definition-2.ensures.rest c.in_ok-definition-2.ensures.shorter),
    )

pub returns-clause-value : goal.returns-clause-value
returns-clause-value c =
    let closed : before k.EndOfText c.definitions.cursor ≡ false = grind arith in
    some_began (before k.EndOfText) (definition c.args.file.now) c.args.cursor.now c.definition.new.cursor c.in_ok-definition.field-0 c.push.new.self c.in_ok-definition.ensures.value (grind arith) ∙ going_ends c.definitions.invariant.0 closed

pub returns-in_err-definition-2-clause-value : goal.returns-in_err-definition-2-clause-value
returns-in_err-definition-2-clause-value c =
    let more : before k.EndOfText c.definitions.cursor ≡ true = grind arith in
    let began = some_began (before k.EndOfText) (definition c.args.file.now) c.args.cursor.now c.definition.new.cursor c.in_ok-definition.field-0 c.push.new.self c.in_ok-definition.ensures.value (grind arith) in
    some_fault _ began c.definitions.invariant.0 more c.in_err-definition-2.field-0.0 c.definition-in-definitions.new.cursor c.in_err-definition-2.ensures.value c.from_residual-in_err-definition-2.result c.from_residual-in_err-definition-2.ensures.1

pub returns-in_err-definition-2-clause-rest : goal.returns-in_err-definition-2-clause-rest
returns-in_err-definition-2-clause-rest c = rest_then c.definition-in-definitions.ensures.rest (rest_then c.definitions.invariant.0.rest c.definition.ensures.rest)

pub returns-in_err-push-2-clause-rest : goal.returns-in_err-push-2-clause-rest
returns-in_err-push-2-clause-rest c = rest_then c.definition-in-definitions.ensures.rest (rest_then c.definitions.invariant.0.rest c.definition.ensures.rest)

pub definitions-init : goal.definitions-init
definitions-init c = (
  going_init _ _ _ _,
  rising_rest c.args.cursor.now c.definition.new.cursor c.in_ok-definition.ensures.rest c.requires.rising,
  subst (λ found. Before c.args.file.now found c.definition.new.cursor) (sym c.in_ok-push.ensures.ok)
      (next_before c.args.file.now c.new-found.result c.args.cursor.now c.definition.new.cursor c.in_ok-definition.field-0 c.requires.rising
      (subst (λ found. Before c.args.file.now found c.args.cursor.now) (sym c.new-found.ensures) (none_before c.args.file.now c.args.cursor.now))
      c.in_ok-definition.ensures.starts.0 c.in_ok-definition.ensures.starts.1 c.in_ok-definition.ensures.rest c.in_ok-definition.ensures.shorter),
)
