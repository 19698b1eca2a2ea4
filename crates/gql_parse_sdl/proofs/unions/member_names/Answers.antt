use Rattle.std.proofs.Common.{◌≡◌, ◌∙◌, true, false, arith}
use Rattle.gql_text.specs.declared.token.Kind.TheVariants as k
use Rattle.gql_grammar.specs.Symbol.{sees}
use Rattle.gql_grammar.proofs.Loops.{going_on, going_ends, first_began, some_fault}
use Rattle.gql_parse.specs.Names.{name}
use Rattle.gql_parse_sdl.specs.Unions.{further_member}
use Rattle.gql_grammar.proofs.Rests.{rest_then}
use Rattle.gql_parse_sdl.proofs.unions.member_names.Goals as goal

pub names-preserved : goal.names-preserved
names-preserved c =
    let more : sees k.Pipe c.names.cursor ≡ true = grind arith in
    going_on _ _ c.names.invariant more c.in_ok-further_member.ensures.value c.in_ok-further_member.ensures.rest _ c.in_ok-push-2.ensures.ok

pub returns-clause-value : goal.returns-clause-value
returns-clause-value c =
    let closed : sees k.Pipe c.names.cursor ≡ false = grind arith in
    first_began (sees k.Pipe) name further_member c.args.cursor.now c.name.new.cursor c.in_ok-name.field-0 c.push.new.self c.in_ok-name.ensures.value (grind arith) ∙ going_ends c.names.invariant closed

pub returns-in_err-further_member-clause-value : goal.returns-in_err-further_member-clause-value
returns-in_err-further_member-clause-value c =
    let more : sees k.Pipe c.names.cursor ≡ true = grind arith in
    let began = first_began (sees k.Pipe) name further_member c.args.cursor.now c.name.new.cursor c.in_ok-name.field-0 c.push.new.self c.in_ok-name.ensures.value (grind arith) in
    some_fault _ began c.names.invariant more c.in_err-further_member.field-0.0 c.further_member.new.cursor c.in_err-further_member.ensures.value c.from_residual-in_err-further_member.result c.from_residual-in_err-further_member.ensures.1

pub returns-in_err-further_member-clause-rest : goal.returns-in_err-further_member-clause-rest
returns-in_err-further_member-clause-rest c = rest_then c.further_member.ensures.rest (rest_then c.names.invariant.rest c.name.ensures.rest)

pub returns-in_err-push-2-clause-rest : goal.returns-in_err-push-2-clause-rest
returns-in_err-push-2-clause-rest c = rest_then c.further_member.ensures.rest (rest_then c.names.invariant.rest c.name.ensures.rest)
