use Rattle.std.proofs.Common.{◌≡◌, ◌∙◌, true, false, arith}
use Rattle.gql_text.specs.declared.token.Kind.TheVariants as k
use Rattle.gql_grammar.specs.Symbol.{sees}
use Rattle.gql_grammar.specs.declared.error.ParseError.TheVariants as errors
use Rattle.gql_grammar.proofs.Loops.{going_on, going_ends, first_began, some_fault}
use Rattle.gql_parse_sdl.specs.DirectiveDefinitions.{location, further_location}
use Rattle.gql_grammar.proofs.Rests.{rest_then}
use Rattle.gql_parse_sdl.proofs.directive_definition.location_names.Goals as goal

pub locations-preserved : goal.locations-preserved
locations-preserved c =
    let more : sees k.Pipe c.locations.cursor ≡ true = grind arith in
    going_on _ _ c.locations.invariant more c.in_ok-further_location.ensures.value c.in_ok-further_location.ensures.rest _ c.in_ok-push-2.ensures.ok

pub returns-clause-value : goal.returns-clause-value
returns-clause-value c =
    let closed : sees k.Pipe c.locations.cursor ≡ false = grind arith in
    first_began (sees k.Pipe) location further_location c.args.cursor.now c.location.new.cursor c.in_ok-location.field-0 c.push.new.self c.in_ok-location.ensures.value (grind arith) ∙ going_ends c.locations.invariant closed

pub returns-in_err-further_location-clause-value : goal.returns-in_err-further_location-clause-value
returns-in_err-further_location-clause-value c =
    let more : sees k.Pipe c.locations.cursor ≡ true = grind arith in
    let began = first_began (sees k.Pipe) location further_location c.args.cursor.now c.location.new.cursor c.in_ok-location.field-0 c.push.new.self c.in_ok-location.ensures.value (grind arith) in
    some_fault _ began c.locations.invariant more errors.Unexpected c.further_location.new.cursor (λ is. c.in_err-further_location.ensures.value) c.from_residual-in_err-further_location.result c.from_residual-in_err-further_location.ensures.1

pub returns-in_err-further_location-clause-rest : goal.returns-in_err-further_location-clause-rest
returns-in_err-further_location-clause-rest c = rest_then c.further_location.ensures.rest (rest_then c.locations.invariant.rest c.location.ensures.rest)

pub returns-in_err-push-2-clause-rest : goal.returns-in_err-push-2-clause-rest
returns-in_err-push-2-clause-rest c = rest_then c.further_location.ensures.rest (rest_then c.locations.invariant.rest c.location.ensures.rest)
