use Rattle.std.proofs.Common.{◌≡◌, ◌∙◌, true, false, arith}
use Rattle.gql_text.specs.declared.token.Kind.TheVariants as k
use Rattle.gql_grammar.specs.Symbol.{before}
use Rattle.gql_grammar.proofs.Loops.{some_fault}
use Rattle.gql_grammar.proofs.Rests.{rest_then}
use Rattle.gql_parse.proofs.Stacked.{stacked_began, stacked_ends, stacked_init, stacked_left, stacked_on, stacked_size}
use Rattle.gql_parse.proofs.selections.+set.Goals as goal

pub selections_over-selections-init : goal.selections_over-selections-init
selections_over-selections-init t c = stacked_init _ _ _ _ _ _ c.in_ok-push_selection.ensures.value c.in_ok-push_selection.ensures.rest

pub selections_over-selections-preserved : goal.selections_over-selections-preserved
selections_over-selections-preserved t c =
    let more : before k.RightBrace c.selections.cursor ≡ true = grind arith in
    stacked_on c.selections.invariant more _ _ c.in_ok-push_selection-2.ensures.value c.in_ok-push_selection-2.ensures.rest

pub selections_over-split_off-requires : goal.selections_over-split_off-requires
selections_over-split_off-requires t c =
    let least = stacked_size c.selections.invariant in
    grind arith

pub selections_over-returns-clause-value : goal.selections_over-returns-clause-value
selections_over-returns-clause-value t c =
    let closed : before k.RightBrace c.selections.cursor ≡ false = grind arith in
    stacked_ends c.selections.invariant closed _ _ (grind arith) (c.from_vec.ensures ∙ c.in_ok-split_off.ensures.tail)

pub selections_over-returns-clause-shorter : goal.selections_over-returns-clause-shorter
selections_over-returns-clause-shorter t c = c.selections.invariant.shorter

pub selections_over-returns-clause-rest : goal.selections_over-returns-clause-rest
selections_over-returns-clause-rest t c = c.selections.invariant.rest

pub selections_over-returns-clause-stack : goal.selections_over-returns-clause-stack
selections_over-returns-clause-stack t c = stacked_left c.selections.invariant _ _ (grind arith) c.in_ok-split_off.ensures.items

pub selections_over-returns-in_err-split_off-clause-rest : goal.selections_over-returns-in_err-split_off-clause-rest
selections_over-returns-in_err-split_off-clause-rest t c = c.selections.invariant.rest

pub selections_over-returns-in_err-push_selection-2-clause-value : goal.selections_over-returns-in_err-push_selection-2-clause-value
selections_over-returns-in_err-push_selection-2-clause-value t c =
    let more : before k.RightBrace c.selections.cursor ≡ true = grind arith in
    some_fault _ (stacked_began c.selections.invariant) c.selections.invariant.going more c.in_err-push_selection-2.field-0.0 c.push_selection-in-selections.new.cursor c.in_err-push_selection-2.ensures.value c.from_residual-in_err-push_selection-2.result c.from_residual-in_err-push_selection-2.ensures.1

pub selections_over-returns-in_err-push_selection-2-clause-rest : goal.selections_over-returns-in_err-push_selection-2-clause-rest
selections_over-returns-in_err-push_selection-2-clause-rest t c = rest_then c.push_selection-in-selections.ensures.rest c.selections.invariant.rest

pub push_field-returns-in_err-selections-clause-rest : goal.push_field-returns-in_err-selections-clause-rest
push_field-returns-in_err-selections-clause-rest t c = rest_then c.optional_set.ensures.rest (rest_then c.directives.ensures.rest (rest_then c.optional_arguments.ensures.rest c.names.ensures.rest))

pub push_field-returns-in_err-push-clause-rest : goal.push_field-returns-in_err-push-clause-rest
push_field-returns-in_err-push-clause-rest t c = rest_then c.optional_set.ensures.rest (rest_then c.directives.ensures.rest (rest_then c.optional_arguments.ensures.rest c.names.ensures.rest))

pub push_field-returns-clause-rest : goal.push_field-returns-clause-rest
push_field-returns-clause-rest t c = rest_then c.optional_set.ensures.rest (rest_then c.directives.ensures.rest (rest_then c.optional_arguments.ensures.rest c.names.ensures.rest))
