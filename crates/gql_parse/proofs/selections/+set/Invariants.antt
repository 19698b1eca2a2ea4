use Rattle.std.proofs.Common.{◌+◌, ◌*◌, length}
use Rattle.gql_text.specs.declared.token.Kind.TheVariants.{RightBrace}
use Rattle.gql_grammar.specs.Symbol.{before}
use Rattle.gql_parse.proofs.Stacked.{Stacked}
use Rattle.gql_parse.specs.Selections.{selection_of, set}
use Rattle.gql_parse.proofs.selections.+set.Given as goal

abbrev pub decreases-set_over : goal.decreases-set_over
decreases-set_over l = 8 * length l.cursor.now

abbrev pub decreases-optional_set : goal.decreases-optional_set
decreases-optional_set l = 8 * length l.cursor.now + 1

abbrev pub decreases-inline_fragment : goal.decreases-inline_fragment
decreases-inline_fragment l = 8 * length l.cursor.now + 1

abbrev pub decreases-push_field : goal.decreases-push_field
decreases-push_field l = 8 * length l.cursor.now + 2

abbrev pub decreases-spread_or_inline : goal.decreases-spread_or_inline
decreases-spread_or_inline l = 8 * length l.cursor.now + 2

abbrev pub decreases-push_spread_or_inline : goal.decreases-push_spread_or_inline
decreases-push_spread_or_inline l = 8 * length l.cursor.now + 3

abbrev pub decreases-push_selection : goal.decreases-push_selection
decreases-push_selection l = 8 * length l.cursor.now + 4

abbrev pub decreases-selections_over : goal.decreases-selections_over
decreases-selections_over l = 8 * length l.cursor.now + 5

abbrev pub invariant-selections_over-selections : goal.invariant-selections_over-selections
invariant-selections_over-selections l = Stacked (before RightBrace) (selection_of set) l.fn.stack.items l.fn.cursor l.stack.items l.cursor

abbrev pub decreases-selections_over-selections : goal.decreases-selections_over-selections
decreases-selections_over-selections l = length l.cursor
