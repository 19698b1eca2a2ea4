use Rattle.std.proofs.Common.{◌+◌, ◌*◌, [], length}
use Rattle.gql_text.specs.declared.token.Kind.TheVariants.{RightBracket, RightBrace}
use Rattle.gql_grammar.specs.Symbol.{before}
use Rattle.gql_grammar.proofs.Loops.{Going}
use Rattle.gql_parse.specs.Values.{is_constant, value, object_field_of}
use Rattle.gql_parse.proofs.literal.+value.Given as goal

abbrev pub decreases-value : goal.decreases-value
decreases-value l = 4 * length l.cursor.now + 2

abbrev pub decreases-list : goal.decreases-list
decreases-list l = 4 * length l.cursor.now + 1

abbrev pub decreases-object : goal.decreases-object
decreases-object l = 4 * length l.cursor.now + 1

abbrev pub decreases-object_field : goal.decreases-object_field
decreases-object_field l = 4 * length l.cursor.now + 3

abbrev pub decreases-items : goal.decreases-items
decreases-items l = 4 * length l.cursor.now + 4

abbrev pub decreases-fields : goal.decreases-fields
decreases-fields l = 4 * length l.cursor.now + 4

abbrev pub decreases-items-items : goal.decreases-items-items
decreases-items-items l = length l.cursor

abbrev pub decreases-fields-fields : goal.decreases-fields-fields
decreases-fields-fields l = length l.cursor

abbrev pub invariant-items-items : goal.invariant-items-items
invariant-items-items l = Going (before RightBracket) (value (is_constant l.form)) [] l.initial.cursor l.items l.cursor

abbrev pub invariant-fields-fields : goal.invariant-fields-fields
invariant-fields-fields l = Going (before RightBrace) (object_field_of (value (is_constant l.form))) [] l.initial.cursor l.fields l.cursor
