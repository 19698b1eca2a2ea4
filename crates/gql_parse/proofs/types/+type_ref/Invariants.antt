use Rattle.std.proofs.Common.{◌+◌, ◌*◌, length}
use Rattle.gql_parse.proofs.types.+type_ref.Given as goal

abbrev pub decreases-type_ref : goal.decreases-type_ref
decreases-type_ref l = 3 * length l.cursor.now + 2

abbrev pub decreases-nullable : goal.decreases-nullable
decreases-nullable l = 3 * length l.cursor.now + 1

abbrev pub decreases-list_type : goal.decreases-list_type
decreases-list_type l = 3 * length l.cursor.now
