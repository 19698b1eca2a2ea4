use Rattle.std.proofs.Common.{Contains}
use Rattle.gql_clashes.specs.Seen.{IsInside}
use Rattle.gql_clashes.specs.declared.search.Item.{Item}
use Rattle.tables_text.proofs.clashing_fields.pairs_in.Given as goal

abbrev pub invariant-loop-part : goal.invariant-loop-part
invariant-loop-part l = (x : Item) → Contains l.pairs.items x → IsInside l.count x
