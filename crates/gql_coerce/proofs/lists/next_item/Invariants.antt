use Rattle.std.proofs.Common.{◌≡◌, ◌-◌, ℕ, suc, map, drop, length, option_map}
use Rattle.std.specs.Option.{option_copied}
use Rattle.gql_types.specs.Written.{written}
use Rattle.serde_json.specs.View.{view}
use Rattle.gql_coerce.specs.Coercion.{coerced}
use Rattle.gql_coerce.specs.Frames.{items_rest}
use Rattle.gql_coerce.specs.Parts.{items_in}
use Rattle.gql_coerce.proofs.lists.next_item.Given as goal

abbrev pub invariant-items : goal.invariant-items
invariant-items l = (n : ℕ) → items_rest (coerced (suc n) l.schema) (option_map written (option_copied l.fn.list.expected)) (map view l.fn.list.values) (drop l.fn.list.next (items_in l.fn.list.items))
    ≡ items_rest (coerced (suc n) l.schema) (option_map written (option_copied l.list.expected)) (map view l.list.values) (drop l.list.next (items_in l.list.items))

abbrev pub decreases-items : goal.decreases-items
decreases-items l = length (items_in l.list.items) - l.list.next
