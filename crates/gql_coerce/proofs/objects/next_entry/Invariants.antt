use Rattle.std.proofs.Common.{◌≡◌, ◌-◌, ℕ, suc, drop, length, option_map}
use Rattle.std.specs.Option.{option_copied}
use Rattle.gql_types.specs.Written.{written}
use Rattle.serde_json.specs.View.{members_view}
use Rattle.gql_coerce.specs.Coercion.{coerced}
use Rattle.gql_coerce.specs.Frames.{members_rest}
use Rattle.gql_coerce.specs.Parts.{entries_in}
use Rattle.gql_coerce.proofs.objects.next_entry.Given as goal

abbrev pub invariant-entries : goal.invariant-entries
invariant-entries l = (n : ℕ) → members_rest (coerced (suc n) l.schema) (option_map written (option_copied l.fn.object.expected)) (members_view l.fn.object.members) (drop l.fn.object.next (entries_in l.fn.object.entries))
    ≡ members_rest (coerced (suc n) l.schema) (option_map written (option_copied l.object.expected)) (members_view l.object.members) (drop l.object.next (entries_in l.object.entries))

abbrev pub decreases-entries : goal.decreases-entries
decreases-entries l = length (entries_in l.object.entries) - l.object.next
