use Rattle.std.proofs.Common.{◌≡◌, drop}
use Rattle.serde_json.specs.View.{items_view, members_view}
use Rattle.gql_registry.specs.DataBodies as spec
use Rattle.gql_registry.proofs.integers.+integers.Given as goal

abbrev pub invariant-items_have_integers-loop-item : goal.invariant-items_have_integers-loop-item
invariant-items_have_integers-loop-item l = spec.items_have_integers (items_view l.items)
    ≡ spec.items_have_integers (items_view (drop l.item-index l.items))

abbrev pub invariant-members_have_integers-loop-key : goal.invariant-members_have_integers-loop-key
invariant-members_have_integers-loop-key l = spec.members_have_integers (members_view l.members.entries)
    ≡ spec.members_have_integers (members_view l._key-iterator)
