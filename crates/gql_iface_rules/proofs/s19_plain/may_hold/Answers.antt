use Rattle.std.proofs.Common.{sym, subst}
use Rattle.std.specs.List.{All}
use Rattle.gql_iface_rules.proofs.S19Plain.{none_in_list}
use Rattle.gql_iface_rules.specs.S19Plain.{HoldsNone}
use Rattle.gql_iface_rules.proofs.s19_plain.may_hold.Goals as goal

pub returns-in-List : goal.returns-in-List
returns-in-List c = λ e. subst (λ x. HoldsNone x) (sym c.in-List.is)
    (none_in_list c.in-List.place c.in-List.items (subst (λ xs. All HoldsNone xs) c.as_slice.ensures (c.is_any_compound.ensures e)))
