use Rattle.std.proofs.Common.{rules, Option, ℕ, subst, sym}
use Rattle.std.proofs.lemmas.Fn.{always_returns_same}
use Rattle.gql_ast.specs.declared.definition.DefinitionId.{DefinitionId}
use Rattle.gql_verdict.specs.Slots.{slot_order, IsFound}
use Rattle.gql_verdict.specs.declared.slot.Slot.{Slot}
use Rattle.gql_verdict.proofs.Ordered.{found_at}
use Rattle.gql_verdict.proofs.slot.find.Goals as goal

pub returns : goal.returns
returns c =
    let id : DefinitionId = record { file = c.args.file.now; offset = c.args.offset } in
    subst (λ (o : Option ℕ). IsFound c.args.slots.now id o) (sym c.ok.ensures.value)
    (found_at c.args.slots.now id _ c.requires c.binary_search_by.ensures.bound
    (c.binary_search_by.ensures.position (λ (s : Slot). slot_order s id) (always_returns_same _ _ _ (λ a r g called. (search rules, search rules)))))
