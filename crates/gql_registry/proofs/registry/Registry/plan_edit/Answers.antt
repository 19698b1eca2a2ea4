use Rattle.std.proofs.Common.{◌≡◌, ◌∷◌, ◌<◌, ◌≤◌, List, [], arith, ap, get_or, length, sym, subst}
use Rattle.gql_registry.specs.Changes.{change_of, edit_of}
use Rattle.gql_registry.specs.Checks.{IsListRefusal}
use Rattle.gql_registry.specs.State.{state_of}
use Rattle.gql_registry.specs.declared.change.Change.{Change as GivenChange}
use Rattle.gql_registry.specs.declared.change.EditRefusal.{EditRefusal}
use Rattle.gql_registry.proofs.InTurn.{alone_refused, refused_at}
use Rattle.gql_registry.proofs.Working.{err_where}
use Rattle.gql_registry.proofs.registry.Registry.plan_edit.Goals as goal

-- a list of one
one_item : (xs : List GivenChange) (x : GivenChange) → 1 ≤ length xs → length xs < 2 → x ≡ get_or xs 0 x → xs ≡ x ∷ []
one_item [] x least below is = absurd (omega arith)
one_item (y ∷ []) x least below is = ap (λ z. z ∷ []) (sym is)
one_item (y ∷ z ∷ zs) x least below is = absurd (omega arith)

pub returns-in_err-plan_change-clause-err : goal.returns-in_err-plan_change-clause-err
returns-in_err-plan_change-clause-err c =
    let s = state_of c.args.self.now in
    let r = c.in_err-plan_change.field-0.0 in
    err_where (λ (x : EditRefusal). x ≡ refused_at 0 r) (IsListRefusal s (edit_of c.args.edit.now)) _ c.from_residual.ensures.1
    (λ x is. subst (IsListRefusal s (edit_of c.args.edit.now)) (sym is)
    (subst (λ (cs : List GivenChange). IsListRefusal s (edit_of cs) (refused_at 0 r)) (sym (one_item c.args.edit.now c.change-item.result (omega arith) (omega arith) c.change-item.is))
    (alone_refused s (change_of c.change-item.result) r c.in_err-plan_change.ensures.err)))
