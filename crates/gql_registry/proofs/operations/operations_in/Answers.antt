use Rattle.std.proofs.Common.{◌≡◌, ◌+◌, ◌∙◌, ℕ, ap, arith, subst, suc, take}
use Rattle.std.proofs.lemmas.List.{take_all}
use Rattle.gql_registry.specs.Indexed.{HaveSame, IsWith, kept_as, kept_from}
use Rattle.gql_registry.proofs.KeptOperations.{added_next, below_taken}
use Rattle.gql_registry.proofs.operations.operations_in.Goals as goal

pub loop-number-preserved : goal.loop-number-preserved
loop-number-preserved c =
    let file = c.args.file.now in
    let ds = c.as_slice-definitions.result.now in
    let n = c.loop-number.number in
    let d = c.index-definitions-number.result in
    let before = c.loop-number.operations in
    let kept = c.in_ok-operation.ensures ∙ ap (kept_as file n) c.index-definitions-number.is in
    let next : suc n ≡ n + 1 = omega arith in
    subst (λ (k : ℕ). HaveSame c.in_ok-operations.operations (kept_from file 0 (take k ds))) next
    (added_next file n ds d before c.in_ok-operations.operations c.loop-number-test.true c.loop-number.invariant
    (subst (λ k. IsWith before k c.in_ok-operations.operations) kept c.in_ok-operations.ensures)
    (λ y m. below_taken file n ds y ((c.loop-number.invariant y).0 m)))

pub returns : goal.returns
returns c =
    let file = c.args.file.now in
    let all = take_all c.loop-number.number c.as_slice-definitions.result.now c.loop-number-test.false ∙ c.as_slice-definitions.ensures in
    subst (λ ds. HaveSame c.loop-number.operations (kept_from file 0 ds)) all c.loop-number.invariant
