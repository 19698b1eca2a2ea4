use Rattle.std.proofs.Common.{ap, ◌≡◌, Some, None, subst, List, Contains}
use Rattle.gql_ast.specs.Trees.{id_of}
use Rattle.gql_verdict.specs.Shelves.{IsVerdictAt, Shelved}
use Rattle.gql_verdict.specs.Verdicts.{Judgement}
use Rattle.gql_verdict.specs.Slots.{IsAt, verdicts}
use Rattle.gql_verdict.specs.declared.slot.Slot.{Slot}
use Rattle.gql_verdict.proofs.Steps.{read_at}
use Rattle.gql_verdict.proofs.Answered.{found_one, found_none, answers}
use Rattle.gql_verdict.proofs.shelf.Shelf.get.Goals as goal

pub returns-in_default-clause-value : goal.returns-in_default-clause-value
returns-in_default-clause-value c =
    found_none c.self.inside.slots.items c.args.self.now.verdicts c.args.id.now (ap (λ (s : Shelved). s.verdicts) c.self.view_is)
    (subst (λ (ss : List Slot). (v : Judgement) → Contains (verdicts ss) v → id_of v.def ≡ c.args.id.now → ⊥) c.as_slice.ensures.value c.in_default.ensures)

pub returns-in_default-clause-current : goal.returns-in_default-clause-current
returns-in_default-clause-current c = answers c.self.inside.slots.items c.args.self.now.verdicts c.args.id.now None c.self.invariant.order (ap (λ (s : Shelved). s.verdicts) c.self.view_is) (returns-in_default-clause-value c)

pub returns-in-Here-clause-value : goal.returns-in-Here-clause-value
returns-in-Here-clause-value c =
    let found = c.in-Some.ensures in
    let slots = c.self.inside.slots.items in
    let at : IsAt slots c.in-Some.j found.0 = subst (λ (ss : List Slot). IsAt ss c.in-Some.j found.0) c.as_slice.ensures.value found.1 in
    let e : found.0 ≡ c.in-Here.verdict = read_at slots c.in-Some.j found.0 c.in-Here.verdict _ at c.index.ensures c.in-Here.is in
    subst (λ (v : Judgement). IsVerdictAt c.args.self.now.verdicts c.args.id.now (Some v)) e (found_one slots c.args.self.now.verdicts c.args.id.now c.in-Some.j found.0 c.self.invariant.order (ap (λ (s : Shelved). s.verdicts) c.self.view_is) at found.2)

pub returns-in-Here-clause-current : goal.returns-in-Here-clause-current
returns-in-Here-clause-current c = answers c.self.inside.slots.items c.args.self.now.verdicts c.args.id.now (Some c.in-Here.verdict) c.self.invariant.order (ap (λ (s : Shelved). s.verdicts) c.self.view_is) (returns-in-Here-clause-value c)
