use Rattle.std.proofs.Common.{◌≡◌, ◌∙◌, Contains, List, false, inl, inr, refl, subst, sym, true}
use Rattle.std.proofs.lemmas.List.{take_all}
use Rattle.gql_ast.specs.declared.fault.Fault.{Fault}
use Rattle.gql_facts.specs.ListMembers.{Contains-nil}
use Rattle.gql_reads.proofs.Takes.{seen_more}
use Rattle.gql_usage.proofs.same_faults.is_among.Goals as goal

pub loop-other-init : goal.loop-other-init
loop-other-init c h = Contains-nil _ h

pub returns-then-is_same : goal.returns-then-is_same
returns-then-is_same c =
    let same = c.is_same.ensures.0 c.if-is_same.true in
    (λ t. subst (λ (f : Fault). Contains c.args.faults.now f) (sym (same ∙ c.get.ensures)) (c.loop-other.other-index, c.loop-other-test.true, sym c.other-item.is), λ h. refl)

pub loop-other-preserved : goal.loop-other-preserved
loop-other-preserved c h = elim (seen_more c.args.faults.now c.loop-other.other-index c.other-item.result c.loop-other-test.true c.other-item.is c.args.fault.now h) [
  | inl old ↦ c.loop-other.invariant old
  | inr e ↦ let z : true ≡ false = sym (c.is_same.ensures.1 (sym e ∙ sym c.get.ensures)) ∙ c.if-is_same.false in cc z
]

pub returns : goal.returns
returns c = (
  λ t. let z : false ≡ true = t in cc z,
  λ h. absurd (c.loop-other.invariant (subst (λ (xs : List Fault). Contains xs c.args.fault.now) (sym (take_all _ _ c.loop-other-test.false)) h)),
)
