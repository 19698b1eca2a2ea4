use Rattle.std.proofs.Common.{◌≡◌, ◌∙◌, Contains, List, false, inl, inr, refl, subst, sym, true}
use Rattle.std.proofs.lemmas.List.{take_all}
use Rattle.gql_ast.specs.declared.fault.Fault.{Fault}
use Rattle.gql_facts.specs.ListMembers.{Contains-nil}
use Rattle.gql_reads.proofs.Takes.{seen_more}
use Rattle.gql_usage.proofs.same_faults.has_new.Goals as goal

pub loop-fault-init : goal.loop-fault-init
loop-fault-init c f h = absurd (Contains-nil f h)

pub returns-then-not-is_among : goal.returns-then-not-is_among
returns-then-not-is_among c = (
  λ t. (
    c.fault-item.result,
    (c.loop-fault.fault-index, c.loop-fault-test.true, sym c.fault-item.is),
    λ h. let z : true ≡ false = sym (c.is_among.ensures.1 (subst (λ (f : Fault). Contains c.args.before.now f) (sym c.get.ensures) h)) ∙ c.if-not-is_among.true in cc z,
  ),
  λ h. refl,
)

pub loop-fault-preserved : goal.loop-fault-preserved
loop-fault-preserved c f h = elim (seen_more c.args.faults.now c.loop-fault.fault-index c.fault-item.result c.loop-fault-test.true c.fault-item.is f h) [
  | inl old ↦ c.loop-fault.invariant f old
  | inr e ↦ subst (λ (g : Fault). Contains c.args.before.now g) (c.get.ensures ∙ e) (c.is_among.ensures.0 c.if-not-is_among.false)
]

pub returns : goal.returns
returns c = (
  λ t. let z : false ≡ true = t in cc z,
  λ h. absurd (h.2 (c.loop-fault.invariant h.0 (subst (λ (xs : List Fault). Contains xs h.0) (sym (take_all _ _ c.loop-fault-test.false)) h.1))),
)
