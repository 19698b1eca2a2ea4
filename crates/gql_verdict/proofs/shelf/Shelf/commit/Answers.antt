use Rattle.std.proofs.Common.{◌≡◌, ap, sym, ◌∙◌, subst, List, map}
use Rattle.std.specs.Vec.{with_items}
use Rattle.std.proofs.lemmas.List.{with_items_is}
use Rattle.gql_ast.specs.declared.definition.Definition.{Definition}
use Rattle.gql_facts.specs.Worlds.{Facts}
use Rattle.gql_readers.specs.Indexes.{IsIndexOf, Reading}
use Rattle.gql_verdict.specs.Plans.{IsPlanned, Preparation}
use Rattle.gql_verdict.specs.Readings.{readers}
use Rattle.gql_verdict.specs.Slots.{resolve, verdicts, IsApart}
use Rattle.gql_verdict.specs.declared.slot.Slot.{Slot}
use Rattle.gql_verdict.specs.declared.slot.Slot.TheVariants.{Here}
use Rattle.gql_verdict.specs.Shelves.{Shelved}
use Rattle.gql_verdict.proofs.Refreshed.{IsServed, planned_apart, planned_served, served_in_order, served_current}
use Rattle.gql_verdict.proofs.shelf.Shelf.commit.Goals as goal
use Rattle.gql_verdict.proofs.shelf.Shelf.commit.Goals.{After-drop-self-inside-3}

pub fill-requires : goal.fill-requires
fill-requires c = subst (λ (ss : List Slot). IsApart ss) (sym (c.deref_mut.ensures.value ∙ ap (λ (p : Preparation). p.steps) c.prepared.view_is))
    (planned_apart c.requires.0 c.requires.1 c.args.self.now.verdicts c.args.prepared c.requires.2)

-- what is filled in
filled_is : (c : After-drop-self-inside-3) → (with_items c.prepared.inside.steps c.fill.new.steps).items ≡ map (resolve c.deref_mut-2.result.now) c.args.prepared.steps
filled_is c = with_items_is c.prepared.inside.steps c.fill.new.steps (c.fill.auto.steps ∙ c.deref_mut.ensures.len)
    ∙ (c.fill.ensures ∙ ap (map (resolve c.deref_mut-2.result.now)) (c.deref_mut.ensures.value ∙ ap (λ (p : Preparation). p.steps) c.prepared.view_is))

kept_is : (c : After-drop-self-inside-3) → c.deref_mut-2.result.now ≡ map Here c.args.self.now.verdicts
kept_is c = c.deref_mut-2.ensures.value ∙ (c.self.invariant.order.all_here ∙ ap (λ (s : Shelved). map Here s.verdicts) c.self.view_is)

-- the slots that were filled in serve the definitions
filled : (c : After-drop-self-inside-3) (F : Facts) (ds : List Definition) → IsPlanned F ds c.args.self.now.verdicts c.args.prepared
    → IsServed F ds (with_items c.prepared.inside.steps c.fill.new.steps).items
filled c F ds planned = subst (λ (ss : List Slot). IsServed F ds ss) (sym (filled_is c))
    (planned_served F ds c.args.self.now.verdicts c.args.prepared planned c.deref_mut-2.result.now (kept_is c))

pub invariant_of-self : goal.invariant_of-self
invariant_of-self c = record {
  order = served_in_order c.requires.0 c.requires.1 _ c.requires.2.order (filled c c.requires.0 c.requires.1 c.requires.2);
  reads = subst (λ (es : List Reading). IsIndexOf es (readers (verdicts (with_items c.prepared.inside.steps c.fill.new.steps).items))) (sym (ap (λ (p : Preparation). p.index) c.prepared.view_is))
      (subst (λ (ss : List Slot). IsIndexOf c.args.prepared.index (readers (verdicts ss))) (sym (filled_is c ∙ ap (λ (kept : List Slot). map (resolve kept) c.args.prepared.steps) (kept_is c)))
      c.requires.2.index);
}

pub returns-clause-current : goal.returns-clause-current
returns-clause-current c = λ F ds planned. served_current F ds _ (filled c F ds planned)
