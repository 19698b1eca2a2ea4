use Rattle.std.proofs.Common.{◌≡◌, ap, sym, ◌∙◌, subst, List, map}
use Rattle.std.specs.List.{AllZip}
use Rattle.gql_facts.proofs.Failing.{on_error}
use Rattle.gql_facts.specs.Worlds.{Facts}
use Rattle.gql_pairs.specs.Groups.{KeptGroup}
use Rattle.gql_pairs.specs.Tables.{AllHold, IsEntry, Keeps, KeepsHolding}
use Rattle.gql_readers.specs.Indexes.{IsIndexOf}
use Rattle.gql_verdict.specs.Definitions.{all_definitions}
use Rattle.gql_verdict.specs.Plans.{IsStep}
use Rattle.gql_verdict.specs.Readings.{readers}
use Rattle.gql_verdict.specs.Shelves.{HasDuePairs, IsWholeWork, IsWork, Shelved}
use Rattle.gql_verdict.specs.Slots.{resolve, verdicts}
use Rattle.gql_verdict.specs.TouchedFacts.{ArePairsKnown}
use Rattle.gql_verdict.specs.Verdicts.{Judgement}
use Rattle.gql_verdict.specs.declared.slot.Slot.{Slot}
use Rattle.gql_verdict.specs.declared.slot.Slot.TheVariants.{Here}
use Rattle.gql_verdict.proofs.Picked.{no_entries, whole_once, work_once}
use Rattle.gql_verdict.proofs.shelf.Shelf.prepare.Goals as goal

pub returns-in_err-marks-clause-work : goal.returns-in_err-marks-clause-work
returns-in_err-marks-clause-work g c = on_error _ (no_entries (g.W.World.facts c.args.world.now) c.args.self.now.verdicts (all_definitions c.args.files.now.documents) c.args.meter.now)

pub returns-in_err-steps-clause-work : goal.returns-in_err-steps-clause-work
returns-in_err-steps-clause-work g c =
    let ds = all_definitions c.args.files.now.documents in
    let G = g.W.World.facts c.held_pairs.new.world in
    on_error _ (subst (λ (H : Facts). IsWork H c.args.self.now.verdicts ds c.args.meter.now c.plan.new.meter) (c.held_pairs.ensures.facts ∙ c.broken_marks.ensures.facts)
    (subst (λ (vs : List Judgement). IsWork G vs ds c.args.meter.now c.plan.new.meter)
    (ap verdicts c.as_slice-kept.ensures.value ∙ (ap (λ (s : Shelved). s.verdicts) c.self.view_is))
    (work_once G _ ds _ _ (c.in_err-steps.ensures.order c.requires.placed) c.in_err-steps.ensures.work)))

pub returns-in_err-index-clause-work : goal.returns-in_err-index-clause-work
returns-in_err-index-clause-work g c =
    let ds = all_definitions c.args.files.now.documents in
    let G = g.W.World.facts c.held_pairs.new.world in
    on_error _ (subst (λ (H : Facts). IsWork H c.args.self.now.verdicts ds c.args.meter.now c.plan.new.meter) (c.held_pairs.ensures.facts ∙ c.broken_marks.ensures.facts)
    (subst (λ (vs : List Judgement). IsWork G vs ds c.args.meter.now c.plan.new.meter)
    (ap verdicts c.as_slice-kept.ensures.value ∙ (ap (λ (s : Shelved). s.verdicts) c.self.view_is))
    (work_once G _ ds _ _ (c.in_ok-steps.ensures.order c.requires.placed) c.in_ok-steps.ensures.whole.0)))

pub returns-clause-whole : goal.returns-clause-whole
returns-clause-whole g c =
    let ds = all_definitions c.args.files.now.documents in
    let G = g.W.World.facts c.held_pairs.new.world in
    subst (λ (H : Facts). IsWholeWork H c.args.self.now.verdicts ds c.args.meter.now c.plan.new.meter) (c.held_pairs.ensures.facts ∙ c.broken_marks.ensures.facts)
    (subst (λ (vs : List Judgement). IsWholeWork G vs ds c.args.meter.now c.plan.new.meter)
    (ap verdicts c.as_slice-kept.ensures.value ∙ (ap (λ (s : Shelved). s.verdicts) c.self.view_is))
    (whole_once G _ ds _ _ (c.in_ok-steps.ensures.order c.requires.placed) c.in_ok-steps.ensures.whole))

pub returns-clause-walked : goal.returns-clause-walked
returns-clause-walked g c =
    let ds = all_definitions c.args.files.now.documents in
    let G = g.W.World.facts c.held_pairs.new.world in
    subst (λ (H : Facts). HasDuePairs H c.args.self.now.verdicts ds c.plan.new.shared.pairs) (c.held_pairs.ensures.facts ∙ c.broken_marks.ensures.facts)
    (subst (λ (vs : List Judgement). HasDuePairs G vs ds c.plan.new.shared.pairs)
    (ap verdicts c.as_slice-kept.ensures.value ∙ (ap (λ (s : Shelved). s.verdicts) c.self.view_is))
    c.in_ok-steps.ensures.walked)

pub returns-clause-planned : goal.returns-clause-planned
returns-clause-planned g c =
    let F = g.W.World.facts c.args.world.now in
    let ds = all_definitions c.args.files.now.documents in
    let kept : c.as_slice-kept.result.now ≡ map Here c.args.self.now.verdicts = c.as_slice-kept.ensures.value ∙ (c.self.invariant.order.all_here ∙ ap (λ (s : Shelved). map Here s.verdicts) c.self.view_is) in
    record {
      order = c.in_ok-steps.ensures.order c.requires.placed;
      steps = subst (λ (H : Facts). AllZip (IsStep H (map Here c.args.self.now.verdicts)) ds c.in_ok-steps.steps.items) (c.held_pairs.ensures.facts ∙ c.broken_marks.ensures.facts)
          (subst (λ (ss : List Slot). AllZip (IsStep (g.W.World.facts c.held_pairs.new.world) ss) ds c.in_ok-steps.steps.items) kept c.in_ok-steps.ensures.steps);
      index = subst (λ (ss : List Slot). IsIndexOf c.in_ok-index.index (readers (verdicts (map (resolve ss) c.in_ok-steps.steps.items)))) kept
          (subst (λ (ss : List Slot). IsIndexOf c.in_ok-index.index (readers (verdicts (map (resolve c.as_slice-kept.result.now) ss)))) c.as_slice-2.ensures.value c.in_ok-index.ensures);
      pairs = subst (λ (H : Facts). AllHold H c.plan.new.shared.pairs) (c.held_pairs.ensures.facts ∙ c.broken_marks.ensures.facts) c.plan.ensures.holds.pairs;
    }

-- the pairs that are handed on hold
shared_holds : (W : Facts) (F : Facts) (held : List KeptGroup) → W ≡ F → AllHold F held → AllHold W held
shared_holds W F held same holds = subst (λ (G : Facts). AllHold G held) (sym same) holds

pub plan-requires-clause-holds : goal.plan-requires-clause-holds
plan-requires-clause-holds g c = c.new-shared.ensures.holds (g.W.World.facts c.held_pairs.new.world)
    (shared_holds (g.W.World.facts c.held_pairs.new.world) (g.W.World.facts c.broken_marks.new.world) c.in_ok-held.held c.held_pairs.ensures.facts c.in_ok-held.ensures.holds)

pub returns-clause-pairs : goal.returns-clause-pairs
returns-clause-pairs g c =
    let F = g.W.World.facts c.args.world.now in
    let held = c.in_ok-held.held in
    let before : c.self.inside.pairs ≡ c.args.self.now.pairs = ap (λ (s : Shelved). s.pairs) c.self.view_is in
    let kept : KeepsHolding F c.self.inside.pairs held = subst (λ (G : Facts). KeepsHolding G c.self.inside.pairs held) c.broken_marks.ensures.facts c.in_ok-held.ensures.kept in
    let keeps : Keeps held c.plan.new.shared.pairs = subst (λ (l : List KeptGroup). Keeps l c.plan.new.shared.pairs) c.new-shared.ensures.pairs c.plan.ensures.pairs in
    λ n m k e h. keeps n m k (kept n m k (subst (λ (l : List KeptGroup). IsEntry l n m k) (sym before) e) h)

pub held_pairs-requires : goal.held_pairs-requires
held_pairs-requires g c =
    let F = g.W.World.facts c.args.world.now in
    let before : c.self.inside.pairs ≡ c.args.self.now.pairs = ap (λ (s : Shelved). s.pairs) c.self.view_is in
    subst (λ (G : Facts). ArePairsKnown G c.self.inside.pairs c.args.touched.now) (sym c.broken_marks.ensures.facts)
    (subst (λ (l : List KeptGroup). ArePairsKnown F l c.args.touched.now) (sym before) c.requires.pairs)

pub returns-in_err-held-clause-work : goal.returns-in_err-held-clause-work
returns-in_err-held-clause-work g c = on_error _ (no_entries (g.W.World.facts c.args.world.now) c.args.self.now.verdicts (all_definitions c.args.files.now.documents) c.args.meter.now)
