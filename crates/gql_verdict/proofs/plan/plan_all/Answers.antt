use Rattle.std.proofs.Common.{◌++◌, refl, sym, ◌∙◌, ap, append-nil, subst, List, [], ◌∷◌, map, ◌+◌, Bor}
use Rattle.std.specs.List.{AllZip}
use Rattle.std.proofs.lemmas.List.{length-map, take_all}
use Rattle.gql_facts.proofs.Failing.{on_error}
use Rattle.gql_facts.specs.ListMembers.{Contains-nil}
use Rattle.gql_facts.specs.Worlds.{Facts}
use Rattle.gql_verdict.specs.SharedWorks.{Holds}
use Rattle.gql_verdict.specs.Shelves.{HasDuePairs, HasPairsOf, IsDue, IsDueWork, IsStepWork, IsWholeDueWork}
use Rattle.gql_verdict.specs.Marks.{AreMarks}
use Rattle.gql_verdict.specs.Plans.{IsStep}
use Rattle.gql_verdict.specs.Slots.{ids_of, verdicts}
use Rattle.gql_verdict.specs.declared.slot.Slot.{Slot}
use Rattle.gql_ast.specs.declared.definition.Definition.{Definition}
use Rattle.gql_verdict.proofs.Seen.{made_within, made_item}
use Rattle.gql_verdict.specs.TouchedFacts.{IsKnown}
use Rattle.gql_verdict.proofs.Steps.{entries_more, pairs_more, whole_none, whole_more, work_all, zip_more, known_of_one}
use Rattle.gql_verdict.proofs.plan.plan_all.Goals as goal

pub loop-definition-init : goal.loop-definition-init
loop-definition-init g c =
    let F = g.W.World.facts c.args.world.now in
    record {
      same_facts = refl;
      same_names = refl;
      same_lent = refl;
      holds = c.requires.holds;
      pairs = λ n m k e. e;
      steps = subst (λ (ss : List Slot). AllZip (IsStep F c.args.kept.now) [] ss) (sym c.new-steps.ensures.items) tt;
      walked = λ d m. absurd (Contains-nil d m);
      entries = sym (append-nil c.args.meter.now) ∙ ap (λ (ss : List Slot). c.args.meter.now ++ ids_of (verdicts ss)) (sym c.new-steps.ensures.items);
      whole = whole_none F (verdicts c.args.kept.now) (map (λ (b : Bor Definition). b.now) c.args.definitions.now) c.args.meter.now;
    }

pub step-requires-clause-known : goal.step-requires-clause-known
step-requires-clause-known g c =
    let F = g.W.World.facts c.args.world.now in
    let vs = verdicts c.args.kept.now in
    let ds = map (λ (b : Bor Definition). b.now) c.args.definitions.now in
    let i = c.loop-definition.definition-index in
    let d = c.definition-item.result.now in
    let lt = made_within (λ (b : Bor Definition). b.now) c.args.definitions.now i c.definition-item.result c.loop-definition-test.true c.definition-item.is in
    let item = made_item (λ (b : Bor Definition). b.now) c.args.definitions.now i c.definition-item.result c.loop-definition-test.true c.definition-item.is in
    subst (λ (G : Facts). IsKnown G (d ∷ []) vs c.args.touched.now) (sym c.loop-definition.invariant.same_facts)
    (known_of_one F ds d vs c.args.touched.now (i, lt, sym item) c.requires.known)

pub step-requires-clause-marks : goal.step-requires-clause-marks
step-requires-clause-marks g c = subst (λ (G : Facts). AreMarks G c.args.touched.now c.args.kept.now c.args.marks.now) (sym c.loop-definition.invariant.same_facts) c.requires.marks

pub returns-in_err-next-clause-work : goal.returns-in_err-next-clause-work
returns-in_err-next-clause-work g c =
    let F = g.W.World.facts c.args.world.now in
    let vs = verdicts c.args.kept.now in
    let ds = map (λ (b : Bor Definition). b.now) c.args.definitions.now in
    on_error _ (subst (λ m. IsDueWork F vs ds c.args.meter.now m) (sym c.in_err-next.ensures.err) (work_all F vs ds c.loop-definition.definition-index _ _ c.loop-definition.invariant.whole.0))

pub returns-in_err-push-clause-work : goal.returns-in_err-push-clause-work
returns-in_err-push-clause-work g c =
    let F = g.W.World.facts c.args.world.now in
    let vs = verdicts c.args.kept.now in
    let ds = map (λ (b : Bor Definition). b.now) c.args.definitions.now in
    let i = c.loop-definition.definition-index in
    let d = c.definition-item.result.now in
    let lt = made_within (λ (b : Bor Definition). b.now) c.args.definitions.now i c.definition-item.result c.loop-definition-test.true c.definition-item.is in
    let item = made_item (λ (b : Bor Definition). b.now) c.args.definitions.now i c.definition-item.result c.loop-definition-test.true c.definition-item.is in
    let s = subst (λ (G : Facts). IsStepWork G vs d c.loop-definition.meter c.step.new.meter) c.loop-definition.invariant.same_facts c.in_ok-next.ensures.work in
    on_error _ (work_all F vs ds (i + 1) _ _ (whole_more F vs ds i d lt item _ c.loop-definition.meter _ c.loop-definition.invariant.whole s).0)

pub loop-definition-preserved : goal.loop-definition-preserved
loop-definition-preserved g c =
    let F = g.W.World.facts c.args.world.now in
    let K = c.args.kept.now in
    let ds = map (λ (b : Bor Definition). b.now) c.args.definitions.now in
    let i = c.loop-definition.definition-index in
    let d = c.definition-item.result.now in
    let lt = made_within (λ (b : Bor Definition). b.now) c.args.definitions.now i c.definition-item.result c.loop-definition-test.true c.definition-item.is in
    let item = made_item (λ (b : Bor Definition). b.now) c.args.definitions.now i c.definition-item.result c.loop-definition-test.true c.definition-item.is in
    let same = c.loop-definition.invariant.same_facts in
    record {
      same_facts = c.step.ensures.facts ∙ same;
      same_names = c.step.ensures.names ∙ c.loop-definition.invariant.same_names;
      same_lent = c.step.ensures.lent ∙ c.loop-definition.invariant.same_lent;
      holds = subst (λ (G : Facts). Holds G c.step.new.shared) same c.step.ensures.holds;
      pairs = λ n m k e. c.step.ensures.pairs n m k (c.loop-definition.invariant.pairs n m k e);
      steps = zip_more (IsStep F K) ds c.loop-definition.steps.items _ i d c.in_ok-next.next lt item c.loop-definition.invariant.steps
          (subst (λ (G : Facts). IsStep G K d c.in_ok-next.next) same c.in_ok-next.ensures.step) c.in_ok-push.ensures.items;
      walked = pairs_more F (verdicts K) ds i d lt item _ _ c.step.ensures.pairs c.loop-definition.invariant.walked
          (subst (λ (G : Facts). IsDue G (verdicts K) d → HasPairsOf G c.step.new.shared.pairs d) same c.in_ok-next.ensures.walked);
      entries = entries_more c.args.meter.now c.loop-definition.meter _ c.loop-definition.steps.items _ c.in_ok-next.next c.in_ok-push.ensures.items c.loop-definition.invariant.entries c.in_ok-next.ensures.entries;
      whole = whole_more F (verdicts K) ds i d lt item _ c.loop-definition.meter _ c.loop-definition.invariant.whole
          (subst (λ (G : Facts). IsStepWork G (verdicts K) d c.loop-definition.meter c.step.new.meter) same c.in_ok-next.ensures.work);
    }

pub returns-in_err-push-clause-pairs : goal.returns-in_err-push-clause-pairs
returns-in_err-push-clause-pairs g c = λ n m k e. c.step.ensures.pairs n m k (c.loop-definition.invariant.pairs n m k e)

pub returns-in_err-next-clause-pairs : goal.returns-in_err-next-clause-pairs
returns-in_err-next-clause-pairs g c = λ n m k e. c.step.ensures.pairs n m k (c.loop-definition.invariant.pairs n m k e)

pub returns-clause-walked : goal.returns-clause-walked
returns-clause-walked g c =
    let F = g.W.World.facts c.args.world.now in
    let ds = map (λ (b : Bor Definition). b.now) c.args.definitions.now in
    subst (λ (all : List Definition). HasDuePairs F (verdicts c.args.kept.now) all c.loop-definition.shared.pairs) (take_all _ ds (rw length-map c.loop-definition-test.false)) c.loop-definition.invariant.walked

pub returns-clause-whole : goal.returns-clause-whole
returns-clause-whole g c =
    let F = g.W.World.facts c.args.world.now in
    let ds = map (λ (b : Bor Definition). b.now) c.args.definitions.now in
    subst (λ (all : List Definition). IsWholeDueWork F (verdicts c.args.kept.now) all c.args.meter.now c.loop-definition.meter) (take_all _ ds (rw length-map c.loop-definition-test.false)) c.loop-definition.invariant.whole
