-- What a shelf answers for a definition, and the faults that it has.
use Rattle.std.specs.Prelude.{◌≡◌, ℕ, List, [], ◌∷◌, ◌++◌, flat_map, map, refl, Contains, Option, Some, None}
use Rattle.std.proofs.Common.{inl, inr, sym, ◌∙◌, ap, subst}
use Rattle.gql_ast.specs.Trees.{id_of}
use Rattle.gql_ast.specs.declared.definition.Definition.{Definition}
use Rattle.gql_ast.specs.declared.definition.DefinitionId.{DefinitionId}
use Rattle.gql_ast.specs.declared.fault.Fault.{Fault}
use Rattle.gql_facts.specs.ListMembers.{Contains-nil, Contains-here, Contains-there, Contains-cases, Contains-map, Contains-flat_map, Contains-flat_map_from}
use Rattle.gql_facts.specs.Members.{Lists}
use Rattle.gql_facts.specs.Reads.{Reads}
use Rattle.gql_facts.specs.Worlds.{Facts}
use Rattle.gql_verdict.specs.Faults.{IsFaultIn}
use Rattle.gql_verdict.specs.FileOrder.{InFileOrder}
use Rattle.gql_verdict.specs.Shelves.{IsCurrent, Answers, IsFaultOfAny, IsVerdictAt, defs}
use Rattle.gql_verdict.specs.Plans.{IsPlanned, Preparation}
use Rattle.gql_verdict.specs.Slots.{IsAt, verdicts, IsInOrder, resolve, slot_faults, IsSlotCertified}
use Rattle.gql_verdict.specs.Verdicts.{Judgement, IsCertificate}
use Rattle.gql_verdict.specs.declared.slot.Slot.{Slot}
use Rattle.gql_verdict.specs.declared.slot.Slot.TheVariants.{Here, At}
use Rattle.gql_reads.proofs.Members.{Contains-map_from}
use Rattle.gql_reads.specs.Observations.{keys_of}
use Rattle.gql_verdict.proofs.Ordered.{same_verdict, kept_at}
use Rattle.gql_verdict.proofs.Refreshed.{planned_served, served_current}

-- a verdict that is found is what the shelf answers for it
pub found_one : (slots : List Slot) (vs : List Judgement) (id : DefinitionId) (j : ℕ) (v : Judgement) → IsInOrder slots → verdicts slots ≡ vs → IsAt slots j v → id_of v.def ≡ id
    → IsVerdictAt vs id (Some v)
found_one slots vs id j v o is at p = (subst (λ (ws : List Judgement). Contains ws v) is (kept_at slots o j v at), p)

pub found_none : (slots : List Slot) (vs : List Judgement) (id : DefinitionId) → verdicts slots ≡ vs → ((v : Judgement) → Contains (verdicts slots) v → id_of v.def ≡ id → ⊥)
    → IsVerdictAt vs id None
found_none slots vs id is lacks = subst (λ (ws : List Judgement). (v : Judgement) → Contains ws v → id_of v.def ≡ id → ⊥) is lacks

-- the verdict that is found is that on the definition which is present
answer_of : (vs : List Judgement) (id : DefinitionId) (o : Option Judgement) → InFileOrder (defs vs) → IsVerdictAt vs id o
    → (v : Judgement) → Contains vs v → id_of v.def ≡ id → o ≡ Some v
answer_of vs id None up lacks v c p = absurd (lacks v c p)
answer_of vs id (Some w) up found v c p = ap Some (same_verdict vs up w v found.0 c (found.1 ∙ sym p))

no_answer : (vs : List Judgement) (id : DefinitionId) (o : Option Judgement) → IsVerdictAt vs id o
    → ((v : Judgement) → Contains vs v → id_of v.def ≡ id → ⊥) → o ≡ None
no_answer vs id None found lacks = refl
no_answer vs id (Some w) found lacks = absurd (lacks w found.0 found.1)

pub answers : (slots : List Slot) (vs : List Judgement) (id : DefinitionId) (o : Option Judgement) → IsInOrder slots → verdicts slots ≡ vs → IsVerdictAt vs id o
    → (facts : Facts) (definitions : List Definition) → IsCurrent facts definitions vs → Answers facts definitions id o
answers slots vs id o order is found facts definitions current =
    let up : InFileOrder (defs vs) = subst (λ (ws : List Judgement). InFileOrder (defs ws)) is order.order in
    record {
      present = λ d c p.
          let r = Contains-map_from (λ (v : Judgement). v.def) vs d (subst (λ ds. Contains ds d) (sym current.each) c) in (
            r.0,
            answer_of vs id o up found r.0 r.1 (ap id_of r.2 ∙ p),
            record {
              def = r.2;
              holds = current.holds r.0 r.1;
              keys = subst (λ e. Lists (keys_of r.0.observations) (Reads facts e)) r.2 (current.keys r.0 r.1);
            },
          );
      absent = λ lacks. no_answer vs id o found (λ v c p. lacks v.def (subst (λ ds. Contains ds v.def) current.each (Contains-map (λ (v : Judgement). v.def) vs v c)) p);
    }

-- the faults in the slots are those of the verdicts
pub slots_faults : (slots : List Slot) → flat_map slot_faults slots ≡ flat_map (λ (v : Judgement). v.faults) (verdicts slots)
slots_faults [] = refl
slots_faults (Here v ∷ slots) = ap (λ fs. v.faults ++ fs) (slots_faults slots)
slots_faults (At j ∷ slots) = slots_faults slots

pub slots_certified : (slots : List Slot) → ((s : Slot) → Contains slots s → IsSlotCertified s) → (v : Judgement) → Contains (verdicts slots) v → IsCertificate v.def v.faults v.observations
slots_certified [] all v c = absurd (Contains-nil v c)
slots_certified (Here w ∷ slots) all v c = elim (Contains-cases v w (verdicts slots) c) [
  | inl e ↦ subst (λ (z : Judgement). IsCertificate z.def z.faults z.observations) (sym e) (all (Here w) (Contains-here (Here w) slots))
  | inr t ↦ slots_certified slots (λ s m. all s (Contains-there s (Here w) slots m)) v t
]
slots_certified (At j ∷ slots) all v c = slots_certified slots (λ s m. all s (Contains-there s (At j) slots m)) v c

-- the faults of all verdicts are those of all definitions
pub all_faults : (vs : List Judgement) (found : List Fault) → found ≡ flat_map (λ (v : Judgement). v.faults) vs → ((v : Judgement) → Contains vs v → IsCertificate v.def v.faults v.observations)
    → (facts : Facts) (definitions : List Definition) → IsCurrent facts definitions vs → Lists found (IsFaultOfAny facts definitions)
all_faults vs found e certified facts definitions current = rw e (record {
  sound = λ f c.
      let r = Contains-flat_map_from (λ (v : Judgement). v.faults) vs f c in
      (r.0.def, subst (λ ds. Contains ds r.0.def) current.each (Contains-map (λ (v : Judgement). v.def) vs r.0 r.1), (certified r.0 r.1 facts (current.holds r.0 r.1)).sound f r.2);
  complete = λ f q.
      let r = Contains-map_from (λ (v : Judgement). v.def) vs q.0 (subst (λ ds. Contains ds q.0) (sym current.each) q.1) in
      Contains-flat_map (λ (v : Judgement). v.faults) vs r.0 f r.1 ((certified r.0 r.1 facts (current.holds r.0 r.1)).complete f (subst (λ d. IsFaultIn facts d f) (sym r.2) q.2));
})

-- so are those of a shelf that is prepared
pub planned_faults : (facts : Facts) (definitions : List Definition) (shelf : List Judgement) (prepared : Preparation) → IsPlanned facts definitions shelf prepared
    → (kept : List Slot) → kept ≡ map Here shelf → (found : List Fault) → found ≡ flat_map slot_faults (map (resolve kept) prepared.steps)
    → ((s : Slot) → Contains (map (resolve kept) prepared.steps) s → IsSlotCertified s) → Lists found (IsFaultOfAny facts definitions)
planned_faults facts definitions shelf prepared planned kept is found e certified =
    let slots = map (resolve kept) prepared.steps in
    all_faults (verdicts slots) found (e ∙ slots_faults slots) (slots_certified slots certified) facts definitions
    (served_current facts definitions slots (planned_served facts definitions shelf prepared planned kept is))
