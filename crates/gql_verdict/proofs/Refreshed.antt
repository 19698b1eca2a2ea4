-- The slots after a refresh.
use Rattle.std.proofs.Common.{◌≡◌, ℕ, zero, suc, ◌<◌, List, [], ◌∷◌, length, map, get_or, sym, ◌∙◌, ap, subst, refl, Contains, arith, inl, inr}
use Rattle.std.specs.List.{AllZip}
use Rattle.gql_ast.specs.Trees.{id_of}
use Rattle.gql_ast.specs.declared.definition.Definition.{Definition}
use Rattle.gql_facts.specs.Worlds.{Facts}
use Rattle.gql_facts.specs.ListMembers.{Contains-nil, Contains-cases}
use Rattle.gql_reads.specs.Observations.{Hold}
use Rattle.gql_verdict.specs.Verdicts.{IsRead, Judgement}
use Rattle.gql_verdict.specs.Shelves.{IsCurrent, defs}
use Rattle.gql_verdict.specs.FileOrder.{InFileOrder}
use Rattle.gql_verdict.specs.Plans.{IsUsable, IsPlanned, IsStep, Preparation}
use Rattle.gql_verdict.specs.Slots.{verdicts, resolve, IsInOrder, IsApart}
use Rattle.gql_verdict.specs.declared.slot.Slot.{Slot}
use Rattle.gql_verdict.specs.declared.slot.Slot.TheVariants.{Here, At}
use Rattle.gql_verdict.proofs.Ordered.{same_definition}

-- the pair at an index
zip_at : {A B : Type 0} (R : A → B → Type 0) (xs : List A) (ys : List B) (i : ℕ) → AllZip R xs ys → i < length ys → (x : A) × (y : B) × (i < length xs) × ((d : A) → get_or xs i d ≡ x) × ((e : B) → get_or ys i e ≡ y) × R x y
zip_at R [] [] i z l = absurd (omega (arith, l))
zip_at R [] (b ∷ bs) i z l = absurd z
zip_at R (a ∷ us) [] i z l = absurd z
zip_at R (a ∷ us) (b ∷ bs) zero z l = (a, b, omega arith, λ d. refl, λ e. refl, z.0)
zip_at R (a ∷ us) (b ∷ bs) (suc i) z l = let r = zip_at R us bs i z.1 (omega (arith, l)) in (r.0, r.1, omega (arith, r.2), r.3, r.4, r.5)

-- steps for definitions in file order fetch no verdict twice
pub steps_apart : (F : Facts) (kept : List Slot) (ds : List Definition) (steps : List Slot) → InFileOrder ds → AllZip (IsStep F kept) ds steps → IsApart steps
steps_apart F kept ds steps up z a b j la lb ea eb =
    let p = zip_at (IsStep F kept) ds steps a z la in
    let q = zip_at (IsStep F kept) ds steps b z lb in
    let s : IsStep F kept p.0 (At j) = subst (λ (y : Slot). IsStep F kept p.0 y) (sym (p.4 (At j)) ∙ ea) p.5 in
    let t : IsStep F kept q.0 (At j) = subst (λ (y : Slot). IsStep F kept q.0 y) (sym (q.4 (At j)) ∙ eb) q.5 in
    let h : Here s.0 ≡ Here t.0 = sym (s.1.is (At j)) ∙ t.1.is (At j) in
    let v : s.0 ≡ t.0 = cc in
    let d : p.0 ≡ q.0 = sym s.2.serves.def ∙ (ap (λ (w : Judgement). w.def) v ∙ t.2.serves.def) in
    same_definition ds up a b p.0 q.0 p.2 q.2 (p.3 p.0) (q.3 q.0) (ap id_of d)

-- each definition has its verdict, here
pub record IsServed (F : Facts) (ds : List Definition) (slots : List Slot) : Type 0 where
  pub all_here : slots ≡ map Here (verdicts slots)
  pub each : defs (verdicts slots) ≡ ds
  pub holds : (v : Judgement) → Contains (verdicts slots) v → Hold F v.observations
  pub reads : (v : Judgement) → Contains (verdicts slots) v → IsRead v

served_more : (F : Facts) (d : Definition) (v : Judgement) (ds : List Definition) (slots : List Slot) → IsUsable F d v → IsServed F ds slots → IsServed F (d ∷ ds) (Here v ∷ slots)
served_more F d v ds slots s all = record {
  all_here = ap (λ ss. Here v ∷ ss) all.all_here;
  each = ap (λ es. v.def ∷ es) all.each ∙ ap (λ e. e ∷ ds) s.serves.def;
  holds = λ w c. elim (Contains-cases w v (verdicts slots) c) [ inl e ↦ subst (λ (z : Judgement). Hold F z.observations) (sym e) s.serves.holds | inr t ↦ all.holds w t ];
  reads = λ w c. elim (Contains-cases w v (verdicts slots) c) [ inl e ↦ subst IsRead (sym e) s.read | inr t ↦ all.reads w t ];
}

pub resolved : (F : Facts) (kept : List Slot) (d : Definition) (s : Slot) → IsStep F kept d s → (v : Judgement) × (resolve kept s ≡ Here v) × IsUsable F d v
resolved F kept d (Here v) h = (v, refl, h)
resolved F kept d (At j) h = (h.0, h.1.is (At j), h.2)

pub served : (F : Facts) (kept : List Slot) (ds : List Definition) (steps : List Slot) → AllZip (IsStep F kept) ds steps → IsServed F ds (map (resolve kept) steps)
served F kept [] [] z = record { all_here = refl; each = refl; holds = λ v c. absurd (Contains-nil v c); reads = λ v c. absurd (Contains-nil v c) }
served F kept [] (s ∷ ss) z = absurd z
served F kept (d ∷ ds) [] z = absurd z
served F kept (d ∷ ds) (s ∷ ss) z =
    let r = resolved F kept d s z.0 in
    subst (λ (x : Slot). IsServed F (d ∷ ds) (x ∷ map (resolve kept) ss)) (sym r.1) (served_more F d r.0 ds (map (resolve kept) ss) r.2 (served F kept ds ss z.1))

pub served_in_order : (F : Facts) (ds : List Definition) (slots : List Slot) → InFileOrder ds → IsServed F ds slots → IsInOrder slots
served_in_order F ds slots up s = record { all_here = s.all_here; order = subst (λ (es : List Definition). InFileOrder es) (sym s.each) up; reads = s.reads }

pub served_current : (F : Facts) (ds : List Definition) (slots : List Slot) → IsServed F ds slots → IsCurrent F ds (verdicts slots)
served_current F ds slots s = record { each = s.each; holds = s.holds; keys = λ v c. (s.reads v c).keys F (s.holds v c) }

-- what is prepared for a shelf fetches no verdict twice, and serves the definitions once all are
-- fetched
module _ (F : Facts) (ds : List Definition) (shelf : List Judgement) (prepared : Preparation) (planned : IsPlanned F ds shelf prepared) where
  pub planned_apart : IsApart prepared.steps
  planned_apart = steps_apart F (map Here shelf) ds prepared.steps planned.order planned.steps

  pub planned_served : (kept : List Slot) → kept ≡ map Here shelf → IsServed F ds (map (resolve kept) prepared.steps)
  planned_served kept is = rw is (served F (map Here shelf) ds prepared.steps planned.steps)
