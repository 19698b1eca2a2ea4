-- Verdicts in file order, and the search for one.
use Rattle.std.specs.Prelude.{◌≡◌, ◌⊎◌, ◌<◌, ◌≤◌, ◌+◌, ℕ, zero, suc, List, [], ◌∷◌, length, map, refl, Contains, Result, Ok, Err, Some, false}
use Rattle.std.specs.List.Sorted.{IsSearchInRange, IsBinarySearchResult, IsNonDecreasingBy, IsSortedBy}
use Rattle.std.specs.Cmp.{IsTotalOrder}
use Rattle.std.specs.Ordering.{is_lt, ordering_index, ordering_reverse}
use Rattle.std.specs.Result.{result_ok}
use Rattle.std.specs.declared.cmp.Ordering.TheVariants.{Less, Equal, Greater}
use Rattle.std.proofs.Common.{ap, sym, ◌∙◌, subst, inl, inr, arith, get_or}
use Rattle.std.proofs.lemmas.Cmp.{nat_cmp_total, nat_list_cmp_total, on_total, then_total, tied_itself}
use Rattle.std.proofs.lemmas.List.{get_or-map, get_or_default, length-map}
use Rattle.std.proofs.lemmas.List.Sorted.{searchable_from_sorted}
use Rattle.std.proofs.lemmas.Map.Lookups.{exact_bytes, exact_pairs, exact_unsigned}
use Rattle.std.specs.Ordering.{nat_cmp}
use Rattle.gql_ast.specs.FileMaps.{name_order}
use Rattle.gql_ast.specs.Trees.{id_of}
use Rattle.gql_ast.specs.declared.definition.Definition.{Definition}
use Rattle.gql_ast.specs.declared.definition.DefinitionId.{DefinitionId}
use Rattle.gql_verdict.specs.FileOrder.{InFileOrder, IsBefore, id_order}
use Rattle.gql_verdict.specs.Shelves.{defs}
use Rattle.gql_verdict.specs.Slots.{IsAt, verdicts, HasId, IsInOrder, IsFound, slot_order}
use Rattle.gql_verdict.specs.Verdicts.{Judgement}
use Rattle.gql_verdict.specs.declared.slot.Slot.{Slot}
use Rattle.gql_verdict.specs.declared.slot.Slot.TheVariants.{Here, At}

-- ---- the order of what names definitions

pub id_total : IsTotalOrder id_order
id_total = then_total (on_total (λ (i : DefinitionId). i.file) nat_list_cmp_total) (on_total (λ (i : DefinitionId). i.offset) nat_cmp_total)

abbrev id_from : List ℕ × ℕ → DefinitionId
id_from p = record { file = p.0; offset = p.1 }

-- what is ordered as equal is the same
exact : (a b : DefinitionId) → id_order a b ≡ Equal → a ≡ b
exact a b e = ap id_from (exact_pairs name_order nat_cmp exact_bytes exact_unsigned (a.file, a.offset) (b.file, b.offset) e)

-- two definitions of one name are not one before the other
pub apart : (d e : Definition) → IsBefore d e → id_of d ≡ id_of e → ⊥
apart d e before same = let t : Equal ≡ Less = sym (tied_itself id_total (id_of d)) ∙ (ap (id_order (id_of d)) same ∙ before) in cc t

not_after : (a b : DefinitionId) → id_order a b ≡ Less → is_lt (id_order b a) ≡ false
not_after a b e = ap is_lt (id_total.antisymm b a ∙ ap ordering_reverse e)

-- ---- definitions in file order

-- one number is before another, at it or after it
order_of : (i j : ℕ) → ((i < j) ⊎ (i ≡ j)) ⊎ (j < i)
order_of zero zero = inl (inr refl)
order_of zero (suc j) = inl (inl (omega arith))
order_of (suc i) zero = inr (omega arith)
order_of (suc i) (suc j) = elim (order_of i j) [
  | inl h ↦ elim h [ inl l ↦ inl (inl (omega (arith, l))) | inr e ↦ inl (inr (ap suc e)) ]
  | inr l ↦ inr (omega (arith, l))
]

-- of two definitions, the one at the lower index is before the other
before_at : (ds : List Definition) → InFileOrder ds → (i j : ℕ) (d e : Definition) → i < j → j < length ds → get_or ds i d ≡ d → get_or ds j e ≡ e → IsBefore d e
before_at ds up i j d e l lj di ej =
    subst (λ (x : Definition). IsBefore x e) di (subst (λ (y : Definition). IsBefore (get_or ds i d) y) (get_or_default ds j d e lj ∙ ej) (up i j d l lj))

-- two definitions of one name are at one index
pub same_definition : (ds : List Definition) → InFileOrder ds → (i j : ℕ) (d e : Definition) → i < length ds → j < length ds → get_or ds i d ≡ d → get_or ds j e ≡ e → id_of d ≡ id_of e → i ≡ j
same_definition ds up i j d e li lj di ej p = elim (order_of i j) [
  | inl h ↦ elim h [ inl l ↦ absurd (apart d e (before_at ds up i j d e l lj di ej) p) | inr s ↦ s ]
  | inr l ↦ absurd (apart e d (before_at ds up j i e d l li ej di) (sym p))
]

-- a verdict is where its definition is
pub def_at : (vs : List Judgement) (k : ℕ) (v : Judgement) → k < length vs → get_or vs k v ≡ v → get_or (defs vs) k v.def ≡ v.def
def_at vs k v l e = get_or-map (λ (v : Judgement). v.def) vs k v v.def l ∙ ap (λ (v : Judgement). v.def) e

-- two verdicts on one definition are one
pub same_verdict : (vs : List Judgement) → InFileOrder (defs vs) → (v w : Judgement) → Contains vs v → Contains vs w → id_of v.def ≡ id_of w.def → v ≡ w
same_verdict vs up v w cv cw p =
    let i : cv.0 ≡ cw.0 = same_definition (defs vs) up cv.0 cw.0 v.def w.def (rw length-map cv.1) (rw length-map cw.1) (def_at vs cv.0 v cv.1 cv.2) (def_at vs cw.0 w cw.1 cw.2) p in
    sym cv.2 ∙ (get_or_default vs cv.0 v w cv.1 ∙ (ap (λ k. get_or vs k w) i ∙ cw.2))

-- ---- verdicts in slots

-- where all are here, there is a verdict at each index
at_map : (vs : List Judgement) (i : ℕ) → i < length (map Here vs) → (v : Judgement) × ((s : Slot) → get_or (map Here vs) i s ≡ Here v) × Contains vs v
at_map [] i l = absurd (omega (arith, l))
at_map (v ∷ vs) zero l = (v, λ s. refl, (0, omega arith, refl))
at_map (v ∷ vs) (suc i) l = let r = at_map vs i (omega (arith, l)) in (r.0, r.1, (suc r.2.0, omega (arith, r.2.1), r.2.2))

pub at_slot : (slots : List Slot) → slots ≡ map Here (verdicts slots) → (i : ℕ) → i < length slots → (v : Judgement) × IsAt slots i v × Contains (verdicts slots) v
at_slot slots full i l =
    let r = at_map (verdicts slots) i (subst (λ (ss : List Slot). i < length ss) full l) in
    (r.0, record { within = l; is = subst (λ (ss : List Slot). (s : Slot) → get_or ss i s ≡ Here r.0) (sym full) r.1 }, r.2)

-- what is at an index is one of the verdicts
pub kept_at : (slots : List Slot) → IsInOrder slots → (j : ℕ) (v : Judgement) → IsAt slots j v → Contains (verdicts slots) v
kept_at slots o j v a =
    let r = at_slot slots o.all_here j a.within in
    let e : Here r.0 ≡ Here v = sym (r.1.is (At 0)) ∙ a.is (At 0) in
    let q : r.0 ≡ v = cc in
    subst (λ w. Contains (verdicts slots) w) q r.2

-- a verdict is at some index
pub index_of : (slots : List Slot) → slots ≡ map Here (verdicts slots) → (v : Judgement) → Contains (verdicts slots) v → (k : ℕ) × (k < length slots) × (get_or slots k (Here v) ≡ Here v)
index_of slots full v c =
    let l : c.0 < length (map Here (verdicts slots)) = rw length-map c.1 in
    let e : get_or (map Here (verdicts slots)) c.0 (Here v) ≡ Here v = get_or-map Here (verdicts slots) c.0 v (Here v) c.1 ∙ ap Here c.2 in
    (c.0, subst (λ (ss : List Slot). c.0 < length ss) (sym full) l, subst (λ (ss : List Slot). get_or ss c.0 (Here v) ≡ Here v) (sym full) e)

-- ---- the search

map_rises : {A B : Type 0} (f : A → B) (n : B → ℕ) (xs : List A) → IsNonDecreasingBy (λ x. n (f x)) xs → IsNonDecreasingBy n (map f xs)
map_rises f n [] up i j d le lt = absurd (omega (arith, lt))
map_rises f n (x ∷ xs) up i j d le lt =
    let l : j < length (x ∷ xs) = subst (λ m. j < m) (length-map (x ∷ xs) f) lt in
    rw (get_or-map f (x ∷ xs) i x d (omega (arith, le, l)), get_or-map f (x ∷ xs) j x d l) (up i j x le l)

verdicts_sorted : (vs : List Judgement) → InFileOrder (defs vs) → IsSortedBy (λ (a b : Judgement). is_lt (id_order (id_of a.def) (id_of b.def))) vs
verdicts_sorted vs up k d z l =
    let m : k + 1 < length (defs vs) = rw length-map l in
    let now = get_or-map (λ (v : Judgement). v.def) vs k d d.def (omega (arith, l)) in
    let next = get_or-map (λ (v : Judgement). v.def) vs (k + 1) d d.def l in
    not_after (id_of (get_or vs k d).def) (id_of (get_or vs (k + 1) d).def)
    (subst (λ (x : Definition). IsBefore x (get_or vs (k + 1) d).def) now (subst (λ (y : Definition). IsBefore (get_or (defs vs) k d.def) y) next (up k (k + 1) d.def (omega arith) m)))

slots_rise : (slots : List Slot) → IsInOrder slots → (id : DefinitionId) → IsNonDecreasingBy (λ (s : Slot). ordering_index (slot_order s id)) slots
slots_rise slots o id = subst (λ (ss : List Slot). IsNonDecreasingBy (λ (s : Slot). ordering_index (slot_order s id)) ss) (sym o.all_here)
    (map_rises Here (λ (s : Slot). ordering_index (slot_order s id)) (verdicts slots)
    (searchable_from_sorted id_total (λ (v : Judgement). id_of v.def) (verdicts slots) id (verdicts_sorted (verdicts slots) o.order)))

-- what the search answers
pub found_at : (slots : List Slot) (id : DefinitionId) (r : Result ℕ ℕ) → IsInOrder slots → IsSearchInRange r (length slots) → IsBinarySearchResult (λ s. slot_order s id) slots r → IsFound slots id (result_ok r)
found_at slots id (Ok i) o within at =
    let r = at_slot slots o.all_here i within in
    (r.0, r.1, exact (id_of r.0.def) id (subst (λ (s : Slot). slot_order s id ≡ Equal) (r.1.is (At 0)) (at (At 0))))
found_at slots id (Err i) o within at = λ v c p.
    let k = index_of slots o.all_here v c in
    let parts = at (slots_rise slots o id) in
    let same : id_order (id_of v.def) id ≡ Equal = ap (λ x. id_order x id) p ∙ tied_itself id_total id in
    let below : k.0 < i → ⊥ = λ l. let e : id_order (id_of v.def) id ≡ Less = subst (λ (s : Slot). slot_order s id ≡ Less) k.2 (parts.0 k.0 (Here v) (omega arith) l) in let t : Equal ≡ Less = sym same ∙ e in cc t in
    let above : i ≤ k.0 → ⊥ = λ l. let e : id_order (id_of v.def) id ≡ Greater = subst (λ (s : Slot). slot_order s id ≡ Greater) k.2 (parts.1 k.0 (Here v) l k.1) in let t : Equal ≡ Greater = sym same ∙ e in cc t in
    elim (order_of k.0 i) [
      | inl h ↦ elim h [ inl l ↦ below l | inr q ↦ above (omega (arith, q)) ]
      | inr l ↦ above (omega (arith, l))
    ]

-- what is at an index, and of that name
pub found_near : (slots : List Slot) (near : ℕ) (id : DefinitionId) (s : Slot) → near < length slots → s ≡ get_or slots near s → HasId s id → IsFound slots id (Some near)
found_near slots near id (Here v) within is h = (v, record { within = within; is = λ z. get_or_default slots near z (Here v) within ∙ sym is }, h)
found_near slots near id (At j) within is h = absurd h

-- two definitions with one file and one offset have one name
pub same_id : (d e : Definition) → (id_of d).offset ≡ (id_of e).offset → d.file ≡ e.file → id_of d ≡ id_of e
same_id d e offset file = ap (λ n. id_from (n, (id_of d).offset)) file ∙ ap (λ o. id_from (e.file, o)) offset
