-- Tables that grow.
use Rattle.std.proofs.Common.{◌≡◌, ℕ, zero, suc, ◌<◌, ◌≤◌, List, [], ◌∷◌, ◌++◌, take, length, get_or, Vec, Global, refl, sym, ap, ◌∙◌, arith, subst}
use Rattle.std.specs.List.{All}
use Rattle.std.proofs.Math.Seq.{take-length, take-append_seam}
use Rattle.std.proofs.lemmas.List.{length-take, take-take}
use Rattle.std.proofs.lemmas.List.Elements.{All-append}
use Rattle.gql_collect.specs.Borrowed.{all_selections}
use Rattle.gql_collect.specs.Nodes.{FileSelection}
use Rattle.gql_collect.specs.declared.node.SelectionSet.{SelectionSet}
use Rattle.gql_steps.specs.Plans.{Basis}
use Rattle.gql_steps.specs.declared.planning.FieldPlan.{FieldPlan}
use Rattle.gql_steps.specs.declared.table.Entry.{Entry}
use Rattle.gql_steps.specs.declared.table.Link.{Link}
use Rattle.gql_steps.specs.declared.table.Slot.{Slot}
use Rattle.gql_steps.specs.declared.table.Table.{Table}
use Rattle.gql_steps.specs.Tables.{AreRight, FoundAt, Grows, HasIn, Hold, InTable, IsEmpty, IsFor, IsMadeFor, IsRight, IsRightEntry, IsRightLink, below_at, fields_at, made_for, of_entry, selections_at, sets_at, type_at}
use Rattle.gql_steps.specs.ValueParts.{IsAt}

-- ---- what an entry has

module _ {A : Type 0} (f : Entry → List A) where
  of_here : (es : List Entry) (k : ℕ) (e : Entry) → k < length es → e ≡ get_or es k e → of_entry f es k ≡ f e
  of_here [] k e h is = absurd (omega (arith, h))
  of_here (x ∷ es) zero e h is = ap f (sym is)
  of_here (x ∷ es) (suc k) e h is = of_here es k e (omega (arith, h)) is

  at_start : (es : List Entry) (n k : ℕ) → k < n → of_entry f (take n es) k ≡ of_entry f es k
  at_start [] zero k h = refl
  at_start [] (suc n) k h = refl
  at_start (x ∷ es) zero k h = absurd (omega (arith, h))
  at_start (x ∷ es) (suc n) zero h = refl
  at_start (x ∷ es) (suc n) (suc k) h = at_start es n k (omega (arith, h))

  of_later : (xs ys : List Entry) (k : ℕ) → take (length xs) ys ≡ xs → k < length xs → of_entry f ys k ≡ of_entry f xs k
  of_later xs ys k h w = sym (at_start ys (length xs) k w) ∙ ap (λ es. of_entry f es k) h

  of_last : (es : List Entry) (e : Entry) → of_entry f (es ++ e ∷ []) (length es) ≡ f e
  of_last [] e = refl
  of_last (x ∷ es) e = of_last es e

pub fields_here : (es : List Entry) (k : ℕ) (e : Entry) → k < length es → e ≡ get_or es k e → fields_at es k ≡ e.fields.items
fields_here es k e h is = of_here (λ (x : Entry). x.fields.items) es k e h is

-- the entry of a number is for this type
pub is_for_here : (es : List Entry) (k : ℕ) (e : Entry) (t : List ℕ) → k < length es → e ≡ get_or es k e → e.of_type ≡ t → IsFor es k t
is_for_here es k e t h is same = record { within = h; of_type = of_here (λ (x : Entry). x.of_type) es k e h is ∙ same }

-- the entry of a number was made for this type and these selections
pub is_made_here : (es : List Entry) (k : ℕ) (e : Entry) (t : List ℕ) (xs : List FileSelection) → k < length es → e ≡ get_or es k e → e.of_type ≡ t
    → all_selections e.sets.items ≡ xs → IsMadeFor es k t xs
is_made_here es k e t xs h is same sets = record {
  within = h;
  of_type = of_here (λ (x : Entry). x.of_type) es k e h is ∙ same;
  sets = of_here (λ (x : Entry). all_selections x.sets.items) es k e h is ∙ sets;
}

pub sets_here : (fs : List FieldPlan) (i : ℕ) (f : FieldPlan) → i < length fs → f ≡ get_or fs i f → sets_at fs i ≡ all_selections f.sets.items
sets_here [] i f h is = absurd (omega (arith, h))
sets_here (x ∷ fs) zero f h is = ap (λ (y : FieldPlan). all_selections y.sets.items) (sym is)
sets_here (x ∷ fs) (suc i) f h is = sets_here fs i f (omega (arith, h)) is

pub at_slot : (t : Table) (s : Slot) (f : FieldPlan) → InTable t s → f ≡ get_or (fields_at t.entries.items s.entry) s.field f → IsAt t s f
at_slot t s f h is = record { within = h; below = sets_here (fields_at t.entries.items s.entry) s.field f h.field is }

-- ---- growth

pub grows_same : (t : Table) → Grows t t
grows_same t = take-length t.entries.items

longer : (xs ys : List Entry) → take (length xs) ys ≡ xs → length xs ≤ length ys
longer xs ys h = omega (arith, sym (ap length h) ∙ length-take (length xs) ys)

pub no_shorter : (a b : Table) → Grows a b → length a.entries.items ≤ length b.entries.items
no_shorter a b h = longer a.entries.items b.entries.items h

fields_later : (xs ys : List Entry) (k : ℕ) → take (length xs) ys ≡ xs → k < length xs → fields_at ys k ≡ fields_at xs k
fields_later xs ys k h w = of_later (λ (x : Entry). x.fields.items) xs ys k h w

pub fields_still : (a b : Table) (k : ℕ) → Grows a b → k < length a.entries.items → fields_at b.entries.items k ≡ fields_at a.entries.items k
fields_still a b k h w = fields_later a.entries.items b.entries.items k h w

pub in_still : (a b : Table) (s : Slot) → Grows a b → InTable a s → InTable b s
in_still a b s h w = record {
  entry = omega (arith, w.entry, no_shorter a b h);
  field = subst (λ fs. s.field < length fs) (sym (fields_still a b s.entry h w.entry)) w.field;
}

pub below_still : (a b : Table) (s : Slot) → Grows a b → InTable a s → below_at b s ≡ below_at a s
below_still a b s h w = ap (λ fs. sets_at fs s.field) (fields_still a b s.entry h w.entry)

pub grows_twice : (a b c : Table) → Grows a b → Grows b c → Grows a c
grows_twice a b c h k = let n = no_shorter a b h in
    sym (take-take (length a.entries.items) (length b.entries.items) c.entries.items n) ∙ ap (take (length a.entries.items)) k ∙ h

pub at_still : (a b : Table) (s : Slot) (f : FieldPlan) → Grows a b → IsAt a s f → IsAt b s f
at_still a b s f h w = record { within = in_still a b s h w.within; below = below_still a b s h w.within ∙ w.below }

-- ---- entries and links that are added

-- a table with one entry more
pub grown : (a b : Table) (e : Entry) → b.entries.items ≡ a.entries.items ++ e ∷ [] → Grows a b
grown a b e is = ap (take (length a.entries.items)) is ∙ take-append_seam a.entries.items (e ∷ [])

only : {A : Type 0} (P : A → Type 0) (x : A) → P x → All P (x ∷ [])
only P x h zero d w = h
only P x h (suc k) d w = absurd (omega (arith, w))

link_later : (xs ys : List Entry) (l : Link) → take (length xs) ys ≡ xs → IsRightLink xs l → IsRightLink ys l
link_later xs ys l more h = let n = longer xs ys more in record {
  slot = omega (arith, n, h.slot);
  entry = omega (arith, n, h.entry);
  sets = of_later (λ (x : Entry). all_selections x.sets.items) xs ys l.entry more h.entry ∙ h.sets
      ∙ ap (λ fs. sets_at fs l.slot.field) (sym (fields_later xs ys l.slot.entry more h.slot));
}

-- one entry more, and the same links
pub right_entry : (g : Basis) (es fs : List Entry) (ls : List Link) (e : Entry) → AreRight g es ls → fs ≡ es ++ e ∷ [] → IsRightEntry g e → AreRight g fs ls
right_entry g es fs ls e right is new = record {
  entries = subst (All (IsRightEntry g)) (sym is) (All-append (IsRightEntry g) es (e ∷ []) right.entries (only (IsRightEntry g) e new));
  links = λ k d w. link_later es fs (get_or ls k d) (ap (take (length es)) is ∙ take-append_seam es (e ∷ [])) (right.links k d w);
}

-- one link more, and the same entries
pub right_link : (g : Basis) (es : List Entry) (ls ms : List Link) (l : Link) → AreRight g es ls → ms ≡ ls ++ l ∷ [] → IsRightLink es l → AreRight g es ms
right_link g es ls ms l right is new = record {
  entries = right.entries;
  links = subst (All (IsRightLink es)) (sym is) (All-append (IsRightLink es) ls (l ∷ []) right.links (only (IsRightLink es) l new));
}

last_within : (es : List Entry) (e : Entry) → length es < length (es ++ e ∷ [])
last_within [] e = omega arith
last_within (x ∷ es) e = omega (arith, last_within es e)

-- the entry that was added last
pub made_last : (es : List Entry) (e : Entry) (t : List ℕ) (xs : List FileSelection) → e.of_type ≡ t → all_selections e.sets.items ≡ xs → IsMadeFor (es ++ e ∷ []) (length es) t xs
made_last es e t xs same sets = record {
  within = last_within es e;
  of_type = of_last (λ (x : Entry). x.of_type) es e ∙ same;
  sets = of_last (λ (x : Entry). all_selections x.sets.items) es e ∙ sets;
}

-- ---- what entries have

held : (g : Basis) (es : List Entry) (k : ℕ) → All (IsRightEntry g) es → k < length es → Hold g (type_at es k) (made_for es k) (fields_at es k)
held g [] k right w = absurd (omega (arith, w))
held g (e ∷ es) zero right w = right zero e w
held g (e ∷ es) (suc k) right w = held g es k (λ j d u. right (suc j) d (omega (arith, u))) (omega (arith, w))

-- an entry that was made for these selections has what they ask
pub made_has : (g : Basis) (es : List Entry) (ls : List Link) (k : ℕ) (t : List ℕ) (xs : List FileSelection) → AreRight g es ls → IsMadeFor es k t xs → HasIn g es k t xs
made_has g es ls k t xs right made = record {
  within = made.within;
  holds = subst (λ ys. Hold g t ys (fields_at es k)) made.sets (subst (λ n. Hold g n (made_for es k) (fields_at es k)) made.of_type (held g es k right.entries made.within));
}

-- so has one that a link leads to
pub found_has : (g : Basis) (t : Table) (k : ℕ) (s : Slot) (name : List ℕ) → IsRight g t → FoundAt t k s name → HasIn g t.entries.items k name (below_at t s)
found_has g t k s name right f =
    let es = t.entries.items in
    let link : IsRightLink es f.link = subst (IsRightLink es) (sym f.here) (right.links f.place f.link f.listed) in
    subst (λ n. HasIn g es n name (below_at t s)) f.entry (made_has g es t.links.items f.link.entry name (below_at t s) right (record {
      within = f.leads.is.within;
      of_type = f.leads.is.of_type;
      sets = link.sets ∙ ap (selections_at es) f.leads.slot;
    }))

-- ---- tables after a call

-- the same entries and links
pub same_right : (g : Basis) (a b : Table) → b.entries ≡ a.entries → b.links ≡ a.links → IsRight g a → IsRight g b
same_right g a b e l h = subst (λ (v : Vec Link Global). AreRight g b.entries.items v.items) (sym l)
    (subst (λ (v : Vec Entry Global). AreRight g v.items a.links.items) (sym e) h)

pub same_grows : (a b c : Table) → c.entries ≡ b.entries → Grows a b → Grows a c
same_grows a b c e h = subst (λ (v : Vec Entry Global). take (length a.entries.items) v.items ≡ a.entries.items) (sym e) h

pub same_made : (a b : Table) (k : ℕ) (t : List ℕ) (xs : List FileSelection) → b.entries ≡ a.entries → IsMadeFor a.entries.items k t xs → IsMadeFor b.entries.items k t xs
same_made a b k t xs e h = subst (λ (v : Vec Entry Global). IsMadeFor v.items k t xs) (sym e) h

-- one entry more
pub entry_right : (g : Basis) (n : List ℕ) (sets : List SelectionSet) (fs : List FieldPlan) (t : List ℕ) (xs : List FileSelection) → n ≡ t → all_selections sets ≡ xs → Hold g t xs fs
    → Hold g n (all_selections sets) fs
entry_right g n sets fs t xs same is h = subst (λ m. Hold g m (all_selections sets) fs) (sym same) (subst (λ ys. Hold g t ys fs) (sym is) h)

pub added_right : (g : Basis) (a b : Table) (e : Entry) → IsRight g a → b.entries.items ≡ a.entries.items ++ e ∷ [] → b.links ≡ a.links → IsRightEntry g e → IsRight g b
added_right g a b e right is same new = subst (λ (v : Vec Link Global). AreRight g b.entries.items v.items) (sym same)
    (right_entry g a.entries.items b.entries.items a.links.items e right is new)

pub added_made : (a b : Table) (e : Entry) (k : ℕ) (t : List ℕ) (xs : List FileSelection) → b.entries.items ≡ a.entries.items ++ e ∷ [] → k ≡ length a.entries.items
    → e.of_type ≡ t → all_selections e.sets.items ≡ xs → IsMadeFor b.entries.items k t xs
added_made a b e k t xs is at same sets = subst (λ es. IsMadeFor es k t xs) (sym is)
    (subst (λ n. IsMadeFor (a.entries.items ++ e ∷ []) n t xs) (sym at) (made_last a.entries.items e t xs same sets))

-- one link more, from a slot to an entry that was made for the slot's selections
module _ (g : Basis) (a b c : Table) (s : Slot) (k : ℕ) (t : List ℕ) (xs : List FileSelection) (right : IsRight g b) (made : IsMadeFor b.entries.items k t xs)
    (e : xs ≡ below_at a s) (same : c.entries ≡ b.entries) where
  pub linked_right : (l : Link) → Grows a b → InTable a s → l.slot ≡ s → l.entry ≡ k → c.links.items ≡ b.links.items ++ l ∷ [] → IsRight g c
  linked_right l grows within slot entry is =
      let link : IsRightLink b.entries.items l = record {
        slot = subst (λ (z : Slot). z.entry < length b.entries.items) (sym slot) (in_still a b s grows within).entry;
        entry = subst (λ n. n < length b.entries.items) (sym entry) made.within;
        sets = ap (made_for b.entries.items) entry ∙ made.sets ∙ e ∙ sym (below_still a b s grows within) ∙ ap (selections_at b.entries.items) (sym slot);
      } in
      subst (λ (v : Vec Entry Global). AreRight g v.items c.links.items) (sym same) (right_link g b.entries.items b.links.items c.links.items l right is link)

  pub linked_has : HasIn g c.entries.items k t (below_at a s)
  linked_has = subst (λ (v : Vec Entry Global). HasIn g v.items k t (below_at a s)) (sym same)
      (subst (λ ys. HasIn g b.entries.items k t ys) e (made_has g b.entries.items b.links.items k t xs right made))

-- a table without entries is right
pub right_none : (g : Basis) (t : Table) → IsEmpty t → IsRight g t
right_none g t e = record {
  entries = subst (All (IsRightEntry g)) (sym e.entries) (λ k d w. absurd (omega (arith, w)));
  links = subst (All (IsRightLink t.entries.items)) (sym e.links) (λ k d w. absurd (omega (arith, w)));
}
