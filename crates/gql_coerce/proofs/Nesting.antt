-- How deep lists and objects nest, with a part more.
use Rattle.std.proofs.Common.{◌≡◌, ◌≤◌, ◌+◌, ◌-◌, ◌^◌, ◌++◌, ◌⊎◌, inl, inr, ℕ, suc, max, min, List, [], ◌∷◌, map, Bool, true, false, true≢false, String, Vec, BTreeMap, Global, string_bytes, string_cmp, refl, ap, sym, subst, ◌∙◌, arith}
use Rattle.std.proofs.lemmas.Bool.Decides.{eqb_tells, leb_tells}
use Rattle.std.proofs.lemmas.List.{map-append}
use Rattle.std.specs.Prelude.{◌==◌, ◌↔◌, IsTrue, length, not, if◌then◌else◌, Result, Ok, Err, OnOk, OnErr}
use Rattle.std.specs.BTreeMap.{insert_entry}
use Rattle.std.specs.Ordering.{match_ordering, nat_cmp}
use Rattle.std.specs.Cmp.Lexicographic.{slice_cmp}
use Rattle.std.specs.declared.cmp.Ordering.{Ordering}
use Rattle.std.specs.declared.cmp.Ordering.TheVariants.{Less, Equal, Greater}
use Rattle.serde_json.specs.Data.{Data, null, boolean, number, string, array, object, no_items, item, Members, no_members, member, put, depth, items_depth, members_depth}
use Rattle.serde_json.proofs.Views.{view-Array, view-Object}
use Rattle.serde_json.specs.View.{view, items_of, items_view, members_view}
use Rattle.serde_json.specs.declared.value.Value.{Value, Array, Object}
use Rattle.gql_coerce.specs.Nesting.{NestsWithin, has_part}
use Rattle.gql_coerce.proofs.Inserted.{inserted}

-- without a part
pub shallow : (d : Data) → has_part d ≡ false → depth d ≤ 1
shallow null none = omega arith
shallow (boolean b) none = omega arith
shallow (number n) none = omega arith
shallow (string s) none = omega arith
shallow (array no_items) none = omega arith
shallow (array (item d ds)) none = absurd (true≢false none)
shallow (object no_members) none = omega arith
shallow (object (member k d ms)) none = absurd (true≢false none)

-- whether there is a part, by the length
items_part : (vs : List Value) (b : Bool) → b ≡ (length vs == 0) → not b ≡ has_part (array (items_view vs))
items_part [] b is = ap not is
items_part (v ∷ vs) b is = elim (eqb_tells (length (v ∷ vs)) 0) [
  | inl e ↦ absurd (omega (arith, e.1))
  | inr differs ↦ ap not (is ∙ differs.0)
]

pub array_part : (vs : Vec Value Global) (b : Bool) → b ≡ (length vs.items == 0) → not b ≡ has_part (view (Array vs))
array_part vs b is = items_part vs.items b is ∙ ap has_part (sym (view-Array vs))

members_part : (ms : List (String Global × Value)) (b : Bool) → IsTrue b ↔ (length ms ≡ 0) → not b ≡ has_part (object (members_view ms))
members_part [] b is = ap not (is.1 refl)
members_part (m ∷ ms) true is = absurd (omega (arith, is.0 refl))
members_part (m ∷ ms) false is = refl

pub object_part : (m : BTreeMap (String Global) Value) (b : Bool) → IsTrue b ↔ (length m.entries ≡ 0) → not b ≡ has_part (view (Object m))
object_part m b is = members_part m.entries b is ∙ ap has_part (sym (view-Object m))

-- an item more
items_more : (ds : List Data) (d : Data) → items_depth (items_of (ds ++ d ∷ [])) ≡ max (items_depth (items_of ds)) (depth d)
items_more [] d = omega arith
items_more (e ∷ ds) d = omega (arith, items_more ds d)

-- a member more
members_more : (k : List ℕ) (d : Data) (ms : Members) → members_depth (put k d ms) ≤ max (depth d) (members_depth ms)
members_more k d no_members = omega arith
members_more k d (member l e ms) = by (slice_cmp nat_cmp k l) (members_more k d ms) where
  by : (o : Ordering) → members_depth (put k d ms) ≤ max (depth d) (members_depth ms)
      → members_depth (match_ordering o (member k d (member l e ms)) (member l d ms) (member l e (put k d ms))) ≤ max (depth d) (max (depth e) (members_depth ms))
  by Less rest = omega arith
  by Equal rest = omega arith
  by Greater rest = omega (arith, rest)

-- the levels with those of a part
within_more : (whole part depth_whole depth_part now : ℕ) → (depth_whole ≤ whole) ⊎ (2 ^ 64 - 1 ≤ whole) → (depth_part ≤ part) ⊎ (2 ^ 64 - 1 ≤ part)
    → now ≤ max depth_whole (suc depth_part) → (now ≤ max whole (min (part + 1) (2 ^ 64 - 1))) ⊎ (2 ^ 64 - 1 ≤ max whole (min (part + 1) (2 ^ 64 - 1)))
within_more whole part depth_whole depth_part now (inr most) p h = inr (omega (arith, most))
within_more whole part depth_whole depth_part now (inl w) (inr most) h = inr (omega (arith, most))
within_more whole part depth_whole depth_part now (inl w) (inl p) h = elim (leb_tells (part + 1) (2 ^ 64 - 1)) [
  | inl few ↦ inl (omega (arith, w, p, h, few.1))
  | inr many ↦ inr (omega (arith, many.1))
]

pub item_added : (vs : List Value) (v : Value) (whole part : ℕ) → NestsWithin (array (items_view vs)) whole → NestsWithin (view v) part
    → NestsWithin (array (items_view (vs ++ v ∷ []))) (max whole (min (part + 1) (2 ^ 64 - 1)))
item_added vs v whole part w p = within_more whole part (depth (array (items_view vs))) (depth (view v)) (depth (array (items_view (vs ++ v ∷ [])))) w p
    (let more = ap (λ ds. items_depth (items_of ds)) (map-append view vs (v ∷ [])) ∙ items_more (map view vs) (view v) in omega (arith, more))

pub member_put : (k : List ℕ) (d : Data) (ms : Members) (whole part : ℕ) → NestsWithin (object ms) whole → NestsWithin d part
    → NestsWithin (object (put k d ms)) (max whole (min (part + 1) (2 ^ 64 - 1)))
member_put k d ms whole part w p = within_more whole part (depth (object ms)) (depth d) (depth (object (put k d ms))) w p (omega (arith, members_more k d ms))

-- as many levels as before, or more
pub still_within : (d : Data) (whole part : ℕ) → NestsWithin d whole → NestsWithin d (max whole (min (part + 1) (2 ^ 64 - 1)))
still_within d whole part (inl few) = inl (omega (arith, few))
still_within d whole part (inr most) = inr (omega (arith, most))

-- ---- after a push and an insertion, which may have failed

pub pushed : (b : Bool) (vs : List Value) (v : Value) (now : List Value) (whole part levels : ℕ) → now ≡ (if b then vs ++ v ∷ [] else vs) → levels ≡ max whole (min (part + 1) (2 ^ 64 - 1))
    → NestsWithin (array (items_view vs)) whole → NestsWithin (view v) part → NestsWithin (array (items_view now)) levels
pushed b vs v now whole part levels is are w p = subst (NestsWithin (array (items_view now))) (sym are) (subst (λ (xs : List Value). NestsWithin (array (items_view xs)) (max whole (min (part + 1) (2 ^ 64 - 1)))) (sym is) (by b)) where
  by : (c : Bool) → NestsWithin (array (items_view (if c then vs ++ v ∷ [] else vs))) (max whole (min (part + 1) (2 ^ 64 - 1)))
  by true = item_added vs v whole part w p
  by false = still_within (array (items_view vs)) whole part w

pub put_or_kept : {X E : Type 0} (r : Result X E) (k : String Global) (v : Value) (olds news : List (String Global × Value)) (whole part levels : ℕ)
    → OnOk r (news ≡ insert_entry string_cmp olds k v) → OnErr r (news ≡ olds) → levels ≡ max whole (min (part + 1) (2 ^ 64 - 1))
    → NestsWithin (object (members_view olds)) whole → NestsWithin (view v) part → NestsWithin (object (members_view news)) levels
put_or_kept (Ok x) k v olds news whole part levels is kept are w p = subst (NestsWithin (object (members_view news))) (sym are)
    (subst (λ (ms : Members). NestsWithin (object ms) (max whole (min (part + 1) (2 ^ 64 - 1)))) (sym (ap members_view is ∙ inserted olds k v)) (member_put (string_bytes k) (view v) (members_view olds) whole part w p))
put_or_kept (Err e) k v olds news whole part levels is kept are w p = subst (NestsWithin (object (members_view news))) (sym are)
    (subst (λ (ms : Members). NestsWithin (object ms) (max whole (min (part + 1) (2 ^ 64 - 1)))) (sym (ap members_view kept)) (still_within (object (members_view olds)) whole part w))
