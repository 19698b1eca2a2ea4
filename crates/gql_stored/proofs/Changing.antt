-- A change to a list, and room in it.
use Rattle.std.proofs.Common.{◌≡◌, ◌+◌, ◌-◌, ◌≤◌, ◌++◌, ℕ, List, [], ◌∷◌, map, Option, Some, Vec, vec_len, vec_capacity, Global, IfSome, inl, inr, refl, ap, sym, subst, ◌∙◌, arith, rules}
use Rattle.std.proofs.lemmas.List.{map-append}
use Rattle.serde_json.specs.Data.{Data, item, array}
use Rattle.serde_json.specs.Events.{items_len}
use Rattle.serde_json.specs.View.{view, items_of, items_view}
use Rattle.serde_json.specs.declared.value.Value.{Value, Array, Object, the_lemmas}
use Rattle.serde_json.proofs.Views.{view-Array, items_len-items_view}
use Rattle.gql_stored.specs.Effects.{with_end, with_last}
use Rattle.gql_stored.specs.Changes.{list_in, members_in, HasRoom, LeavesRoom, IsChanged, Takes, Entries}
use Rattle.gql_stored.specs.declared.change.Change.TheVariants as change

pub list_in-Array : (v : Vec Value Global) → list_in (Array v) ≡ Some v
list_in-Array v = search (rules, the_lemmas)

pub members_in-Object : (m : Entries) → members_in (Object m) ≡ Some m
members_in-Object m = search (rules, the_lemmas)

pub room_in-Array : (n : ℕ) (v : Vec Value Global) → HasRoom n (Array v) → n ≤ vec_capacity v - vec_len v
room_in-Array n v h = subst (λ (o : Option (Vec Value Global)). IfSome o (λ l. n ≤ vec_capacity l - vec_len l)) (list_in-Array v) h

pub room_of-Array : (n : ℕ) (v : Vec Value Global) → n ≤ vec_capacity v - vec_len v → HasRoom n (Array v)
room_of-Array n v h = subst (λ (o : Option (Vec Value Global)). IfSome o (λ l. n ≤ vec_capacity l - vec_len l)) (sym (list_in-Array v)) h

pub items_after : (ds : List Data) (d : Data) → items_of (ds ++ d ∷ []) ≡ with_end d (items_of ds)
items_after [] d = refl
items_after (e ∷ ds) d = ap (item e) (items_after ds d)

-- the length of a list, as data and with its capacity
pub same_len : (v : Vec Value Global) → items_len (items_view v.items) ≡ vec_len v
same_len v = items_len-items_view v.items ∙ search rules

pub takes-Array : (n : ℕ) (b v : Vec Value Global) → Takes b n (view (Array v)) → vec_len v + n ≤ vec_capacity b
takes-Array n b v h = subst (λ (k : ℕ). k + n ≤ vec_capacity b) (same_len v) (subst (Takes b n) (view-Array v) h)

pub moved : (b v w : Vec Value Global) → w.items ≡ v.items → vec_len w ≡ vec_len v → vec_capacity v ≤ vec_capacity w → vec_capacity b ≤ vec_capacity w → IsChanged (change.Move b) (Array v) (Array w)
moved b v w is len own room = (view-Array w ∙ ap (λ vs. array (items_view vs)) is ∙ sym (view-Array v), λ n h. room_of-Array n w (by n h)) where
  by : (n : ℕ) → LeavesRoom (change.Move b) n (Array v) → n ≤ vec_capacity w - vec_len w
  by n (inl h) = let fits = room_in-Array n v h in omega (arith, fits)
  by n (inr h) = let fits = takes-Array n b v h in omega (arith, fits)

pub added : (x : Value) (v w : Vec Value Global) → w.items ≡ v.items ++ x ∷ [] → vec_len w ≡ vec_len v + 1 → vec_capacity w ≡ vec_capacity v → IsChanged (change.Add x) (Array v) (Array w)
added x v w is len room = (
  view-Array w ∙ ap (λ vs. array (items_view vs)) is ∙ ap array (ap items_of (map-append view v.items (x ∷ [])) ∙ items_after (map view v.items) (view x)) ∙ ap (with_last (view x)) (sym (view-Array v)),
  λ n h. room_of-Array n w (let fits = room_in-Array (n + 1) v h in omega (arith, fits)),
)
