-- Rooms and effects, one after the other.
use Rattle.std.proofs.Common.{◌≡◌, ◌+◌, ◌≤◌, inl, inr, ℕ, List, [], ◌∷◌, Bool, cond, map, Option, Some, None, String, Vec, Global, IfSome, codes, string_bytes, bytes_eq, refl, ap, sym, subst, ◌∙◌, arith}
use Rattle.std.proofs.lemmas.List.Sums.{sum_by-cons}
use Rattle.std.proofs.lemmas.Slice.Eq.{bytes_eq-Decides}
use Rattle.serde_json.specs.Data.{Data}
use Rattle.serde_json.specs.View.{view}
use Rattle.serde_json.specs.declared.value.Value.{Value}
use Rattle.gql_stored.specs.Effects.{appended, after}
use Rattle.gql_stored.specs.Changes.{HasRoom, member_of, IfMember, IfList, IsReady, IsChanged, IsChangedAt}
use Rattle.gql_stored.specs.Rooms.{effect_of, Holds, HasRoomAmong, IsCovered, count_to}
use Rattle.gql_stored.specs.declared.additions.Room.{Room}
use Rattle.gql_stored.specs.declared.effect.Effect.{Effect}
use Rattle.gql_stored.specs.declared.change.Change.TheVariants as change
use Rattle.gql_stored.proofs.Stepping.{list_as_changed, moved_as_data, added_step, moved_step, moved_in, less_in_list}

-- ---- a room is used

pub room_used : (r : Room) (rs : List Room) (q : List ℕ) (n : ℕ) (old new : Value) → IsChangedAt (codes "query") (IsChangedAt (string_bytes r.to) (IsChanged (change.Move r.buffer))) old new
    → IsCovered old (r ∷ rs) q n → IsCovered new rs q n
room_used r rs q n old new h (inl own) = inl (moved_step r.buffer (string_bytes r.to) q n old new h own)
room_used r rs q n old new h (inr (inl (is, holds))) = inl (subst (λ (k : List ℕ). IfList k (HasRoom n) new) is
    (moved_in r.buffer (string_bytes r.to) n old new h (subst (λ (k : List ℕ). Holds (view old) k n r) (sym is) holds)))
room_used r rs q n old new h (inr (inr later)) = inr (subst (λ (d : Data). HasRoomAmong d q n rs) (sym (moved_as_data (string_bytes r.to) r.buffer old new h)) later)

pub all_used : (q : List ℕ) (n : ℕ) (v : Value) → IsCovered v [] q n → IfList q (HasRoom n) v
all_used q n v (inl own) = own
all_used q n v (inr none) = absurd none

pub holding : {A : Type 0} (o : Option A) (P : A → Type 0) → ((x : A) → P x) → IfSome o P
holding None P each = tt
holding (Some x) P each = each x

pub any_ready : (b : Vec Value Global) (to : List ℕ) (v : Value) → b.items ≡ [] → IfList to (IsReady (change.Move b)) v
any_ready b to v empty = holding (member_of (codes "query") v) (IfMember to (IsReady (change.Move b)))
    (λ w. holding (member_of to w) (IsReady (change.Move b)) (λ x. empty))

-- ---- an effect is added

-- room for all these effects
abbrev pub RoomForAll : List Effect → Value → Type 0
RoomForAll es v = (q : List ℕ) → IfList q (HasRoom (count_to q es)) v

count_first : (q : List ℕ) (e : Effect) (es : List Effect) → count_to q (e ∷ es) ≡ cond (bytes_eq q (string_bytes e.to)) 1 0 + count_to q es
count_first q e es = sum_by-cons (λ (x : Effect). cond (bytes_eq q (string_bytes x.to)) 1 0) e es

count_own : (e : Effect) (es : List Effect) → 1 ≤ count_to (string_bytes e.to) (e ∷ es)
count_own e es =
    let own : ◌≡◌ {A = ℕ} (cond (bytes_eq (string_bytes e.to) (string_bytes e.to)) 1 0) 1 =
    ap (λ (b : Bool). cond b 1 0) ((bytes_eq-Decides (string_bytes e.to) (string_bytes e.to)).1 refl) in
    omega (arith, count_first (string_bytes e.to) e es, own)

pub effect_ready : (e : Effect) (es : List Effect) (v : Value) → RoomForAll (e ∷ es) v → IfList (string_bytes e.to) (IsReady (change.Add e.value)) v
effect_ready e es v rooms = less_in_list 1 (count_to (string_bytes e.to) (e ∷ es)) (count_own e es) (string_bytes e.to) v (rooms (string_bytes e.to))

pub effect_added : (e : Effect) (es : List Effect) (old new : Value) → IsChangedAt (codes "query") (IsChangedAt (string_bytes e.to) (IsChanged (change.Add e.value))) old new
    → RoomForAll (e ∷ es) old → RoomForAll es new
effect_added e es old new h rooms q = added_step e.value (string_bytes e.to) q (count_to q es) old new h
    (subst (λ (n : ℕ). IfList q (HasRoom n) old) (count_first q e es) (rooms q))

pub effect_as_data : (e : Effect) (old new : Value) → IsChangedAt (codes "query") (IsChangedAt (string_bytes e.to) (IsChanged (change.Add e.value))) old new
    → view new ≡ appended (effect_of e) (view old)
effect_as_data e old new h = list_as_changed (string_bytes e.to) (change.Add e.value) old new h

-- ---- the turns of the loops

pub room_turn : (rooms rest : List Room) (r : Room) (now : List ℕ) (q : List ℕ) (n : ℕ) (old new : Value) → rooms ≡ r ∷ rest → now ≡ string_bytes r.to
    → IsChangedAt (codes "query") (IsChangedAt now (IsChanged (change.Move r.buffer))) old new → IsCovered old rooms q n → IsCovered new rest q n
room_turn rooms rest r now q n old new is name h covered = room_used r rest q n old new
    (subst (λ (k : List ℕ). IsChangedAt (codes "query") (IsChangedAt k (IsChanged (change.Move r.buffer))) old new) name h)
    (subst (λ (rs : List Room). IsCovered old rs q n) is covered)

pub effect_is_ready : (es rest : List Effect) (e : Effect) (now : List ℕ) (v : Value) → es ≡ e ∷ rest → now ≡ string_bytes e.to → RoomForAll es v → IfList now (IsReady (change.Add e.value)) v
effect_is_ready es rest e now v is name rooms = subst (λ (k : List ℕ). IfList k (IsReady (change.Add e.value)) v) (sym name)
    (effect_ready e rest v (subst (λ (xs : List Effect). RoomForAll xs v) is rooms))

pub effect_turn : (es rest : List Effect) (e : Effect) (now : List ℕ) (old new : Value) → es ≡ e ∷ rest → now ≡ string_bytes e.to
    → IsChangedAt (codes "query") (IsChangedAt now (IsChanged (change.Add e.value))) old new → RoomForAll es old → RoomForAll rest new
effect_turn es rest e now old new is name h rooms = effect_added e rest old new
    (subst (λ (k : List ℕ). IsChangedAt (codes "query") (IsChangedAt k (IsChanged (change.Add e.value))) old new) name h)
    (subst (λ (xs : List Effect). RoomForAll xs old) is rooms)

pub value_turn : (es rest : List Effect) (e : Effect) (now : List ℕ) (old new : Value) → es ≡ e ∷ rest → now ≡ string_bytes e.to
    → IsChangedAt (codes "query") (IsChangedAt now (IsChanged (change.Add e.value))) old new → after (map effect_of rest) (view new) ≡ after (map effect_of es) (view old)
value_turn es rest e now old new is name h = ap (after (map effect_of rest)) (effect_as_data e old new
    (subst (λ (k : List ℕ). IsChangedAt (codes "query") (IsChangedAt k (IsChanged (change.Add e.value))) old new) name h))
    ∙ ap (λ (xs : List Effect). after (map effect_of xs) (view old)) (sym is)

-- an effect that has been taken apart
pub first_by_parts : (es rest : List Effect) (e : Effect) (p : String Global × Value) → es ≡ e ∷ rest → p ≡ (e.to, e.value) → es ≡ record { to = p.0; value = p.1 } ∷ rest
first_by_parts es rest e p is parts = is ∙ ap (λ (q : String Global × Value). let f : Effect = record { to = q.0; value = q.1 } in f ∷ rest) (sym parts)
