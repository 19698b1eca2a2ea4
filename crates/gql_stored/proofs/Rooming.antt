-- Rooms for lists, one after the other.
use Rattle.std.proofs.Common.{◌≡◌, ◌+◌, ◌-◌, ◌≤◌, ◌⊎◌, inl, inr, ℕ, List, [], ◌∷◌, ◌++◌, Bool, true, false, cond, Option, Some, None, option_map, unwrap_or, Vec, Bor, vec_len, vec_capacity, Global, IfSome, codes, string_bytes, bytes_eq, refl, ap, sym, subst, ◌∙◌, arith}
use Rattle.std.proofs.lemmas.Slice.Eq.{bytes_eq-Decides}
use Rattle.std.specs.Map.{lookup}
use Rattle.serde_json.specs.Data.{Data, Items}
use Rattle.serde_json.specs.Events.{items_len}
use Rattle.serde_json.specs.View.{view, items_view}
use Rattle.serde_json.specs.declared.value.Value.{Value}
use Rattle.gql_stored.specs.Changes.{HasRoom, IfMember, IfList, list_in, list_of, member_of}
use Rattle.gql_stored.specs.Rooms.{Holds, HasRoomAmong, IsCovered}
use Rattle.gql_stored.specs.declared.additions.Room.{Room}
use Rattle.gql_stored.proofs.Changing.{same_len}
use Rattle.gql_stored.proofs.Covering.{holding}
use Rattle.gql_stored.proofs.Looking.{list_named_as_data}

pub among_last : (d : Data) (to : List ℕ) (n : ℕ) (rs : List Room) (r : Room) → string_bytes r.to ≡ to → Holds d to n r → HasRoomAmong d to n (rs ++ r ∷ [])
among_last d to n [] r is holds = inl (is, holds)
among_last d to n (first ∷ rs) r is holds = inr (among_last d to n rs r is holds)

among_still : (d : Data) (to : List ℕ) (n : ℕ) (rs : List Room) (r : Room) → HasRoomAmong d to n rs → HasRoomAmong d to n (rs ++ r ∷ [])
among_still d to n [] r h = absurd h
among_still d to n (first ∷ rs) r (inl h) = inl h
among_still d to n (first ∷ rs) r (inr h) = inr (among_still d to n rs r h)

pub still_covered : (v : Value) (q : List ℕ) (n : ℕ) (olds news : List Room) (r : Room) → news ≡ olds ++ r ∷ [] → IsCovered v olds q n → IsCovered v news q n
still_covered v q n olds news r is (inl own) = inl own
still_covered v q n olds news r is (inr h) = inr (subst (λ (rs : List Room). HasRoomAmong (view v) q n rs) (sym is) (among_still (view v) q n olds r h))

pub newly_covered : (v : Value) (to : List ℕ) (n : ℕ) (olds news : List Room) (r : Room) (l : Vec Value Global) → news ≡ olds ++ r ∷ [] → string_bytes r.to ≡ to → list_of to v ≡ Some l → vec_len l + n ≤ vec_capacity r.buffer
    → IsCovered v news to n
newly_covered v to n olds news r l is name found fits = inr (subst (λ (rs : List Room). HasRoomAmong (view v) to n rs) (sym is) (among_last (view v) to n olds r name
    (subst (λ (o : Option Items). IfSome o (λ ds. items_len ds + n ≤ vec_capacity r.buffer)) (sym (list_named_as_data to v ∙ ap (λ (o : Option (Vec Value Global)). option_map (λ (l : Vec Value Global). items_view l.items) o) found))
    (subst (λ (k : ℕ). k + n ≤ vec_capacity r.buffer) (sym (same_len l)) fits))))

-- ---- the table of how many effects go to each list

abbrev pub Count : Type 0
Count = Bor (List ℕ) × ℕ

-- how many go to the list of this name
abbrev pub count_in : List ℕ → List Count → Option ℕ
count_in q cs = lookup (λ (k : Bor (List ℕ)). bytes_eq q k.now) cs

-- what the counts ask for is left to do, or there is room for it
abbrev pub AreDone : Value → List Room → List Count → List Count → Type 0
AreDone v rooms all rest = (q : List ℕ) (n : ℕ) → count_in q all ≡ Some n → (count_in q rest ≡ Some n) ⊎ IsCovered v rooms q n

pub done_turn : (v : Value) (olds news : List Room) (all rest more : List Count) (c : Count) → rest ≡ c ∷ more → IsCovered v news c.0.now c.1
    → ((q : List ℕ) (n : ℕ) → IsCovered v olds q n → IsCovered v news q n) → AreDone v olds all rest → AreDone v news all more
done_turn v olds news all rest more c is here still done q n asked = by (done q n asked) where
  at : (b : Bool) → bytes_eq q c.0.now ≡ b → cond b (Some c.1) (count_in q more) ≡ Some n → (count_in q more ≡ Some n) ⊎ IsCovered v news q n
  at false e found = inl found
  at true e found =
      let count : c.1 ≡ n = cc in
      inr (subst (λ (m : ℕ). IsCovered v news q m) count (subst (λ (k : List ℕ). IsCovered v news k c.1) (sym ((bytes_eq-Decides q c.0.now).0 e)) here))

  by : (count_in q rest ≡ Some n) ⊎ IsCovered v olds q n → (count_in q more ≡ Some n) ⊎ IsCovered v news q n
  by (inl left) = at (bytes_eq q c.0.now) refl (subst (λ (cs : List Count). count_in q cs ≡ Some n) is left)
  by (inr covered) = inr (still q n covered)

pub no_more : (v : Value) (to : List ℕ) → IfList to (HasRoom 0) v
no_more v to = holding (member_of (codes "query") v) (IfMember to (HasRoom 0))
    (λ w. holding (member_of to w) (HasRoom 0) (λ x. holding (list_in x) (λ l. 0 ≤ vec_capacity l - vec_len l) (λ l. omega arith)))

pub all_done : (v : Value) (rooms : List Room) (all rest : List Count) → rest ≡ [] → AreDone v rooms all rest → (to : List ℕ) → IsCovered v rooms to (unwrap_or (count_in to all) 0)
all_done v rooms all rest none done to = by (count_in to all) refl where
  of : (n : ℕ) → (count_in to rest ≡ Some n) ⊎ IsCovered v rooms to n → IsCovered v rooms to n
  of n (inl left) = absurd (let never : ⊥ = cc (subst (λ (cs : List Count). count_in to cs ≡ Some n) none left) in never)
  of n (inr covered) = covered

  by : (o : Option ℕ) → count_in to all ≡ o → IsCovered v rooms to (unwrap_or o 0)
  by None e = inl (no_more v to)
  by (Some n) e = of n (done to n e)
