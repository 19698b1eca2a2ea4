-- Two fields, and two lists of classes, in the other order.
use Rattle.std.proofs.Common.{◌&&◌, ◌≡◌, ◌≢◌, ℕ, ◌<◌, ◌≤◌, inl, inr, List, Bool, true, false, nat_eq, nat_lt, nat_le, cond, length, map, ap, sym, subst, ◌∙◌, refl, arith, Contains}
use Rattle.std.proofs.lemmas.Bool.{cases_lt}
use Rattle.std.proofs.lemmas.Bool.Decides.{Decides-eqb, Decides-ltb}
use Rattle.gql_clashes.specs.declared.sets.Mode.{Mode}
use Rattle.gql_clashes.specs.declared.sets.Pair.{Pair}
use Rattle.gql_clashes.specs.declared.sets.Sets.{Sets}
use Rattle.gql_clashes.specs.declared.search.Item.{Item}
use Rattle.gql_clashes.specs.declared.groups.Class.{Class}
use Rattle.gql_clashes.specs.Clashes.{AreTwo, is_bad}
use Rattle.gql_clashes.specs.Items.{Asks, Joins}
use Rattle.gql_clashes.specs.Numbered.{IsWhole, field_at, nodes_of}
use Rattle.gql_clashes.specs.Compared.{IsClassing, IsGrouped, IsJoined, bad_among, bad_joined, fields_in, items_among, items_joined, pair_of}
use Rattle.gql_clashes.proofs.Cover.{bad_turns, mode_turns, two_turn}
use Rattle.gql_clashes.proofs.Reading.{HasItemFor, IsAskedFor, IsAskedOf, IsBadOf, bad_from, bad_has, item_swapped, items_from, items_has, number_tests}

-- a pair in its order
pub pair_less : (f g : ℕ) (m : Mode) → f < g → pair_of f g m ≡ record { first = f; second = g; mode = m }
pair_less f g m h = let e : nat_lt f g ≡ true = (Decides-ltb f g).1 h in rw e refl

under_test : (b : Bool) (p q : Pair) → (b ≡ true → ⊥) → cond b p q ≡ q
under_test true p q h = absurd (h refl)
under_test false p q h = refl

pub pair_more : (f g : ℕ) (m : Mode) → g ≤ f → pair_of f g m ≡ record { first = g; second = f; mode = m }
pair_more f g m h = under_test (nat_lt f g) (record { first = f; second = g; mode = m }) (record { first = g; second = f; mode = m }) (λ e. let l : f < g = (Decides-ltb f g).0 e in omega arith)

-- different fields have different numbers
pub two_apart : (z : Sets) (f g : ℕ) → AreTwo (nodes_of z) f g → f ≢ g
two_apart z f g two e =
    let a : (nat_eq (field_at z f).file (field_at z f).file && nat_eq (field_at z f).start (field_at z f).start) ≡ true =
    ap (λ b. b && nat_eq (field_at z f).start (field_at z f).start) ((Decides-eqb (field_at z f).file (field_at z f).file).1 refl)
    ∙ (Decides-eqb (field_at z f).start (field_at z f).start).1 refl in
    let b : (nat_eq (field_at z f).file (field_at z f).file && nat_eq (field_at z f).start (field_at z f).start) ≡ false =
    ap (λ x. nat_eq (field_at z f).file (field_at z x).file && nat_eq (field_at z f).start (field_at z x).start) e ∙ two.0 in
    let c : true ≡ false = sym a ∙ b in cc

pub pair_turns : (z : Sets) (f g : ℕ) (m : Mode) → AreTwo (nodes_of z) f g → pair_of f g m ≡ pair_of g f m
pair_turns z f g m two = elim (cases_lt f g) [
  | inl l ↦ pair_less f g m l ∙ sym (pair_more g f m (omega (arith, l)))
  | inr h ↦ let l : g < f = let ne : f ≢ g = two_apart z f g two in omega arith in pair_more f g m h ∙ sym (pair_less g f m l)
]

-- what two fields ask for, and what they give
joins_turned : (z : Sets) (f g u v : ℕ) → Joins (nodes_of z) f g u v → Joins (nodes_of z) g f v u
joins_turned z f g u v j = elim j [
  | inl p ↦ inr (inl (p.1, p.0))
  | inr o ↦ elim o [ inl p ↦ inl (p.1, p.0) | inr p ↦ inr (inr (p.1, p.0)) ]
]

asks_turned : (z : Sets) (m : Mode) (f g u v : ℕ) (n : Mode) → Asks (nodes_of z) m f g u v n → Asks (nodes_of z) m g f v u n
asks_turned z m f g u v n k = (bad_turns (nodes_of z) (number_tests z) m g f ∙ k.0, mode_turns (nodes_of z) (number_tests z) m g f ∙ k.1, joins_turned z f g u v k.2)

bad_turned : (z : Sets) (m : Mode) (fs gs : List ℕ) (p : Pair) → IsBadOf z m gs fs p → IsBadOf z m fs gs p
bad_turned z m fs gs p r = (
  r.1,
  r.0,
  r.3,
  r.2,
  two_turn (nodes_of z) (number_tests z) r.0 r.1 r.4,
  bad_turns (nodes_of z) (number_tests z) m r.1 r.0 ∙ r.5,
  r.6 ∙ pair_turns z r.0 r.1 m r.4,
)

asked_of_turned : (z : Sets) (m : Mode) (fs gs : List ℕ) (u v : ℕ) (n : Mode) → IsAskedOf z m gs fs v u n → IsAskedOf z m fs gs u v n
asked_of_turned z m fs gs u v n r = (
  r.1,
  r.0,
  r.3,
  r.2,
  two_turn (nodes_of z) (number_tests z) r.0 r.1 r.4,
  asks_turned z m r.0 r.1 v u n r.5,
)

asked_turned : (z : Sets) (count : ℕ) (bodies : ℕ → List ℕ) (m : Mode) (fs gs : List ℕ) (y : Item) → IsAskedFor z count bodies m gs fs y → IsAskedFor z count bodies m fs gs y
asked_turned z count bodies m fs gs y r = (
  r.1,
  r.0,
  r.2,
  r.3 ∙ item_swapped r.0 r.1 r.2,
  r.5,
  r.4,
  λ u v hu hv. asked_of_turned z m fs gs u v r.2 (r.6 v u hv hu),
)

item_turned : (bodies : ℕ → List ℕ) (items : List Item) (u v : ℕ) (n : Mode) → HasItemFor bodies items v u n → HasItemFor bodies items u v n
item_turned bodies items u v n r = (r.1, r.0, r.3, r.2, subst (λ y. Contains items y) (item_swapped r.0 r.1 n) r.4)

-- from the shorter list on
either_list : {A : Type 0} (P : List A → Type 0) (b : Bool) (xs ys : List A) → P xs → P ys → P (cond b xs ys)
either_list P true xs ys p q = p
either_list P false xs ys p q = q

from_either : {A : Type 0} (P : Type 0) (x : A) (b : Bool) (xs ys : List A) → (Contains xs x → P) → (Contains ys x → P) → Contains (cond b xs ys) x → P
from_either P x true xs ys p q h = p h
from_either P x false xs ys p q h = q h

module _ (z : Sets) (m : Mode) (fs gs : List ℕ) (cs ds : List Class) (hc : IsClassing z fs (map fields_in cs)) (hd : IsClassing z gs (map fields_in ds)) where
  pub bad_joined_has : (f g : ℕ) → Contains fs f → Contains gs g → AreTwo (nodes_of z) f g → is_bad (nodes_of z) m f g ≡ true → Contains (bad_joined z m cs ds) (pair_of f g m)
  bad_joined_has f g a b two e = either_list (λ l. Contains l (pair_of f g m)) (nat_le (length cs) (length ds)) (bad_among z m cs ds) (bad_among z m ds cs)
      (bad_has z m fs gs cs ds hc hd f g a b two e)
      (subst (λ p. Contains (bad_among z m ds cs) p) (sym (pair_turns z f g m two))
      (bad_has z m gs fs ds cs hd hc g f b a (two_turn (nodes_of z) (number_tests z) f g two) (bad_turns (nodes_of z) (number_tests z) m g f ∙ e)))

  pub bad_joined_from : (p : Pair) → Contains (bad_joined z m cs ds) p → IsBadOf z m fs gs p
  bad_joined_from p h = from_either (IsBadOf z m fs gs p) p (nat_le (length cs) (length ds)) (bad_among z m cs ds) (bad_among z m ds cs)
      (λ c. bad_from z m fs gs cs ds hc hd p c)
      (λ c. bad_turned z m fs gs p (bad_from z m gs fs ds cs hd hc p c)) h

  module _ (whole : IsWhole z) (count : ℕ) (bodies : ℕ → List ℕ) (groups : IsGrouped z count bodies)
      (jc : (c : Class) → Contains cs c → IsJoined z count bodies (fields_in c) c.below) (jd : (d : Class) → Contains ds d → IsJoined z count bodies (fields_in d) d.below)
      (ff : (f : ℕ) → Contains fs f → f < length z.fields.items) (fg : (g : ℕ) → Contains gs g → g < length z.fields.items) where
    pub items_joined_has : (f g u v : ℕ) (n : Mode) → Contains fs f → Contains gs g → AreTwo (nodes_of z) f g → Asks (nodes_of z) m f g u v n → HasItemFor bodies (items_joined z m cs ds) u v n
    items_joined_has f g u v n a b two k = either_list (λ l. HasItemFor bodies l u v n) (nat_le (length cs) (length ds)) (items_among z m cs ds) (items_among z m ds cs)
        (items_has z whole m count bodies groups fs gs cs ds hc hd jc jd ff fg f g u v n a b two k)
        (item_turned bodies (items_among z m ds cs) u v n
        (items_has z whole m count bodies groups gs fs ds cs hd hc jd jc fg ff g f v u n b a (two_turn (nodes_of z) (number_tests z) f g two) (asks_turned z m f g u v n k)))

    pub items_joined_from : (y : Item) → Contains (items_joined z m cs ds) y → IsAskedFor z count bodies m fs gs y
    items_joined_from y h = from_either (IsAskedFor z count bodies m fs gs y) y (nat_le (length cs) (length ds)) (items_among z m cs ds) (items_among z m ds cs)
        (λ c. items_from z whole m count bodies groups fs gs cs ds hc hd jc jd ff fg y c)
        (λ c. asked_turned z count bodies m fs gs y (items_from z whole m count bodies groups gs fs ds cs hd hc jd jc fg ff y c)) h
