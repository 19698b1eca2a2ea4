-- What an item asks for, and what is found at it.
use Rattle.std.proofs.Common.{◌≡◌, ◌⊎◌, inl, inr, ◌<◌, ℕ, List, ◌++◌, true, flat_map, length, sym, subst, arith, Contains}
use Rattle.std.proofs.lemmas.List.Elements.{Contains-append_left, Contains-append_right, Contains-append_cases}
use Rattle.gql_clashes.specs.declared.sets.Mode.{Mode}
use Rattle.gql_clashes.specs.declared.sets.Pair.{Pair}
use Rattle.gql_clashes.specs.declared.sets.Sets.{Sets}
use Rattle.gql_clashes.specs.declared.search.Item.{Item}
use Rattle.gql_clashes.specs.declared.groups.Class.{Class}
use Rattle.gql_clashes.specs.Clashes.{is_bad}
use Rattle.gql_clashes.specs.Items.{HasPair, Asks}
use Rattle.gql_clashes.specs.Numbered.{IsWhole, nodes_of}
use Rattle.gql_clashes.specs.Compared.{IsPlanned, Plan, asked_at, bad_joined, fields_in, fields_over, item_of, items_joined, lefts_of, pair_of, rights_of}
use Rattle.gql_clashes.specs.Seen.{IsInside}
use Rattle.gql_clashes.proofs.Members.{Contains-flat_map, Contains-flat_map_from, Contains-map, Contains-map_from}
use Rattle.gql_clashes.proofs.Reading.{HasItemFor, IsAskedFor, IsBadOf, item_inside, only_in}
use Rattle.gql_clashes.proofs.Turning.{bad_joined_from, bad_joined_has, items_joined_from, items_joined_has}

module _ (z : Sets) (whole : IsWhole z) (count : ℕ) (p : Plan) (plan : IsPlanned z count p) where
  -- the fields of a group are fields
  over_inside : (u f : ℕ) → Contains (fields_over z (p.bodies u)) f → f < length z.fields.items
  over_inside u f h = let r = Contains-flat_map_from (nodes_of z).direct (p.bodies u) f h in whole.fields r.0 f r.2

  pub group_items : (m : Mode) (s t : ℕ) (y : Item) → Contains (items_joined z m (p.classes s) (p.classes t)) y → IsAskedFor z count p.bodies m (fields_over z (p.bodies s)) (fields_over z (p.bodies t)) y
  group_items m s t y h = items_joined_from z m (fields_over z (p.bodies s)) (fields_over z (p.bodies t)) (p.classes s) (p.classes t) (plan.classing s) (plan.classing t) whole count p.bodies plan.grouped (plan.joined s) (plan.joined t) (over_inside s) (over_inside t) y h

  pub group_asks : (m : Mode) (s t a b f g u v : ℕ) (n : Mode) → Contains (p.bodies s) a → Contains (p.bodies t) b → HasPair (nodes_of z) a b f g → Asks (nodes_of z) m f g u v n → HasItemFor p.bodies (items_joined z m (p.classes s) (p.classes t)) u v n
  group_asks m s t a b f g u v n ha hb h k = items_joined_has z m (fields_over z (p.bodies s)) (fields_over z (p.bodies t)) (p.classes s) (p.classes t) (plan.classing s) (plan.classing t) whole count p.bodies plan.grouped (plan.joined s) (plan.joined t) (over_inside s) (over_inside t)
      f g u v n (Contains-flat_map (nodes_of z).direct (p.bodies s) a f ha h.0) (Contains-flat_map (nodes_of z).direct (p.bodies t) b g hb h.1) h.2 k

  pub group_bad : (m : Mode) (s t a b f g : ℕ) → Contains (p.bodies s) a → Contains (p.bodies t) b → HasPair (nodes_of z) a b f g → is_bad (nodes_of z) m f g ≡ true → Contains (bad_joined z m (p.classes s) (p.classes t)) (pair_of f g m)
  group_bad m s t a b f g ha hb h e = bad_joined_has z m (fields_over z (p.bodies s)) (fields_over z (p.bodies t)) (p.classes s) (p.classes t) (plan.classing s) (plan.classing t) f g
      (Contains-flat_map (nodes_of z).direct (p.bodies s) a f ha h.0) (Contains-flat_map (nodes_of z).direct (p.bodies t) b g hb h.1) h.2 e

  pub group_found : (m : Mode) (s t : ℕ) (q : Pair) → Contains (bad_joined z m (p.classes s) (p.classes t)) q → IsBadOf z m (fields_over z (p.bodies s)) (fields_over z (p.bodies t)) q
  group_found m s t q h = bad_joined_from z m (fields_over z (p.bodies s)) (fields_over z (p.bodies t)) (p.classes s) (p.classes t) (plan.classing s) (plan.classing t) q h

  module _ (x : Item) where
    abbrev lefts : List Item
    lefts = flat_map (lefts_of z x) (p.bodies x.left)

    abbrev rights : List Item
    rights = flat_map (rights_of z x) (p.bodies x.right)

    abbrev belows : List Item
    belows = items_joined z x.mode (p.classes x.left) (p.classes x.right)

    pub asked_left : (s u : ℕ) → Contains (p.bodies x.left) s → Contains ((nodes_of z).spreads s) u → Contains (asked_at z p x) (item_of u x.right x.mode)
    asked_left s u h c = Contains-append_left (belows ++ lefts) rights (item_of u x.right x.mode) (Contains-append_right belows lefts (item_of u x.right x.mode)
        (Contains-flat_map (lefts_of z x) (p.bodies x.left) s (item_of u x.right x.mode) h (Contains-map (λ (a : ℕ). item_of a x.right x.mode) ((nodes_of z).spreads s) u c)))

    pub asked_right : (s u : ℕ) → Contains (p.bodies x.right) s → Contains ((nodes_of z).spreads s) u → Contains (asked_at z p x) (item_of x.left u x.mode)
    asked_right s u h c = Contains-append_right (belows ++ lefts) rights (item_of x.left u x.mode)
        (Contains-flat_map (rights_of z x) (p.bodies x.right) s (item_of x.left u x.mode) h (Contains-map (λ (a : ℕ). item_of x.left a x.mode) ((nodes_of z).spreads s) u c))

    pub asked_below : (a b f g u v : ℕ) (n : Mode) → Contains (p.bodies x.left) a → Contains (p.bodies x.right) b → HasPair (nodes_of z) a b f g → Asks (nodes_of z) x.mode f g u v n → HasItemFor p.bodies (asked_at z p x) u v n
    asked_below a b f g u v n ha hb h k =
        let r = group_asks x.mode x.left x.right a b f g u v n ha hb h k in
        (r.0, r.1, r.2, r.3, Contains-append_left (belows ++ lefts) rights (item_of r.0 r.1 n) (Contains-append_left belows lefts (item_of r.0 r.1 n) r.4))

    -- and for nothing else
    abbrev IsSpreadLeft : Item → Type 0
    IsSpreadLeft y = (s u : ℕ) × Contains (p.bodies x.left) s × Contains ((nodes_of z).spreads s) u × (y ≡ item_of u x.right x.mode)

    abbrev IsSpreadRight : Item → Type 0
    IsSpreadRight y = (s u : ℕ) × Contains (p.bodies x.right) s × Contains ((nodes_of z).spreads s) u × (y ≡ item_of x.left u x.mode)

    pub asked_from : (y : Item) → Contains (asked_at z p x) y → IsAskedFor z count p.bodies x.mode (fields_over z (p.bodies x.left)) (fields_over z (p.bodies x.right)) y ⊎ (IsSpreadLeft y ⊎ IsSpreadRight y)
    asked_from y h = elim (Contains-append_cases (belows ++ lefts) rights y h) [
      | inr c ↦
          let r = Contains-flat_map_from (rights_of z x) (p.bodies x.right) y c in
          let q = Contains-map_from (λ (a : ℕ). item_of x.left a x.mode) ((nodes_of z).spreads r.0) y r.2 in
          inr (inr (r.0, q.0, r.1, q.1, sym q.2))
      | inl d ↦ elim (Contains-append_cases belows lefts y d) [
        | inr c ↦
            let r = Contains-flat_map_from (lefts_of z x) (p.bodies x.left) y c in
            let q = Contains-map_from (λ (a : ℕ). item_of a x.right x.mode) ((nodes_of z).spreads r.0) y r.2 in
            inr (inl (r.0, q.0, r.1, q.1, sym q.2))
        | inl c ↦ inl (group_items x.mode x.left x.right y c)
      ]
    ]

    -- what is asked for is inside
    pub asked_inside : (y : Item) → IsInside count x → Contains (asked_at z p x) y → IsInside count y
    asked_inside y i c = elim (asked_from y c) [
      | inl r ↦ rw r.3 (item_inside count r.0 r.1 r.2 r.4 r.5)
      | inr o ↦ elim o [
        | inl r ↦ rw r.4 (item_inside count r.1 x.right x.mode (omega (arith, whole.spreads r.0 r.1 r.3, plan.grouped.size)) i.1)
        | inr r ↦ rw r.4 (item_inside count x.left r.1 x.mode i.0 (omega (arith, whole.spreads r.0 r.1 r.3, plan.grouped.size)))
      ]
    ]

  pub items_inside : (m : Mode) (s t : ℕ) (y : Item) → Contains (items_joined z m (p.classes s) (p.classes t)) y → IsInside count y
  items_inside m s t y c = let r = group_items m s t y c in rw r.3 (item_inside count r.0 r.1 r.2 r.4 r.5)

  -- the fields of the classes of a group are fields
  pub classes_inside : (s : ℕ) (cs : List Class) → cs ≡ p.classes s → (c : Class) (f : ℕ) → Contains cs c → Contains (fields_in c) f → f < length z.fields.items
  classes_inside s cs e c f a b = over_inside s f (only_in z (fields_over z (p.bodies s)) (p.classes s) (plan.classing s) c (subst (λ l. Contains l c) e a) f b)
