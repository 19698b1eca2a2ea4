-- The groups of fields with one more field.
use Rattle.std.proofs.Common.{◌≡◌, ℕ, List, [], ◌∷◌, ◌++◌, Bool, true, false, not, ◌||◌, map, filter, bytes_eq, refl, sym, ap, ◌∙◌, subst, inl, inr, if◌then◌else◌, ◌+◌, ◌<◌, length, get_or, take, append-nil}
use Rattle.std.proofs.lemmas.List.{take_more}
use Rattle.std.proofs.lemmas.Slice.Eq.{bytes_eq-Decides}
use Rattle.std.specs.Cmp.Lexicographic.{nat_list_eq_equiv}
use Rattle.std.specs.List.{list_any}
use Rattle.indexmap.specs.IndexSet.{insert_key}
use Rattle.gql_collect.specs.Borrowed.{node_of, nodes_of}
use Rattle.gql_collect.specs.Groups.{Group, firsts, group, groups_of, key_of}
use Rattle.gql_collect.specs.Nodes.{FieldNode}
use Rattle.gql_collect.specs.Putting.{put}
use Rattle.gql_collect.specs.declared.node.FieldNode.{FieldNode as Node}
use Rattle.gql_collect.proofs.Firsts.{either, firsts_more}

same_key : (k q : List ℕ) → bytes_eq k q ≡ true → k ≡ q
same_key k q e = (bytes_eq-Decides k q).0 e

swap : (k q : List ℕ) → bytes_eq k q ≡ bytes_eq q k
swap k q = nat_list_eq_equiv.symm k q

filter_append : {A : Type 0} (p : A → Bool) (xs ys : List A) → filter p (xs ++ ys) ≡ filter p xs ++ filter p ys
filter_append p [] ys = refl
filter_append p (x ∷ xs) ys = elim (either (p x)) [
  | inl h ↦ rw h (ap (λ r. x ∷ r) (filter_append p xs ys))
  | inr h ↦ rw h (filter_append p xs ys)
]

map_append : {A B : Type 0} (f : A → B) (xs ys : List A) → map f (xs ++ ys) ≡ map f xs ++ map f ys
map_append f [] ys = refl
map_append f (x ∷ xs) ys = ap (λ r. f x ∷ r) (map_append f xs ys)

or_cases : (a b : Bool) → (a || b) ≡ false → (a ≡ false) × (b ≡ false)
or_cases true b e = absurd (cc e)
or_cases false b e = (refl, e)

-- ---- keys, each once

abbrev pub AreApart : List (List ℕ) → Type 0
AreApart [] = Unit {0}
AreApart (k ∷ ks) = (list_any (bytes_eq k) ks ≡ false) × AreApart ks

none_left : (p q : List ℕ → Bool) (xs : List (List ℕ)) → list_any p xs ≡ false → list_any p (filter q xs) ≡ false
none_left p q [] e = refl
none_left p q (x ∷ xs) e =
    let c = or_cases (p x) (list_any p xs) e in
    elim (either (q x)) [
      | inl h ↦ rw (h, c.0) (none_left p q xs c.1)
      | inr h ↦ rw h (none_left p q xs c.1)
    ]

apart_filter : (q : List ℕ → Bool) (xs : List (List ℕ)) → AreApart xs → AreApart (filter q xs)
apart_filter q [] a = tt
apart_filter q (x ∷ xs) a = elim (either (q x)) [
  | inl h ↦ rw h (none_left (bytes_eq x) q xs a.0, apart_filter q xs a.1)
  | inr h ↦ rw h (apart_filter q xs a.1)
]

none_same : (k : List ℕ) (xs : List (List ℕ)) → list_any (bytes_eq k) (filter (λ y. not (bytes_eq y k)) xs) ≡ false
none_same k [] = refl
none_same k (x ∷ xs) = elim (either (bytes_eq x k)) [
  | inl h ↦ rw h (none_same k xs)
  | inr h ↦ rw (h, swap k x ∙ h) (none_same k xs)
]

firsts_apart : (ks : List (List ℕ)) → AreApart (firsts bytes_eq ks)
firsts_apart [] = tt
firsts_apart (k ∷ ks) = (none_same k (firsts bytes_eq ks), apart_filter (λ y. not (bytes_eq y k)) (firsts bytes_eq ks) (firsts_apart ks))

-- a key that is not among the first of each is not there at all
others_kept : (k x : List ℕ) (xs : List (List ℕ)) → bytes_eq k x ≡ false
    → list_any (bytes_eq k) (filter (λ y. not (bytes_eq y x)) xs) ≡ list_any (bytes_eq k) xs
others_kept k x [] e = refl
others_kept k x (y ∷ ys) e = elim (either (bytes_eq y x)) [
  | inl h ↦
      let f : bytes_eq k y ≡ false = ap (λ z. bytes_eq k z) (same_key y x h) ∙ e in
      rw (h, f) (others_kept k x ys e)
  | inr h ↦ rw h (ap (λ b. bytes_eq k y || b) (others_kept k x ys e))
]

any_firsts : (k : List ℕ) (ks : List (List ℕ)) → list_any (bytes_eq k) (firsts bytes_eq ks) ≡ list_any (bytes_eq k) ks
any_firsts k [] = refl
any_firsts k (x ∷ xs) = elim (either (bytes_eq k x)) [
  | inl h ↦ rw h refl
  | inr h ↦ rw h (others_kept k x (firsts bytes_eq xs) h ∙ any_firsts k xs)
]

no_nodes : (k : List ℕ) (ns : List FieldNode) → list_any (bytes_eq k) (map key_of ns) ≡ false
    → filter (λ n. bytes_eq k (key_of n)) ns ≡ []
no_nodes k [] e = refl
no_nodes k (n ∷ ns) e =
    let c = or_cases (bytes_eq k (key_of n)) (list_any (bytes_eq k) (map key_of ns)) e in
    rw c.0 (no_nodes k ns c.1)

-- ---- groups

module _ (ns : List FieldNode) (n : FieldNode) where
  has_more : (q : List ℕ) → bytes_eq q (key_of n) ≡ true → group (ns ++ n ∷ []) q
      ≡ record { key = q; nodes = filter (λ m. bytes_eq q (key_of m)) ns ++ n ∷ [] }
  has_more q e = ap (λ ms. record { key = q; nodes = ms }) (filter_append (λ m. bytes_eq q (key_of m)) ns (n ∷ [])
      ∙ ap (λ l. filter (λ m. bytes_eq q (key_of m)) ns ++ (if l then n ∷ [] else [])) e)

  has_same : (q : List ℕ) → bytes_eq q (key_of n) ≡ false → group (ns ++ n ∷ []) q ≡ group ns q
  has_same q e = ap (λ ms. record { key = q; nodes = ms }) (filter_append (λ m. bytes_eq q (key_of m)) ns (n ∷ [])
      ∙ ap (λ l. filter (λ m. bytes_eq q (key_of m)) ns ++ (if l then n ∷ [] else [])) e
      ∙ append-nil (filter (λ m. bytes_eq q (key_of m)) ns))

  all_same : (qs : List (List ℕ)) → list_any (bytes_eq (key_of n)) qs ≡ false
      → map (group (ns ++ n ∷ [])) qs ≡ map (group ns) qs
  all_same [] e = refl
  all_same (q ∷ qs) e =
      let c = or_cases (bytes_eq (key_of n) q) (list_any (bytes_eq (key_of n)) qs) e in
      ap (λ g. g ∷ map (group (ns ++ n ∷ [])) qs) (has_same q (swap q (key_of n) ∙ c.0))
      ∙ ap (λ gs. group ns q ∷ gs) (all_same qs c.1)

  old_key : (qs : List (List ℕ)) → AreApart qs → list_any (bytes_eq (key_of n)) qs ≡ true
      → map (group (ns ++ n ∷ [])) qs ≡ put (map (group ns) qs) n
  old_key [] a e = absurd (cc e)
  old_key (q ∷ qs) a e = elim (either (bytes_eq (key_of n) q)) [
    | inl h ↦
        let is = swap q (key_of n) ∙ h in
        rw h (ap (λ g. g ∷ map (group (ns ++ n ∷ [])) qs) (has_more q is)
        ∙ ap (λ gs. record { key = q; nodes = filter (λ m. bytes_eq q (key_of m)) ns ++ n ∷ [] } ∷ gs)
        (all_same qs (subst (λ z. list_any (bytes_eq z) qs ≡ false) (same_key q (key_of n) is) a.0)))
    | inr h ↦
        let rest : list_any (bytes_eq (key_of n)) qs ≡ true = sym (ap (λ b. b || list_any (bytes_eq (key_of n)) qs) h) ∙ e in
        rw h (ap (λ g. g ∷ map (group (ns ++ n ∷ [])) qs) (has_same q (swap q (key_of n) ∙ h))
        ∙ ap (λ gs. group ns q ∷ gs) (old_key qs a.1 rest))
  ]

  new_key : filter (λ m. bytes_eq (key_of n) (key_of m)) ns ≡ [] → (qs : List (List ℕ))
      → list_any (bytes_eq (key_of n)) qs ≡ false
      → map (group (ns ++ n ∷ [])) (qs ++ key_of n ∷ []) ≡ put (map (group ns) qs) n
  new_key none [] e = ap (λ g. g ∷ []) (has_more (key_of n) ((bytes_eq-Decides (key_of n) (key_of n)).1 refl))
      ∙ ap (λ ms. record { key = key_of n; nodes = ms ++ n ∷ [] } ∷ []) none
  new_key none (q ∷ qs) e =
      let c = or_cases (bytes_eq (key_of n) q) (list_any (bytes_eq (key_of n)) qs) e in
      rw c.0 (ap (λ g. g ∷ map (group (ns ++ n ∷ [])) (qs ++ key_of n ∷ [])) (has_same q (swap q (key_of n) ∙ c.0))
      ∙ ap (λ gs. group ns q ∷ gs) (new_key none qs c.1))

  keys_more : firsts bytes_eq (map key_of (ns ++ n ∷ [])) ≡ insert_key bytes_eq (firsts bytes_eq (map key_of ns)) (key_of n)
  keys_more = ap (firsts bytes_eq) (map_append key_of ns (n ∷ []))
      ∙ firsts_more bytes_eq nat_list_eq_equiv (map key_of ns) (key_of n)

  pub groups_more : groups_of (ns ++ n ∷ []) ≡ put (groups_of ns) n
  groups_more = ap (map (group (ns ++ n ∷ []))) keys_more ∙ elim (either (list_any (bytes_eq (key_of n)) (firsts bytes_eq (map key_of ns)))) [
    | inl h ↦ ap (λ b. map (group (ns ++ n ∷ [])) (if b then firsts bytes_eq (map key_of ns) else firsts bytes_eq (map key_of ns) ++ key_of n ∷ [])) h
        ∙ old_key (firsts bytes_eq (map key_of ns)) (firsts_apart (map key_of ns)) h
    | inr h ↦ ap (λ b. map (group (ns ++ n ∷ [])) (if b then firsts bytes_eq (map key_of ns) else firsts bytes_eq (map key_of ns) ++ key_of n ∷ [])) h
        ∙ new_key (no_nodes (key_of n) ns (sym (any_firsts (key_of n) (map key_of ns)) ∙ h)) (firsts bytes_eq (map key_of ns)) h
  ]

-- the same, in a loop
pub groups_step : (items : List Node) (i : ℕ) (item : Node) (old new : List Group)
    → i < length items → get_or items i item ≡ item
    → old ≡ groups_of (nodes_of (take i items)) → new ≡ put old (node_of item)
    → new ≡ groups_of (nodes_of (take (i + 1) items))
groups_step items i item old new within is before after =
    rw (take_more items i item within, is) (after ∙ ap (λ gs. put gs (node_of item)) before
    ∙ sym (groups_more (nodes_of (take i items)) (node_of item))
    ∙ ap groups_of (sym (map_append node_of (take i items) (item ∷ []))))
