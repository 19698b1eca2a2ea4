-- Classes of one response name, among classes in the order of their names.
use Rattle.std.proofs.Common.{◌≡◌, ℕ, ◌+◌, ◌-◌, ◌<◌, ◌≤◌, inl, inr, List, [], ◌∷◌, ◌++◌, Bool, true, false, cond, nat_eq, ltb, leb, map, flat_map, length, get_or, take, drop, ap, sym, subst, ◌∙◌, refl, arith, Contains, append-nil, length-append, length-drop}
use Rattle.std.specs.List.{filter}
use Rattle.std.specs.List.Sorted.{IsNonDecreasingBy, IsPartitionPoint, IsPermutation}
use Rattle.std.proofs.lemmas.Bool.{cases_lt, leb-true, leb-false, ltb-true, ltb-false}
use Rattle.std.proofs.lemmas.Bool.Decides.{nat_tests}
use Rattle.std.proofs.lemmas.List.{get_or-drop, get_or-take, length-take, take-append-drop, take_rest, get_or_append_left, get_or_past, get_or_push, map-append}
use Rattle.std.proofs.lemmas.List.Elements.{Contains-push_cases, filter-append}
use Rattle.std.proofs.lemmas.List.Sorted.{Contains-permutation, IsNonDecreasingBy-drop, IsPermutation-map, IsPermutation-sym}
use Rattle.gql_clashes.specs.declared.groups.Class.{Class}
use Rattle.gql_clashes.specs.declared.sets.Mode.{Mode}
use Rattle.gql_clashes.specs.declared.sets.Sets.{Sets}
use Rattle.gql_clashes.specs.Compared.{IsClassing, IsOrdered, bad_at, fields_in, items_by, items_of, name_in}
use Rattle.gql_clashes.specs.Numbered.{field_at}
use Rattle.gql_clashes.proofs.Members.{Contains-cases, Contains-here, Contains-nil, Contains-there}

-- ---- a part of a list, as a filter

filter_all : {X : Type 0} (p : X → Bool) (xs : List X) → ((x : X) → Contains xs x → p x ≡ true) → filter p xs ≡ xs
filter_all p [] h = refl
filter_all p (x ∷ xs) h = rw (h x (Contains-here x xs)) (ap (λ ys. x ∷ ys) (filter_all p xs (λ y c. h y (Contains-there y x xs c))))

filter_none : {X : Type 0} (p : X → Bool) (xs : List X) → ((x : X) → Contains xs x → p x ≡ false) → filter p xs ≡ []
filter_none p [] h = refl
filter_none p (x ∷ xs) h = rw (h x (Contains-here x xs)) (filter_none p xs (λ y c. h y (Contains-there y x xs c)))

-- what holds of the elements at some places holds of those of the part there
in_first : {X : Type 0} (P : X → Type 0) (i : ℕ) (xs : List X) → ((k : ℕ) (d : X) → k < i → k < length xs → P (get_or xs k d)) → (x : X) → Contains (take i xs) x → P x
in_first P i xs h x c =
    let l = length-take i xs in
    let a : c.0 < i = omega (arith, l, c.1) in
    let b : c.0 < length xs = omega (arith, l, c.1) in
    subst P (sym (get_or-take i xs c.0 x a) ∙ c.2) (h c.0 x a b)

in_last : {X : Type 0} (P : X → Type 0) (i : ℕ) (xs : List X) → ((k : ℕ) (d : X) → i ≤ k → k < length xs → P (get_or xs k d)) → (x : X) → Contains (drop i xs) x → P x
in_last P i xs h x c =
    let l = length-drop i xs in
    let b : i + c.0 < length xs = omega (arith, l, c.1) in
    subst P (sym (get_or-drop i xs c.0 x) ∙ c.2) (h (i + c.0) x (omega arith) b)

part_is : {X : Type 0} (p : X → Bool) (xs : List X) (i n : ℕ) → ((k : ℕ) (d : X) → k < i → k < length xs → p (get_or xs k d) ≡ false)
    → ((k : ℕ) (d : X) → k < n → k < length (drop i xs) → p (get_or (drop i xs) k d) ≡ true) → ((k : ℕ) (d : X) → n ≤ k → k < length (drop i xs) → p (get_or (drop i xs) k d) ≡ false)
    → take n (drop i xs) ≡ filter p xs
part_is {X} p xs i n before within after =
    let rest : List X = drop i xs in
    let mid : List X = take n rest in
    let end : List X = drop n rest in
    let a : filter p (take i xs) ≡ [] = filter_none p (take i xs) (in_first (λ x. p x ≡ false) i xs before) in
    let b : filter p mid ≡ mid = filter_all p mid (in_first (λ x. p x ≡ true) n rest within) in
    let c : filter p end ≡ [] = filter_none p end (in_last (λ x. p x ≡ false) n rest after) in
    let whole : filter p xs ≡ filter p (take i xs) ++ filter p rest = ap (λ ys. filter p ys) (sym (take-append-drop i xs)) ∙ filter-append p (take i xs) rest in
    let parts : filter p rest ≡ filter p mid ++ filter p end = ap (λ ys. filter p ys) (sym (take-append-drop n rest)) ∙ filter-append p mid end in
    sym (whole ∙ ap (λ ys. ys ++ filter p rest) a ∙ parts ∙ ap (λ ys. ys ++ filter p end) b ∙ ap (λ ys. mid ++ ys) c ∙ append-nil mid)

-- ---- the classes of a name

abbrev IsBelow : List Class → ℕ → ℕ → Type 0
IsBelow cs n i = IsPartitionPoint (λ (c : Class). ltb c.name n ≡ true) (λ (c : Class). ltb c.name n ≡ false) cs i

abbrev IsUpTo : List Class → ℕ → ℕ → Type 0
IsUpTo cs n j = IsPartitionPoint (λ (c : Class). leb c.name n ≡ true) (λ (c : Class). leb c.name n ≡ false) cs j

is_other : (a n : ℕ) → a < n → nat_eq a n ≡ false
is_other a n h = grind (arith, nat_tests, h)

is_more : (a n : ℕ) → n < a → nat_eq a n ≡ false
is_more a n h = grind (arith, nat_tests, h)

is_same : (a n : ℕ) → n ≤ a → a ≤ n → nat_eq a n ≡ true
is_same a n g h = grind (arith, nat_tests, g, h)

-- the classes from a place on
abbrev rest_of : List Class → ℕ → List Class
rest_of cs i = take (length cs - i) (drop i cs)

pub rest_sorted : (cs : List Class) (i : ℕ) → IsNonDecreasingBy (λ (c : Class). c.name) cs → IsNonDecreasingBy (λ (c : Class). c.name) (rest_of cs i)
rest_sorted cs i h = subst (λ l. IsNonDecreasingBy (λ (c : Class). c.name) l) (sym (take_rest cs i)) (IsNonDecreasingBy-drop (λ (c : Class). c.name) i cs h)

part_by : (cs : List Class) (n i j : ℕ) → IsBelow cs n i → IsUpTo (drop i cs) n j → take j (drop i cs) ≡ filter (λ (c : Class). nat_eq c.name n) cs
part_by cs n i j a b = part_is (λ (c : Class). nat_eq c.name n) cs i j
    (λ k d h g. is_other (get_or cs k d).name n (ltb-true (get_or cs k d).name n (a.0 k d (omega arith) h)))
    (λ k d h g.
    let l = length-drop i cs in
    let low : ltb (get_or (drop i cs) k d).name n ≡ false = subst (λ (c : Class). ltb c.name n ≡ false) (sym (get_or-drop i cs k d)) (a.1 (i + k) d (omega arith) (omega (arith, l, g))) in
    is_same (get_or (drop i cs) k d).name n (ltb-false (get_or (drop i cs) k d).name n low) (leb-true (get_or (drop i cs) k d).name n (b.0 k d (omega arith) h)))
    (λ k d h l. is_more (get_or (drop i cs) k d).name n (leb-false (get_or (drop i cs) k d).name n (b.1 k d h l)))

pub part_of_name : (cs : List Class) (n i j : ℕ) → IsBelow cs n i → IsUpTo (rest_of cs i) n j → take j (rest_of cs i) ≡ filter (λ (c : Class). nat_eq c.name n) cs
part_of_name cs n i j a b = ap (λ l. take j l) (take_rest cs i) ∙ part_by cs n i j a (subst (λ l. IsUpTo l n j) (take_rest cs i) b)

-- ---- classes of other names give nothing

kept_or_not : {X A : Type 0} (h : X → List A) (p : X → Bool) (x : X) (xs : List X) (b : Bool) → p x ≡ b → ((y : X) → Contains (x ∷ xs) y → p y ≡ false → h y ≡ []) → flat_map h (filter p xs) ≡ flat_map h xs → flat_map h (cond b (x ∷ filter p xs) (filter p xs)) ≡ h x ++ flat_map h xs
kept_or_not h p x xs true e none more = ap (λ ys. h x ++ ys) more
kept_or_not h p x xs false e none more = more ∙ ap (λ ys. ys ++ flat_map h xs) (sym (none x (Contains-here x xs) e))

flat_map_filter : {X A : Type 0} (h : X → List A) (p : X → Bool) (xs : List X) → ((x : X) → Contains xs x → p x ≡ false → h x ≡ []) → flat_map h (filter p xs) ≡ flat_map h xs
flat_map_filter h p [] none = refl
flat_map_filter h p (x ∷ xs) none = kept_or_not h p x xs (p x) refl none (flat_map_filter h p xs (λ y c e. none y (Contains-there y x xs c) e))

module _ (z : Sets) (m : Mode) where
  -- the first fields of two classes have other names
  bad_apart : (fs gs : List ℕ) → nat_eq (name_in z gs) (name_in z fs) ≡ false → bad_at z m fs gs ≡ []
  bad_apart [] gs e = refl
  bad_apart (f ∷ fs) [] e = refl
  bad_apart (f ∷ fs) (g ∷ gs) e = let a : nat_eq (field_at z f).response_name (field_at z g).response_name ≡ false = grind (arith, nat_tests, e) in rw a refl

  items_apart : (c d : Class) (fs gs : List ℕ) → nat_eq (name_in z gs) (name_in z fs) ≡ false → items_by z m c d fs gs ≡ []
  items_apart c d [] gs e = refl
  items_apart c d (f ∷ fs) [] e = refl
  items_apart c d (f ∷ fs) (g ∷ gs) e = let a : nat_eq (field_at z f).response_name (field_at z g).response_name ≡ false = grind (arith, nat_tests, e) in rw a refl

  module _ (c : Class) (cs : List Class) (named : c.name ≡ name_in z (fields_in c)) (o : IsOrdered z cs) where
    other_names : (d : Class) → Contains cs d → nat_eq d.name c.name ≡ false → nat_eq (name_in z (fields_in d)) (name_in z (fields_in c)) ≡ false
    other_names d h e = ap (λ n. nat_eq n (name_in z (fields_in c))) (sym (o.named d h)) ∙ ap (λ n. nat_eq d.name n) (sym named) ∙ e

    pub bad_of_name : flat_map (λ (d : Class). bad_at z m (fields_in c) (fields_in d)) (filter (λ (d : Class). nat_eq d.name c.name) cs) ≡ flat_map (λ (d : Class). bad_at z m (fields_in c) (fields_in d)) cs
    bad_of_name = flat_map_filter (λ (d : Class). bad_at z m (fields_in c) (fields_in d)) (λ (d : Class). nat_eq d.name c.name) cs (λ d h e. bad_apart (fields_in c) (fields_in d) (other_names d h e))

    pub items_of_name : flat_map (items_of z m c) (filter (λ (d : Class). nat_eq d.name c.name) cs) ≡ flat_map (items_of z m c) cs
    items_of_name = flat_map_filter (items_of z m c) (λ (d : Class). nat_eq d.name c.name) cs (λ d h e. items_apart c d (fields_in c) (fields_in d) (other_names d h e))

-- a class of a filter is one of the list
in_cond : {X : Type 0} (p : X → Bool) (y : X) (ys : List X) (x : X) (b : Bool) → (Contains (filter p ys) x → Contains ys x) → Contains (cond b (y ∷ filter p ys) (filter p ys)) x → Contains (y ∷ ys) x
in_cond p y ys x true more h = elim (Contains-cases x y (filter p ys) h) [ inl e ↦ subst (λ w. Contains (y ∷ ys) w) (sym e) (Contains-here y ys) | inr c ↦ Contains-there x y ys (more c) ]
in_cond p y ys x false more h = Contains-there x y ys (more h)

pub filtered_in : {X : Type 0} (p : X → Bool) (xs : List X) (x : X) → Contains (filter p xs) x → Contains xs x
filtered_in p [] x h = h
filtered_in p (y ∷ ys) x h = in_cond p y ys x (p y) (filtered_in p ys x) h

-- ---- classes in another order

pub classing_moved : (z : Sets) (fs : List ℕ) (cs ds : List (List ℕ)) → IsPermutation cs ds → IsClassing z fs cs → IsClassing z fs ds
classing_moved z fs cs ds p h =
    let back = IsPermutation-sym cs ds p in
    record {
      members = λ f a. let r = h.members f a in (r.0, Contains-permutation cs ds r.0 p r.1, r.2);
      only = λ c f a b. h.only c f (Contains-permutation ds cs c back a) b;
      alike = λ c f g a x y. h.alike c f g (Contains-permutation ds cs c back a) x y;
    }

pub classes_moved : (full : List (List ℕ)) (cs ds : List Class) → map fields_in cs ≡ full → IsPermutation cs ds → IsPermutation full (map fields_in ds)
classes_moved full cs ds e p = subst (λ l. IsPermutation l (map fields_in ds)) e (IsPermutation-map fields_in cs ds p)

pub back_in : (cs ds : List Class) (c : Class) → IsPermutation cs ds → Contains ds c → Contains cs c
back_in cs ds c p a = Contains-permutation ds cs c (IsPermutation-sym cs ds p) a

-- the classes of an iterator's next lists have their names
pub named_more : (z : Sets) (made made' : List Class) (c : Class) (now : List ℕ) → made' ≡ made ++ c ∷ [] → now ≡ fields_in c → c.name ≡ name_in z now
    → ((d : Class) → Contains made d → d.name ≡ name_in z (fields_in d)) → (d : Class) → Contains made' d → d.name ≡ name_in z (fields_in d)
named_more z made made' c now e ef en h d m = elim (Contains-push_cases made c d (subst (λ y. Contains y d) e m)) [
  | inl o ↦ h d o
  | inr s ↦ subst (λ y. y.name ≡ name_in z (fields_in y)) s (en ∙ ap (λ l. name_in z l) ef)
]

-- ---- the order of the classes of each group

pub ordered_none : (z : Sets) → IsOrdered z []
ordered_none z = record {
  named = λ c h. absurd (Contains-nil c h);
  sorted = λ i j d le lt. absurd (omega (arith, lt));
}

-- the lists of classes are in their order
abbrev pub AreOrdered : Sets → List (List Class) → Type 0
AreOrdered z cs = (u : ℕ) → IsOrdered z (get_or cs u [])

pub ordered_first : (z : Sets) (cs : List (List Class)) → cs ≡ [] → AreOrdered z cs
ordered_first z cs e u = subst (λ l. IsOrdered z (get_or l u [])) (sym e) (ordered_none z)

pub ordered_more : {W : Type 0} (h : W → List Class) (z : Sets) (us us' : List W) (u : W) (made : List Class) → us' ≡ us ++ u ∷ [] → h u ≡ made → IsOrdered z made → AreOrdered z (map h us) → AreOrdered z (map h us')
ordered_more h z us us' u made e is p o v =
    let all : map h us' ≡ map h us ++ made ∷ [] = ap (λ y. map h y) e ∙ map-append h us (u ∷ []) ∙ ap (λ y. map h us ++ y ∷ []) is in
    subst (λ l. IsOrdered z (get_or l v [])) (sym all) (elim (cases_lt v (length (map h us))) [
      | inl lt ↦ subst (λ l. IsOrdered z l) (sym (get_or_append_left (map h us) (made ∷ []) [] v lt)) (o v)
      | inr g ↦ elim (cases_lt (length (map h us)) v) [
        | inl lt ↦ subst (λ l. IsOrdered z l) (sym (get_or_past (map h us ++ made ∷ []) v [] (omega (arith, lt, length-append (map h us) (made ∷ []))))) (ordered_none z)
        | inr le ↦
            let i : v ≡ length (map h us) = omega (arith, g, le) in
            subst (λ l. IsOrdered z l) (sym (ap (λ j. get_or (map h us ++ made ∷ []) j []) i ∙ get_or_push (map h us) made [] (length (map h us)) refl)) p
      ]
    ])

-- the classes of a group, from the clause of the call
pub ordered_at : (z : Sets) (cs ds : List Class) → cs ≡ ds → IsOrdered z ds → IsOrdered z cs
ordered_at z cs ds e o = subst (λ l. IsOrdered z l) (sym e) o
