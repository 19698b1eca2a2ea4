-- Names in order: two lists of names that have the same members have the same names in order.
use Rattle.std.proofs.Common.{◌≡◌, ◌↔◌, ◌⊎◌, inl, inr, ℕ, List, [], ◌∷◌, map, fold, Contains, refl, sym, ap, ap₂, ◌∙◌, subst}
use Rattle.std.specs.Ordering.{is_eq, ordering_reverse}
use Rattle.std.specs.declared.cmp.Ordering.{Ordering}
use Rattle.std.specs.declared.cmp.Ordering.TheVariants.{Less, Equal, Greater}
use Rattle.std.specs.List.{AllByRecursion}
use Rattle.std.specs.List.Sorted.{IsStrictlySortedBy}
use Rattle.std.specs.Cmp.Lexicographic.{texts_ties, same_text}
use Rattle.std.proofs.lemmas.Cmp.{nat_list_cmp_total}
use Rattle.gql_ast.specs.FileMaps.{name_order}
use Rattle.gql_types.specs.Possible.{in_order}
use Rattle.gql_types.proofs.Members.{none, here, there, cases, every}
use Rattle.gql_types.proofs.Ordering.{Entries, put}

-- ---- two strictly sorted lists with the same members are one

turned : (r s : Ordering) → r ≡ Less → s ≡ Less → r ≡ ordering_reverse s → ⊥
turned r s p q e = let bad : Less ≡ Greater = sym p ∙ e ∙ ap ordering_reverse q in cc

pub apart : (x y : List ℕ) → name_order x y ≡ Less → name_order y x ≡ Less → ⊥
apart x y p q = turned (name_order x y) (name_order y x) p q (nat_list_cmp_total.antisymm x y)

first : (x y : List ℕ) (xs ys : List (List ℕ)) → AllByRecursion (λ z. name_order x z ≡ Less) xs → AllByRecursion (λ z. name_order y z ≡ Less) ys
    → Contains (y ∷ ys) x → Contains (x ∷ xs) y → x ≡ y
first x y xs ys below_x below_y in_b in_a = elim (cases x y ys in_b) [
  | inl e ↦ e
  | inr t ↦ elim (cases y x xs in_a) [
    | inl e ↦ sym e
    | inr u ↦ absurd (apart x y (every (λ z. name_order x z ≡ Less) xs below_x y u) (every (λ z. name_order y z ≡ Less) ys below_y x t))
  ]
]

behind : (x y : List ℕ) (xs ys : List (List ℕ)) → AllByRecursion (λ z. name_order x z ≡ Less) xs → x ≡ y
    → (n : List ℕ) → (Contains (x ∷ xs) n → Contains (y ∷ ys) n) → Contains xs n → Contains ys n
behind x y xs ys below same n to h = elim (cases n y ys (to (there n x xs h))) [
  | inl e ↦ let less : name_order x x ≡ Less = every (λ z. name_order x z ≡ Less) xs below x (subst (λ g. Contains xs g) (e ∙ sym same) h) in absurd (apart x x less less)
  | inr t ↦ t
]

pub one_list : (xs ys : List (List ℕ)) → IsStrictlySortedBy name_order xs → IsStrictlySortedBy name_order ys
    → ((n : List ℕ) → Contains xs n ↔ Contains ys n) → xs ≡ ys
unfolding IsStrictlySortedBy
one_list [] [] sorted_a sorted_b same = refl
one_list [] (y ∷ ys) sorted_a sorted_b same = absurd (none y ((same y).1 (here y ys)))
one_list (x ∷ xs) [] sorted_a sorted_b same = absurd (none x ((same x).0 (here x xs)))
one_list (x ∷ xs) (y ∷ ys) sorted_a sorted_b same =
    let one = first x y xs ys sorted_a.0 sorted_b.0 ((same x).0 (here x xs)) ((same y).1 (here y ys)) in
    ap₂ (λ z zs. z ∷ zs) one (one_list xs ys sorted_a.1 sorted_b.1 (λ n. (
      behind x y xs ys sorted_a.0 one n (same n).0,
      behind y x ys xs sorted_b.0 (sym one) n (same n).1,
    )))

-- ---- names that are put into an ordered map

abbrev keys : Entries → List (List ℕ)
keys entries = map (λ (e : List ℕ × Unit {0}). e.0) entries

pub flipped : (x y : List ℕ) → name_order x y ≡ Greater → name_order y x ≡ Less
flipped x y h = nat_list_cmp_total.antisymm y x ∙ ap ordering_reverse h

all_above : (x y : List ℕ) (ks : List (List ℕ)) → name_order x y ≡ Less → AllByRecursion (λ z. name_order y z ≡ Less) ks → AllByRecursion (λ z. name_order x z ≡ Less) ks
all_above x y [] less all = tt
all_above x y (k ∷ ks) less all = (nat_list_cmp_total.trans x y k less all.0, all_above x y ks less all.1)

all_put : (P : List ℕ → Type 0) (n : List ℕ) (es : Entries) → AllByRecursion P (keys es) → P n → AllByRecursion P (keys (put es n))
all_put P n [] all it = (it, tt)
all_put P n (e ∷ es) all it = by (name_order n e.0) refl (all_put P n es all.1 it)
  where
    by : (o : Ordering) → name_order n e.0 ≡ o → AllByRecursion P (keys (put es n)) → AllByRecursion P (keys (put (e ∷ es) n))
    by Less is rest = rw is (it, all)
    by Equal is rest = rw is all
    by Greater is rest = rw is (all.0, rest)

put_sorted : (n : List ℕ) (es : Entries) → IsStrictlySortedBy name_order (keys es) → IsStrictlySortedBy name_order (keys (put es n))
unfolding IsStrictlySortedBy
put_sorted n [] sorted = (tt, tt)
put_sorted n (e ∷ es) sorted = by (name_order n e.0) refl (put_sorted n es sorted.1)
  where
    by : (o : Ordering) → name_order n e.0 ≡ o → IsStrictlySortedBy name_order (keys (put es n)) → IsStrictlySortedBy name_order (keys (put (e ∷ es) n))
    by Less is rest = rw is ((is, all_above n e.0 (keys es) is sorted.0), sorted)
    by Equal is rest = rw is sorted
    by Greater is rest = rw is (all_put (λ y. name_order e.0 y ≡ Less) n es sorted.0 (flipped n e.0 is), rest)

put_has : (n : List ℕ) (es : Entries) → Contains (keys (put es n)) n
put_has n [] = here n []
put_has n (e ∷ es) = by (name_order n e.0) refl (put_has n es)
  where
    by : (o : Ordering) → name_order n e.0 ≡ o → Contains (keys (put es n)) n → Contains (keys (put (e ∷ es) n)) n
    by Less is rest = rw is (here n (keys (e ∷ es)))
    by Equal is rest = rw is (subst (λ k. Contains (e.0 ∷ keys es) k) (sym (same_text n e.0 (sym (texts_ties n e.0 ∙ ap is_eq is)))) (here e.0 (keys es)))
    by Greater is rest = rw is (there n e.0 (keys (put es n)) rest)

put_keeps : (n q : List ℕ) (es : Entries) → Contains (keys es) q → Contains (keys (put es n)) q
put_keeps n q [] h = absurd (none q h)
put_keeps n q (e ∷ es) h = by (name_order n e.0) refl (put_keeps n q es)
  where
    by : (o : Ordering) → name_order n e.0 ≡ o → (Contains (keys es) q → Contains (keys (put es n)) q) → Contains (keys (put (e ∷ es) n)) q
    by Less is rest = rw is (there q n (keys (e ∷ es)) h)
    by Equal is rest = rw is h
    by Greater is rest = rw is (elim (cases q e.0 (keys es) h) [
      | inl k ↦ subst (λ z. Contains (e.0 ∷ keys (put es n)) z) (sym k) (here e.0 (keys (put es n)))
      | inr t ↦ there q e.0 (keys (put es n)) (rest t)
    ])

put_from : (n q : List ℕ) (es : Entries) → Contains (keys (put es n)) q → (q ≡ n) ⊎ Contains (keys es) q
put_from n q [] h = elim (cases q n [] h) [ inl e ↦ inl e | inr t ↦ absurd (none q t) ]
put_from n q (e ∷ es) h = by (name_order n e.0) refl (put_from n q es) h
  where
    by : (o : Ordering) → name_order n e.0 ≡ o → (Contains (keys (put es n)) q → (q ≡ n) ⊎ Contains (keys es) q) → Contains (keys (put (e ∷ es) n)) q → (q ≡ n) ⊎ Contains (keys (e ∷ es)) q
    by Less is rest h = cases q n (keys (e ∷ es)) (rw is at h)
    by Equal is rest h = inr (rw is at h)
    by Greater is rest h =
        let g : Contains (e.0 ∷ keys (put es n)) q = rw is at h in
        elim (cases q e.0 (keys (put es n)) g) [
          | inl k ↦ inr (subst (λ z. Contains (e.0 ∷ keys es) z) (sym k) (here e.0 (keys es)))
          | inr t ↦ elim (rest t) [ inl k ↦ inl k | inr u ↦ inr (there q e.0 (keys es) u) ]
        ]

all_sorted : (names : List (List ℕ)) (es : Entries) → IsStrictlySortedBy name_order (keys es) → IsStrictlySortedBy name_order (keys (fold put es names))
all_sorted [] es sorted = sorted
all_sorted (n ∷ names) es sorted = all_sorted names (put es n) (put_sorted n es sorted)

all_from : (q : List ℕ) (names : List (List ℕ)) (es : Entries) → Contains (keys (fold put es names)) q → Contains names q ⊎ Contains (keys es) q
all_from q [] es h = inr h
all_from q (n ∷ names) es h = elim (all_from q names (put es n) h) [
  | inl t ↦ inl (there q n names t)
  | inr u ↦ elim (put_from n q es u) [ inl e ↦ inl (subst (λ z. Contains (n ∷ names) z) (sym e) (here n names)) | inr v ↦ inr v ]
]

all_kept : (q : List ℕ) (names : List (List ℕ)) (es : Entries) → Contains (keys es) q → Contains (keys (fold put es names)) q
all_kept q [] es h = h
all_kept q (n ∷ names) es h = all_kept q names (put es n) (put_keeps n q es h)

all_in : (q : List ℕ) (names : List (List ℕ)) (es : Entries) → Contains names q → Contains (keys (fold put es names)) q
all_in q [] es h = absurd (none q h)
all_in q (n ∷ names) es h = elim (cases q n names h) [
  | inl e ↦ all_kept q names (put es n) (subst (λ z. Contains (keys (put es n)) z) (sym e) (put_has n es))
  | inr t ↦ all_in q names (put es n) t
]

none_sorted : IsStrictlySortedBy name_order (keys [])
unfolding IsStrictlySortedBy
none_sorted = tt

-- ---- names in order

pub sorted_in_order : (names : List (List ℕ)) → IsStrictlySortedBy name_order (in_order names)
sorted_in_order names = all_sorted names [] none_sorted

-- the names in order are the names
pub from_order : (names : List (List ℕ)) (q : List ℕ) → Contains (in_order names) q → Contains names q
from_order names q h = elim (all_from q names [] h) [ inl t ↦ t | inr u ↦ absurd (none q u) ]

pub to_order : (names : List (List ℕ)) (q : List ℕ) → Contains names q → Contains (in_order names) q
to_order names q h = all_in q names [] h

-- the same names have the same order
pub same_order : (names others : List (List ℕ)) → ((q : List ℕ) → Contains names q ↔ Contains others q) → in_order names ≡ in_order others
same_order names others same = one_list (in_order names) (in_order others) (all_sorted names [] none_sorted) (all_sorted others [] none_sorted) (λ q. (
  λ h. to_order others q ((same q).0 (from_order names q h)),
  λ h. to_order names q ((same q).1 (from_order others q h)),
))
