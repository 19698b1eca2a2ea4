-- The first item that is looked for, in chunks of a list in order.
use Rattle.std.proofs.Common.{◌≡◌, ◌≢◌, inl, inr, ℕ, zero, suc, ◌-◌, ◌≤◌, List, [], ◌∷◌, Bool, true, false, cond, not, get_or, refl, ap, sym, subst, ◌∙◌, Contains, Option, Some, None, length, arith}
use Rattle.std.specs.List.{AllPairs, find, slice_get}
use Rattle.std.specs.List.Sorted.{IsPartitionPoint, IsPartitionedBy}
use Rattle.std.specs.Option.{option_or}
use Rattle.std.specs.Ordering.{is_eq, is_lt, ordering_index}
use Rattle.std.specs.declared.cmp.Ordering.{Ordering}
use Rattle.std.specs.declared.cmp.Ordering.TheVariants.{Less, Equal, Greater}
use Rattle.std.proofs.lemmas.List.Elements.{All-head, All-tail, Contains-append_left, Contains-append_right, Contains-get_or}
use Rattle.std.proofs.lemmas.List.Folds.{find-append}
use Rattle.std.proofs.lemmas.List.Kept.{AllPairs-cons}
use Rattle.gql_chunks.specs.Cuts.{ends_below, if_equal}
use Rattle.gql_chunks.specs.Lists.{AreInOrder, IsChunked, joined}
use Rattle.gql_chunks.proofs.Members.{contains_cases, contains_here, contains_none, contains_there, pairs_across, pairs_first, pairs_head, pairs_none, pairs_second, pairs_tail, same_or_less}
use Rattle.gql_chunks.proofs.Splitting.{searchable}

-- ---- what passes a test first

cond_true : {X : Type 0} (b : Bool) (u v : X) → b ≡ true → cond (not b) u v ≡ v
cond_true true u v e = refl
cond_true false u v e = absurd (let t : false ≡ true = e in cc)

cond_false : {X : Type 0} (b : Bool) (u v : X) → b ≡ false → cond (not b) u v ≡ u
cond_false true u v e = absurd (let t : true ≡ false = e in cc)
cond_false false u v e = refl

cond_no : {X : Type 0} (b : Bool) (u v : X) → b ≡ false → cond b u v ≡ v
cond_no true u v e = absurd (let t : true ≡ false = e in cc)
cond_no false u v e = refl

pub find_at_point : {A : Type 0} (p : A → Bool) (xs : List A) (i : ℕ) → IsPartitionPoint (λ y. p y ≡ true) (λ y. p y ≡ false) xs i → find (λ x. not (p x)) xs ≡ slice_get xs i
find_at_point p [] i h = refl
find_at_point p (x ∷ xs) zero h = cond_false (p x) (Some x) (find (λ y. not (p y)) xs) (h.1 0 x (omega arith) (omega arith))
find_at_point p (x ∷ xs) (suc i) h = cond_true (p x) (Some x) (find (λ y. not (p y)) xs) (h.0 0 x (omega arith) (omega arith))
    ∙ find_at_point p xs i (λ k d a b. h.0 (suc k) d (omega arith) (omega (arith, b)), λ k d a b. h.1 (suc k) d (omega (arith, a)) (omega (arith, b)))

find_none : {A : Type 0} (p : A → Bool) (xs : List A) → ((x : A) → Contains xs x → p x ≡ false) → find p xs ≡ None
find_none p [] h = refl
find_none p (x ∷ xs) h = cond_no (p x) (Some x) (find p xs) (h x (contains_here x xs)) ∙ find_none p xs (λ y c. h y (contains_there y x xs c))

-- ---- the last of some items

pub ends_at : {A : Type 0} (o : A → Ordering) (xs : List A) (x : A) → Some x ≡ slice_get xs (length xs - 1) → is_lt (o x) ≡ ends_below o xs
ends_at o [] x e = absurd (let t : Some x ≡ None = e in cc t)
ends_at o (y ∷ []) x e = ap (λ z. is_lt (o z)) (let t : Some x ≡ Some y = e in cc t)
ends_at o (y ∷ z ∷ zs) x e =
    let step : length (y ∷ z ∷ zs) - 1 ≡ suc (length (z ∷ zs) - 1) = omega arith in
    ends_at o (z ∷ zs) x (e ∙ ap (slice_get (y ∷ z ∷ zs)) step)

pub ends_none : {A : Type 0} (o : A → Ordering) (xs : List A) → None ≡ slice_get xs (length xs - 1) → false ≡ ends_below o xs
ends_none o [] e = refl
ends_none o (y ∷ []) e = absurd (let t : None ≡ Some y = e in cc t)
ends_none o (y ∷ z ∷ zs) e =
    let step : length (y ∷ z ∷ zs) - 1 ≡ suc (length (z ∷ zs) - 1) = omega arith in
    ends_none o (z ∷ zs) (e ∙ ap (slice_get (y ∷ z ∷ zs)) step)

-- ---- what is looked for rises along with the list

lower : (p q : Ordering) → ordering_index p ≤ ordering_index q → is_lt q ≡ true → is_lt p ≡ true
lower Less q l e = refl
lower Equal Less l e = absurd (omega (arith, l))
lower Equal Equal l e = e
lower Equal Greater l e = e
lower Greater Less l e = absurd (omega (arith, l))
lower Greater Equal l e = e
lower Greater Greater l e = e

over : (p q : Ordering) → ordering_index p ≤ ordering_index q → p ≡ Greater → is_eq q ≡ false
over p Less l e = refl
over p Equal l e = absurd (let m : ordering_index Greater ≤ ordering_index Equal = subst (λ o. ordering_index o ≤ ordering_index Equal) e l in omega (arith, m))
over p Greater l e = refl

module _ {A : Type 0} (order : A → A → Ordering) (o : A → Ordering) (rises : (x y : A) → order x y ≡ Less → ordering_index (o x) ≤ ordering_index (o y)) where
  abbrev Before : A → A → Type 0
  Before x y = order x y ≡ Less

  abbrev from_here : A → Bool
  from_here x = not (is_lt (o x))

  pub items_partitioned : (xs : List A) → AreInOrder order xs → IsPartitionedBy (λ x. is_lt (o x)) xs
  items_partitioned xs up i j d le within e = lower (o (get_or xs i d)) (o (get_or xs j d)) (searchable order o rises xs up i j d le within) e

  equal_by : (k : Ordering) (x : A) (xs : List A) → o x ≡ k → AreInOrder order (x ∷ xs) → find (λ y. is_eq (o y)) xs ≡ if_equal o (find from_here xs) → cond (is_eq k) (Some x) (find (λ y. is_eq (o y)) xs) ≡ if_equal o (cond (not (is_lt k)) (Some x) (find from_here xs))
  equal_by Less x xs e up h = h
  equal_by Equal x xs e up h = sym (ap (λ k. cond (is_eq k) (Some x) None) e)
  equal_by Greater x xs e up h = find_none (λ y. is_eq (o y)) xs (λ y c. over (o x) (o y) (rises x y (pairs_head Before x xs up y c)) e) ∙ sym (ap (λ k. cond (is_eq k) (Some x) None) e)

  pub find_equal : (xs : List A) → AreInOrder order xs → find (λ y. is_eq (o y)) xs ≡ if_equal o (find from_here xs)
  find_equal [] up = refl
  find_equal (x ∷ xs) up = equal_by (o x) x xs refl up (find_equal xs (pairs_tail Before x xs up))

  -- ---- chunks

  -- the last item of a chunk is one of it
  last_of : (c : List A) → ends_below o c ≡ true → (y : A) × Contains c y × (is_lt (o y) ≡ true)
  last_of [] e = absurd (let t : false ≡ true = e in cc)
  last_of (x ∷ []) e = (x, contains_here x [], e)
  last_of (x ∷ y ∷ ys) e = let r = last_of (y ∷ ys) e in (r.0, contains_there r.0 x (y ∷ ys) r.1, r.2)

  ends_if_all : (c : List A) → c ≢ [] → ((x : A) → Contains c x → is_lt (o x) ≡ true) → ends_below o c ≡ true
  ends_if_all [] some h = absurd (some refl)
  ends_if_all (x ∷ []) some h = h x (contains_here x [])
  ends_if_all (x ∷ y ∷ ys) some h = ends_if_all (y ∷ ys) (λ e. let t : y ∷ ys ≡ [] = e in cc t) (λ z c. h z (contains_there z x (y ∷ ys) c))

  -- all items of a chunk are before what is looked for, if the last one is
  all_below : (c : List A) → AreInOrder order c → ends_below o c ≡ true → (x : A) → Contains c x → is_lt (o x) ≡ true
  all_below [] up e x m = absurd (contains_none x m)
  all_below (z ∷ []) up e x m = elim (contains_cases x z [] m) [ inl q ↦ subst (λ w. is_lt (o w) ≡ true) (sym q) e | inr t ↦ absurd (contains_none x t) ]
  all_below (z ∷ y ∷ ys) up e x m =
      let rest = all_below (y ∷ ys) (pairs_tail Before z (y ∷ ys) up) e in
      elim (contains_cases x z (y ∷ ys) m) [
        | inl q ↦ subst (λ w. is_lt (o w) ≡ true) (sym q) (lower (o z) (o y) (rises z y (pairs_head Before z (y ∷ ys) up y (contains_here y ys))) (rest y (contains_here y ys)))
        | inr t ↦ rest x t
      ]

  -- the search ends in a chunk whose last item is not before what is looked for
  ends_here : (c : List A) → c ≢ [] → ends_below o c ≡ false → (r : Option A) → option_or (find from_here c) r ≡ find from_here c
  ends_here [] some e r = absurd (some refl)
  ends_here (x ∷ []) some e r = ap (λ (f : Option A). option_or f r) (cond_false (is_lt (o x)) (Some x) None e) ∙ sym (cond_false (is_lt (o x)) (Some x) None e)
  ends_here (x ∷ y ∷ ys) some e r = by_first (is_lt (o x)) x (find from_here (y ∷ ys)) r (ends_here (y ∷ ys) (λ q. let t : y ∷ ys ≡ [] = q in cc t) e r) where
    by_first : (b : Bool) (x : A) (f r : Option A) → option_or f r ≡ f → option_or (cond (not b) (Some x) f) r ≡ cond (not b) (Some x) f
    by_first true x f r h = h
    by_first false x f r h = refl

  abbrev AreApart : List A → List A → Type 0
  AreApart a b = (x y : A) → Contains a x → Contains b y → order x y ≡ Less

  in_joined : (cs : List (List A)) (c : List A) → Contains cs c → (y : A) → Contains c y → Contains (joined cs) y
  in_joined [] c m y h = absurd (contains_none c m)
  in_joined (d ∷ cs) c m y h = elim (contains_cases c d cs m) [
    | inl e ↦ Contains-append_left d (joined cs) y (subst (λ z. Contains z y) e h)
    | inr t ↦ Contains-append_right d (joined cs) y (in_joined cs c t y h)
  ]

  chunks_apart : (cs : List (List A)) → AreInOrder order (joined cs) → AllPairs AreApart cs
  chunks_apart [] up = pairs_none AreApart
  chunks_apart (c ∷ cs) up = AllPairs-cons AreApart c cs
      (λ k d l x y a b. pairs_across Before c (joined cs) up x y a (in_joined cs (get_or cs k d) (Contains-get_or cs k d l) y b))
      (chunks_apart cs (pairs_second Before c (joined cs) up))

  ends_before : (a b : List A) → a ≢ [] → AreApart a b → ends_below o b ≡ true → ends_below o a ≡ true
  ends_before a b some apart e = let l = last_of b e in ends_if_all a some (λ x c. lower (o x) (o l.0) (rises x l.0 (apart x l.0 c l.1)) l.2)

  pub chunks_partitioned : (cs : List (List A)) → IsChunked order cs → IsPartitionedBy (ends_below o) cs
  chunks_partitioned cs chunked i j d le within e = elim (same_or_less i j le) [
    | inl q ↦ subst (λ n. ends_below o (get_or cs n d) ≡ true) (sym q) e
    | inr l ↦ ends_before (get_or cs i d) (get_or cs j d) (chunked.full i d (omega (arith, l, within))) (chunks_apart cs chunked.ordered i j d l within) e
  ]

  -- where the search in chunks goes on
  abbrev pub find_in_chunk : Option (List A) → Option A
  find_in_chunk None = None
  find_in_chunk (Some c) = find from_here c

  pub find_in_chunks : (cs : List (List A)) (i : ℕ) → IsChunked order cs → IsPartitionPoint (λ c. ends_below o c ≡ true) (λ c. ends_below o c ≡ false) cs i
      → find from_here (joined cs) ≡ find_in_chunk (slice_get cs i)
  find_in_chunks [] i chunked h = refl
  find_in_chunks (c ∷ cs) zero chunked h = find-append from_here c (joined cs) ∙ ends_here c (All-head (λ z. z ≢ []) c cs chunked.full) (h.1 0 c (omega arith) (omega arith)) (find from_here (joined cs))
  find_in_chunks (c ∷ cs) (suc i) chunked h =
      let all = all_below c (pairs_first Before c (joined cs) chunked.ordered) (h.0 0 c (omega arith) (omega arith)) in
      find-append from_here c (joined cs) ∙ ap (λ (f : Option A). option_or f (find from_here (joined cs))) (find_none from_here c (λ x m. ap not (all x m)))
      ∙ find_in_chunks cs i (record { full = All-tail (λ z. z ≢ []) c cs chunked.full; ordered = pairs_second Before c (joined cs) chunked.ordered })
      (λ k d a b. h.0 (suc k) d (omega arith) (omega (arith, b)), λ k d a b. h.1 (suc k) d (omega (arith, a)) (omega (arith, b)))
