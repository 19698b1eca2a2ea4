-- A list in chunks, and its edits.
use Rattle.std.proofs.Common.{◌≡◌, inl, inr, ℕ, ◌<◌, ◌≤◌, ◌+◌, ◌-◌, List, [], ◌∷◌, ◌++◌, Bool, true, false, cond, Some, None, append_assoc, append-nil, filter, take, drop, length, get_or, refl, ap, sym, subst, ◌∙◌, Contains, arith}
use Rattle.std.specs.Cmp.{IsTotalOrder}
use Rattle.std.specs.List.{AllPairs}
use Rattle.std.specs.Ordering.{is_eq, is_gt, is_lt, ordering_reverse}
use Rattle.std.specs.Prelude.{slice_get}
use Rattle.std.specs.declared.cmp.Ordering.{Ordering}
use Rattle.std.specs.declared.cmp.Ordering.TheVariants.{Less, Greater}
use Rattle.std.proofs.lemmas.Grind.{flat_map-append}
use Rattle.std.proofs.lemmas.List.{drop_all, drop_more, length-drop, take-append-drop, take_more, take_rest}
use Rattle.std.proofs.lemmas.List.Elements.{Contains-append_cases, Contains-append_left, Contains-append_right, Contains-get_or, Contains-push_cases, filter-append}
use Rattle.std.proofs.lemmas.List.Kept.{AllPairs-cons}
use Rattle.std.proofs.lemmas.Option.{get_or_from_slice_get, slice_get-get_or, slice_get_within}
use Rattle.gql_ast.specs.declared.definition.DefinitionId.{DefinitionId}
use Rattle.gql_facts.specs.ListMembers.{Contains-cases, Contains-here, Contains-nil, Contains-there}
use Rattle.gql_readers.specs.Chunks.{AreAhead, AreBefore, AreBelow, IsNextAbove, IsNextFrom, joined}
use Rattle.gql_readers.specs.Merged.{above, below, edited, here, itself, merged, one_if}
use Rattle.gql_readers.specs.OrderLaws.{id_exact, id_total}
use Rattle.gql_readers.specs.Orders.{AreInOrder, id_order}
use Rattle.gql_readers.proofs.Merging.{by_order, filter_from, pairs_head, pairs_none, pairs_tail}

-- ---- lists

-- what all of a list passes, and what none of it passes
all_pass : {A : Type 0} (p : A → Bool) (xs : List A) → ((x : A) → Contains xs x → p x ≡ true) → filter p xs ≡ xs
all_pass p [] h = refl
all_pass p (x ∷ xs) h = ap (λ (b : Bool). cond b (x ∷ filter p xs) (filter p xs)) (h x (Contains-here x xs)) ∙ ap (λ zs. x ∷ zs) (all_pass p xs (λ y c. h y (Contains-there y x xs c)))

none_pass : {A : Type 0} (p : A → Bool) (xs : List A) → ((x : A) → Contains xs x → p x ≡ false) → filter p xs ≡ []
none_pass p [] h = refl
none_pass p (x ∷ xs) h = ap (λ (b : Bool). cond b (x ∷ filter p xs) (filter p xs)) (h x (Contains-here x xs)) ∙ none_pass p xs (λ y c. h y (Contains-there y x xs c))

-- of a list in order, a part is, and what is in its first part is before what is in the rest
pub pairs_right : {X : Type 0} (R : X → X → Type 0) (xs ys : List X) → AllPairs R (xs ++ ys) → AllPairs R ys
pairs_right R [] ys all = all
pairs_right R (x ∷ xs) ys all = pairs_right R xs ys (pairs_tail R x (xs ++ ys) all)

pub pairs_left : {X : Type 0} (R : X → X → Type 0) (xs ys : List X) → AllPairs R (xs ++ ys) → AllPairs R xs
pairs_left R [] ys all = pairs_none R
pairs_left R (x ∷ xs) ys all = AllPairs-cons R x xs (λ k d l. pairs_head R x (xs ++ ys) all (get_or xs k d) (Contains-append_left xs ys (get_or xs k d) (Contains-get_or xs k d l)))
    (pairs_left R xs ys (pairs_tail R x (xs ++ ys) all))

pub pairs_across : {X : Type 0} (R : X → X → Type 0) (xs ys : List X) → AllPairs R (xs ++ ys) → (x y : X) → Contains xs x → Contains ys y → R x y
pairs_across R [] ys all x y c d = absurd (Contains-nil x c)
pairs_across R (z ∷ xs) ys all x y c d = elim (Contains-cases x z xs c) [
  | inl e ↦ subst (λ w. R w y) (sym e) (pairs_head R z (xs ++ ys) all y (Contains-append_right xs ys y d))
  | inr t ↦ pairs_across R xs ys (pairs_tail R z (xs ++ ys) all) x y t d
]

-- the last element of a list, and the first
last_is : {X : Type 0} (xs : List X) (x : X) → slice_get xs (length xs - 1) ≡ Some x → xs ≡ take (length xs - 1) xs ++ x ∷ []
last_is xs x e =
    let lt : length xs - 1 < length xs = slice_get_within xs (length xs - 1) x e in
    let past : length xs ≤ length xs - 1 + 1 = omega (arith, lt) in
    sym (take-append-drop (length xs - 1) xs)
    ∙ ap (λ zs. take (length xs - 1) xs ++ zs) (drop_more xs (length xs - 1) x lt
    ∙ ap (λ zs. get_or xs (length xs - 1) x ∷ zs) (drop_all (length xs - 1 + 1) xs past)
    ∙ ap (λ z. z ∷ []) (get_or_from_slice_get xs (length xs - 1) x x e))

pub first_is : {X : Type 0} (xs : List X) (x : X) → slice_get xs 0 ≡ Some x → xs ≡ x ∷ drop 1 xs
first_is [] x e = let t : None ≡ Some x = e in cc t
first_is (y ∷ ys) x e =
    let t : Some y ≡ Some x = e in
    let q : y ≡ x = cc t in
    ap (λ z. z ∷ ys) q

pub none_first : {X : Type 0} (xs : List X) → slice_get xs 0 ≡ None → xs ≡ []
none_first [] e = refl
none_first (y ∷ ys) e = let t : Some y ≡ None = e in cc t

-- a list by an element at an index
pub parts_at : {X : Type 0} (xs : List X) (i : ℕ) (x : X) → i < length xs → x ≡ get_or xs i x → xs ≡ take i xs ++ x ∷ drop (i + 1) xs
parts_at xs i x lt e = sym (take-append-drop i xs) ∙ ap (λ zs. take i xs ++ zs) (drop_more xs i x lt ∙ ap (λ z. z ∷ drop (i + 1) xs) (sym e))

-- ---- what is in chunks

pub joined_append : {A : Type 0} (cs ds : List (List A)) → joined (cs ++ ds) ≡ joined cs ++ joined ds
joined_append cs ds = flat_map-append (λ chunk. chunk) cs ds

pub joined_push : {A : Type 0} (cs : List (List A)) (c : List A) → joined (cs ++ c ∷ []) ≡ joined cs ++ c
joined_push cs c = joined_append cs (c ∷ []) ∙ ap (λ zs. joined cs ++ zs) (append-nil c)

pub joined_parts : {A : Type 0} (cs : List (List A)) (i : ℕ) (c : List A) → i < length cs → c ≡ get_or cs i c → joined cs ≡ joined (take i cs) ++ (c ++ joined (drop (i + 1) cs))
joined_parts cs i c lt e = ap joined (parts_at cs i c lt e) ∙ joined_append (take i cs) (c ∷ drop (i + 1) cs)

pub joined_more : {A : Type 0} (cs : List (List A)) (i : ℕ) (c : List A) → i < length cs → c ≡ get_or cs i c → joined (take (i + 1) cs) ≡ joined (take i cs) ++ c
joined_more cs i c lt e = ap joined (take_more cs i c lt ∙ ap (λ z. take i cs ++ z ∷ []) (sym e)) ∙ joined_push (take i cs) c

joined_last : {A : Type 0} (cs : List (List A)) (c : List A) (x : A) → slice_get cs (length cs - 1) ≡ Some c → slice_get c (length c - 1) ≡ Some x → joined cs ≡ (joined (take (length cs - 1) cs) ++ take (length c - 1) c) ++ x ∷ []
joined_last cs c x e f =
    ap joined (last_is cs c e) ∙ joined_push (take (length cs - 1) cs) c ∙ ap (λ zs. joined (take (length cs - 1) cs) ++ zs) (last_is c x f)
    ∙ sym (append_assoc (joined (take (length cs - 1) cs)) (take (length c - 1) c) (x ∷ []))

-- ---- changes in order, part by part

module _ {A K : Type 0} (order : K → K → Ordering) (total : IsTotalOrder order) (at : A → K) where
  more_than : (a b : K) → order a b ≡ Less → order b a ≡ Greater
  more_than a b e = total.antisymm b a ∙ ap ordering_reverse e

  module _ {C : Type 0} (of : C → K) (make : List A → C → List A) where
    -- what is below the first change stays as it is
    merged_behind : (xs ys : List A) (c : C) (cs : List C) → AreBelow order at (of c) xs → merged order at of make (xs ++ ys) (c ∷ cs) ≡ xs ++ merged order at of make ys (c ∷ cs)
    merged_behind xs ys c cs low =
        let b : below order at (of c) (xs ++ ys) ≡ xs ++ below order at (of c) ys = filter-append (λ x. is_lt (order (at x) (of c))) xs ys
        ∙ ap (λ zs. zs ++ below order at (of c) ys) (all_pass (λ x. is_lt (order (at x) (of c))) xs (λ x m. ap is_lt (low x m))) in
        let h : here order at (of c) (xs ++ ys) ≡ here order at (of c) ys = filter-append (λ x. is_eq (order (at x) (of c))) xs ys
        ∙ ap (λ zs. zs ++ here order at (of c) ys) (none_pass (λ x. is_eq (order (at x) (of c))) xs (λ x m. ap is_eq (low x m))) in
        let a : above order at (of c) (xs ++ ys) ≡ above order at (of c) ys = filter-append (λ x. is_gt (order (at x) (of c))) xs ys
        ∙ ap (λ zs. zs ++ above order at (of c) ys) (none_pass (λ x. is_gt (order (at x) (of c))) xs (λ x m. ap is_gt (low x m))) in
        ap (λ zs. zs ++ (make (here order at (of c) (xs ++ ys)) c ++ merged order at of make (above order at (of c) (xs ++ ys)) cs)) b
        ∙ ap (λ zs. (xs ++ below order at (of c) ys) ++ (make zs c ++ merged order at of make (above order at (of c) (xs ++ ys)) cs)) h
        ∙ ap (λ zs. (xs ++ below order at (of c) ys) ++ (make (here order at (of c) ys) c ++ merged order at of make zs cs)) a
        ∙ append_assoc xs (below order at (of c) ys) (make (here order at (of c) ys) c ++ merged order at of make (above order at (of c) ys) cs)

    pub merged_next : (xs ys : List A) (cs : List C) → IsNextAbove order at of xs cs → merged order at of make (xs ++ ys) cs ≡ xs ++ merged order at of make ys cs
    merged_next xs ys [] next = refl
    merged_next xs ys (c ∷ cs) next = merged_behind xs ys c cs next

    next_above : (k : K) (xs : List A) (cs : List C) → IsNextAbove order at of xs cs → IsNextAbove order at of (above order at k xs) cs
    next_above k xs [] next = tt
    next_above k xs (c ∷ cs) next = λ x m. next x (filter_from (λ y. is_gt (order (at y) k)) xs x m).0

    -- the first changes are made in the first part, and the others in the rest
    pub merged_parts : (xs ys : List A) (cs ds : List C) → ((c : C) (y : A) → Contains cs c → Contains ys y → order (of c) (at y) ≡ Less) → IsNextAbove order at of xs ds
        → merged order at of make (xs ++ ys) (cs ++ ds) ≡ merged order at of make xs cs ++ merged order at of make ys ds
    merged_parts xs ys [] ds high next = merged_next xs ys ds next
    merged_parts xs ys (c ∷ cs) ds high next =
        let more : (y : A) → Contains ys y → order (at y) (of c) ≡ Greater = λ y m. more_than (of c) (at y) (high c y (Contains-here c cs) m) in
        let b : below order at (of c) (xs ++ ys) ≡ below order at (of c) xs = filter-append (λ x. is_lt (order (at x) (of c))) xs ys
        ∙ ap (λ zs. below order at (of c) xs ++ zs) (none_pass (λ x. is_lt (order (at x) (of c))) ys (λ y m. ap is_lt (more y m))) ∙ append-nil (below order at (of c) xs) in
        let h : here order at (of c) (xs ++ ys) ≡ here order at (of c) xs = filter-append (λ x. is_eq (order (at x) (of c))) xs ys
        ∙ ap (λ zs. here order at (of c) xs ++ zs) (none_pass (λ x. is_eq (order (at x) (of c))) ys (λ y m. ap is_eq (more y m))) ∙ append-nil (here order at (of c) xs) in
        let a : above order at (of c) (xs ++ ys) ≡ above order at (of c) xs ++ ys = filter-append (λ x. is_gt (order (at x) (of c))) xs ys
        ∙ ap (λ zs. above order at (of c) xs ++ zs) (all_pass (λ x. is_gt (order (at x) (of c))) ys (λ y m. ap is_gt (more y m))) in
        let rest = merged_parts (above order at (of c) xs) ys cs ds (λ d y m n. high d y (Contains-there d c cs m) n) (next_above (of c) xs ds next) in
        ap (λ zs. zs ++ (make (here order at (of c) (xs ++ ys)) c ++ merged order at of make (above order at (of c) (xs ++ ys)) (cs ++ ds))) b
        ∙ ap (λ zs. below order at (of c) xs ++ (make zs c ++ merged order at of make (above order at (of c) (xs ++ ys)) (cs ++ ds))) h
        ∙ ap (λ zs. below order at (of c) xs ++ (make (here order at (of c) xs) c ++ merged order at of make zs (cs ++ ds))) a
        ∙ ap (λ zs. below order at (of c) xs ++ (make (here order at (of c) xs) c ++ zs)) rest
        ∙ ap (λ zs. below order at (of c) xs ++ zs) (sym (append_assoc (make (here order at (of c) xs) c) (merged order at of make (above order at (of c) xs) cs) (merged order at of make ys ds)))
        ∙ sym (append_assoc (below order at (of c) xs) (make (here order at (of c) xs) c ++ merged order at of make (above order at (of c) xs) cs) (merged order at of make ys ds))

-- ---- definitions

before_last : (id x : DefinitionId) (xs ps : List DefinitionId) → xs ≡ ps ++ x ∷ [] → AreInOrder xs → id_order x id ≡ Less → AreBefore id xs
before_last id x xs ps e up lt = λ y m. elim (Contains-append_cases ps (x ∷ []) y (subst (λ zs. Contains zs y) e m)) [
  | inl p ↦ id_total.trans y x id (pairs_across (λ (a b : DefinitionId). id_order a b ≡ Less) ps (x ∷ []) (subst (λ zs. AreInOrder zs) e up) y x p (Contains-here x [])) lt
  | inr q ↦ elim (Contains-cases y x [] q) [
    | inl s ↦ subst (λ z. id_order z id ≡ Less) (sym s) lt
    | inr n ↦ absurd (Contains-nil y n)
  ]
]

-- what is in chunks is before a definition if the last of it is
pub chunks_before_last : (id x : DefinitionId) (cs : List (List DefinitionId)) (c : List DefinitionId) → slice_get cs (length cs - 1) ≡ Some c → slice_get c (length c - 1) ≡ Some x
    → AreInOrder (joined cs) → id_order x id ≡ Less → AreBefore id (joined cs)
chunks_before_last id x cs c e f up lt = before_last id x (joined cs) (joined (take (length cs - 1) cs) ++ take (length c - 1) c) (joined_last cs c x e f) up lt

-- one change more that is before a definition
pub before_more : (id x : DefinitionId) (xs : List DefinitionId) (i : ℕ) → i < length xs → x ≡ get_or xs i x → id_order x id ≡ Less → AreBefore id (take i xs) → AreBefore id (take (i + 1) xs)
before_more id x xs i within e lt low = λ y m. elim (Contains-push_cases (take i xs) x y (subst (λ zs. Contains zs y) (take_more xs i x within ∙ ap (λ z. take i xs ++ z ∷ []) (sym e)) m)) [
  | inl o ↦ low y o
  | inr s ↦ subst (λ z. id_order z id ≡ Less) s lt
]

not_before : (id x y : DefinitionId) → is_lt (id_order y id) ≡ false → id_order x id ≡ Less → id_order x y ≡ Less
not_before id x y late lt = elim (by_order (id_order id y)) [
  | inl l ↦ id_total.trans x id y lt l
  | inr o ↦ elim o [
    | inl e ↦ subst (λ z. id_order x z ≡ Less) (id_exact id y e) lt
    | inr g ↦ absurd (let t : true ≡ false = sym (ap is_lt (id_total.antisymm y id ∙ ap ordering_reverse g)) ∙ late in cc t)
  ]
]

next_after : (id : DefinitionId) (next ids xs : List DefinitionId) → Contains ids id → IsNextFrom id next → AreInOrder (xs ++ ids) → IsNextAbove id_order itself itself xs next
next_after id [] ids xs m from up = tt
next_after id (y ∷ ys) ids xs m from up = λ x n. not_before id x y from (pairs_across (λ (a b : DefinitionId). id_order a b ≡ Less) xs ids up x id n m)

-- the changes before the first definition are ahead of all
pub ahead_first : (id : DefinitionId) (first next ids : List DefinitionId) → AreInOrder ids → slice_get ids 0 ≡ Some id → AreBefore id first → IsNextFrom id next → AreAhead first next ids
ahead_first id first next ids up at low from =
    let is : ids ≡ id ∷ drop 1 ids = first_is ids id at in
    let there : Contains ids id = subst (λ zs. Contains zs id) (sym is) (Contains-here id (drop 1 ids)) in
    record {
      before = λ x y m n. elim (Contains-cases y id (drop 1 ids) (subst (λ zs. Contains zs y) is n)) [
        | inl e ↦ subst (λ z. id_order x z ≡ Less) (sym e) (low x m)
        | inr t ↦ id_total.trans x id y (low x m) (pairs_head (λ (a b : DefinitionId). id_order a b ≡ Less) id (drop 1 ids) (subst (λ zs. AreInOrder zs) is up) y t)
      ];
      after = λ xs both. next_after id next ids xs there from both;
    }

pub next_none : (xs changed : List DefinitionId) → changed ≡ [] → IsNextAbove id_order itself itself xs changed
next_none xs changed none = subst (λ zs. IsNextAbove id_order itself itself xs zs) (sym none) tt

pub ahead_none : (first next ids : List DefinitionId) → ids ≡ [] → next ≡ [] → AreAhead first next ids
ahead_none first next ids none end = record {
  before = λ x y m n. absurd (Contains-nil y (subst (λ zs. Contains zs y) none n));
  after = λ xs up. next_none xs next end;
}

-- ---- an edit, chunk by chunk

-- Of these chunks, those before an index are before the first change. The first changes are made in
-- the chunk at the index, and the others in the chunks after it.
module _ (comes : Bool) (cs : List (List DefinitionId)) (place : ℕ) (c : List DefinitionId) (within : place < length cs) (at : c ≡ get_or cs place c)
    (up : AreInOrder (joined cs)) where
  in_parts : AreInOrder (joined (take place cs) ++ (c ++ joined (drop (place + 1) cs)))
  in_parts = subst (λ zs. AreInOrder zs) (joined_parts cs place c within at) up

  from_chunk : AreInOrder (c ++ joined (drop (place + 1) cs))
  from_chunk = pairs_right (λ (a b : DefinitionId). id_order a b ≡ Less) (joined (take place cs)) (c ++ joined (drop (place + 1) cs)) in_parts

  pub chunk_order : AreInOrder c
  chunk_order = pairs_left (λ (a b : DefinitionId). id_order a b ≡ Less) c (joined (drop (place + 1) cs)) from_chunk

  pub edited_parts : (changed : List DefinitionId) (count : ℕ) → IsNextAbove id_order itself itself (joined (take place cs)) changed
      → AreAhead (take count changed) (drop count changed) (joined (drop (place + 1) cs))
      → edited comes (joined cs) changed ≡ joined (take place cs) ++ (edited comes c (take count changed) ++ edited comes (joined (drop (place + 1) cs)) (drop count changed))
  edited_parts changed count next ahead =
      ap (λ zs. edited comes zs changed) (joined_parts cs place c within at)
      ∙ merged_next id_order id_total itself itself (one_if comes) (joined (take place cs)) (c ++ joined (drop (place + 1) cs)) changed next
      ∙ ap (λ zs. joined (take place cs) ++ edited comes (c ++ joined (drop (place + 1) cs)) zs) (sym (take-append-drop count changed))
      ∙ ap (λ zs. joined (take place cs) ++ zs) (merged_parts id_order id_total itself itself (one_if comes) c (joined (drop (place + 1) cs)) (take count changed) (drop count changed) ahead.before (ahead.after c from_chunk))

  -- what is made so far, with what is left
  pub edited_more : (changed : List DefinitionId) (count : ℕ) → IsNextAbove id_order itself itself (joined (take place cs)) changed
      → AreAhead (take count changed) (drop count changed) (joined (drop (place + 1) cs))
      → (all now done : List (List DefinitionId)) → now ≡ all ++ take place cs → joined done ≡ joined now ++ edited comes c (take count changed)
      → joined done ++ edited comes (joined (drop (place + 1) cs)) (drop count changed) ≡ joined all ++ edited comes (joined cs) changed
  edited_more changed count next ahead all now done shared added =
      let J = joined (take place cs) in
      let E = edited comes c (take count changed) in
      let R = edited comes (joined (drop (place + 1) cs)) (drop count changed) in
      ap (λ zs. zs ++ R) (added ∙ ap (λ zs. zs ++ E) (ap joined shared ∙ joined_append all (take place cs)))
      ∙ append_assoc (joined all ++ J) E R
      ∙ append_assoc (joined all) J (E ++ R)
      ∙ ap (λ zs. joined all ++ zs) (sym (edited_parts changed count next ahead))

-- the chunks before an index are in order
pub prefix_order : (cs : List (List DefinitionId)) (place : ℕ) → AreInOrder (joined cs) → AreInOrder (joined (take place cs))
prefix_order cs place up = pairs_left (λ (a b : DefinitionId). id_order a b ≡ Less) (joined (take place cs)) (joined (drop place cs))
    (subst (λ zs. AreInOrder zs) (ap joined (sym (take-append-drop place cs)) ∙ joined_append (take place cs) (drop place cs)) up)

-- the chunks from an index on are in order
pub suffix_order : (cs : List (List DefinitionId)) (place : ℕ) → AreInOrder (joined cs) → AreInOrder (joined (drop place cs))
suffix_order cs place up = pairs_right (λ (a b : DefinitionId). id_order a b ≡ Less) (joined (take place cs)) (joined (drop place cs))
    (subst (λ zs. AreInOrder zs) (ap joined (sym (take-append-drop place cs)) ∙ joined_append (take place cs) (drop place cs)) up)

-- ---- the first of what is in chunks

pub first_found : {A : Type 0} (cs : List (List A)) (i : ℕ) (c : List A) (x : A) → i < length cs → c ≡ get_or cs i c → joined (take i cs) ≡ [] → slice_get c 0 ≡ Some x → Some x ≡ slice_get (joined cs) 0
first_found cs i c x lt e none at = sym (ap (λ zs. slice_get zs 0) (joined_parts cs i c lt e ∙ ap (λ zs. zs ++ (c ++ joined (drop (i + 1) cs))) none ∙ ap (λ zs. zs ++ joined (drop (i + 1) cs)) (first_is c x at)))

pub none_more : {A : Type 0} (cs : List (List A)) (i : ℕ) (c : List A) → i < length cs → c ≡ get_or cs i c → joined (take i cs) ≡ [] → slice_get c 0 ≡ None → joined (take (i + 1) cs) ≡ []
none_more cs i c lt e none at = joined_more cs i c lt e ∙ ap (λ zs. zs ++ c) none ∙ none_first c at

pub none_last : {X : Type 0} (xs : List X) → slice_get xs (length xs - 1) ≡ None → xs ≡ []
none_last [] e = refl
none_last (y ∷ ys) e = absurd (
    let lt : length (y ∷ ys) - 1 < length (y ∷ ys) = omega arith in
    let t : Some (get_or (y ∷ ys) (length (y ∷ ys) - 1) y) ≡ None = sym (slice_get-get_or (y ∷ ys) (length (y ∷ ys) - 1) y lt) ∙ e in
    cc t
    )

-- one piece more
pub pieces_more : (before now rest all : List DefinitionId) (n : ℕ) → now ≡ before ++ take n rest → before ++ rest ≡ all → now ++ take (length rest - n) (drop n rest) ≡ all
pieces_more before now rest all n e so_far =
    ap (λ zs. zs ++ take (length rest - n) (drop n rest)) e
    ∙ append_assoc before (take n rest) (take (length rest - n) (drop n rest))
    ∙ ap (λ zs. before ++ (take n rest ++ zs)) (take_rest rest n)
    ∙ ap (λ zs. before ++ zs) (take-append-drop n rest)
    ∙ so_far

pub rest_shorter : {A : Type 0} (rest : List A) (n : ℕ) → 0 < n → n ≤ length rest → length (take (length rest - n) (drop n rest)) < length rest
rest_shorter rest n some within = subst (λ m. m < length rest) (sym (ap length (take_rest rest n) ∙ length-drop n rest)) (omega (arith, some, within))

pub rest_within : {A : Type 0} (rest : List A) (n : ℕ) → length (take (length rest - n) (drop n rest)) ≤ length rest
rest_within rest n = subst (λ m. m ≤ length rest) (sym (ap length (take_rest rest n) ∙ length-drop n rest)) (omega arith)
