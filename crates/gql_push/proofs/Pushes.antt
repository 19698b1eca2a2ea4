-- What is pushed after a plan was made, and which plans are empty.
use Rattle.std.proofs.Common.{ℕ, ◌+◌, ◌≡◌, ◌∙◌, ◌⊎◌, inl, inr, List, [], ◌∷◌, ◌++◌, ◌&&◌, Bool, true, false, cond, Option, Some, None, refl, sym, ap, subst, length, map, slice_get, bytes_eq, codes, string_bytes, arith, ◌/◌}
use Rattle.std.specs.Prelude.{find, not, nat_eq, option_map, unwrap_or}
use Rattle.std.specs.List.{enumerate_from, filter, list_any, range_with_len}
use Rattle.std.proofs.lemmas.Bool.{cases_Bool, not-true, not-false, not_from_false, not_from_true, or_parts, or_right, true≢false}
use Rattle.std.proofs.lemmas.Slice.Eq.{bytes_eq-Decides}
use Rattle.gql_folder.specs.declared.folder.GivenFile.{GivenFile}
use Rattle.sha2.specs.Sha256.{sha256}
use Rattle.gql_push.specs.Laws.{AllPushed, AllPutAgain, NothingToPush}
use Rattle.gql_push.specs.Plans.{Change, put, remove, empty_data, is_of, is_pushed, is_to_put, puts, removal_of, is_gone, removals, planned, target_of, is_changed, put_by, kept, put_among, after, put_again}
use Rattle.gql_push.specs.Resources.{Entry, HasSum, IsConsistent, entries_at, entry_at, target_at}
use Rattle.gql_push.specs.Sums.{hex_of, digit_of, sum_at}
use Rattle.gql_push.proofs.Among.{In, in_Contains, Contains_in, in_left, in_right, of_append, in_map, of_map, in_filter, of_filter, filter_none, filter_all, place_of, in_slice_get, in_enumerate, of_enumerate, in_filter_map, of_filter_map, any_in, of_any, of_find, found}

-- one of these has this target with this sum
abbrev pub Has : List Entry → List ℕ → List ℕ → Type 0
Has es t s = (e : Entry) × In e es × (e.target ≡ t) × (e.sum ≡ s)

has_from : (es : List Entry) (t s : List ℕ) → HasSum es t s → Has es t s
has_from es t s h = (h.0, in_Contains es h.0 h.1, h.2, h.3)

has_to : (es : List Entry) (t s : List ℕ) → Has es t s → HasSum es t s
has_to es t s h = (h.0, Contains_in es h.0 h.1, h.2, h.3)

one_sum : (es : List Entry) → IsConsistent es → (t s u : List ℕ) → Has es t s → Has es t u → s ≡ u
one_sum es consistent t s u h g = consistent t s u (has_to es t s h) (has_to es t u g)

same_bytes : (a b : List ℕ) → bytes_eq a b ≡ true → a ≡ b
same_bytes a b = (bytes_eq-Decides a b).0

bytes_same : (a b : List ℕ) → a ≡ b → bytes_eq a b ≡ true
bytes_same a b = (bytes_eq-Decides a b).1

-- which of the resources with their places are put
abbrev passes : Bool → List Entry → ℕ × Entry → Bool
passes all ps p = is_to_put all ps p.1

abbrev as_put : ℕ × Entry → Change
as_put p = put p.0

abbrev as_removal : Entry → Change
as_removal e = removal_of e.target

-- a resource that is pushed as it is has its sum among the pushed ones
pushed_found : (ps : List Entry) (e : Entry) (o : Option Entry) → find (is_of e.target) ps ≡ o → unwrap_or (option_map (λ (b : Entry). bytes_eq b.sum e.sum) o) false ≡ true → Has ps e.target e.sum
pushed_found ps e None is same = absurd (true≢false (sym same))
pushed_found ps e (Some b) is same =
    let there : In b ps × (bytes_eq b.target e.target ≡ true) = of_find (is_of e.target) ps b is in
    (b, there.0, same_bytes b.target e.target there.1, same_bytes b.sum e.sum same)

-- a resource that is not to be put was pushed
not_put : (all : Bool) (ps : List Entry) (e : Entry) → is_to_put all ps e ≡ false → Has ps e.target e.sum
not_put all ps e is =
    pushed_found ps e (find (is_of e.target) ps) refl (not-false (is_pushed ps e) (or_parts all (not (is_pushed ps e)) is).1)

-- the put of a resource that is to be put is in the plan
put_planned : (rs ps : List Entry) (all : Bool) (k : ℕ) (r : Entry) → slice_get rs k ≡ Some r → is_to_put all ps r ≡ true → In (put k) (planned rs ps all)
put_planned rs ps all k r is wanted =
    let number : 0 + k ≡ k = omega arith in
    in_left (puts all rs ps) (removals rs ps) (put k)
    (in_map as_put (filter (passes all ps) (enumerate_from 0 rs)) (k, r) (in_filter (passes all ps) (enumerate_from 0 rs) (k, r) wanted (in_enumerate 0 k rs k r number is)))

-- the removal of a resource that is gone is in the plan
removal_planned : (rs ps : List Entry) (all : Bool) (b : Entry) → In b ps → is_gone rs b ≡ true → In (removal_of b.target) (planned rs ps all)
removal_planned rs ps all b there gone =
    in_right (puts all rs ps) (removals rs ps) (removal_of b.target) (in_map as_removal (filter (is_gone rs) ps) b (in_filter (is_gone rs) ps b gone there))

-- a change of a plan is the put of a resource, or the removal of one that is gone
abbrev IsPut : List Entry → Change → Type 0
IsPut rs c = (k : ℕ) × (e : Entry) × (slice_get rs k ≡ Some e) × (c ≡ put k)

abbrev IsRemoval : List Entry → Change → Type 0
IsRemoval rs c = (b : Entry) × (is_gone rs b ≡ true) × (c ≡ removal_of b.target)

planned_cases : (rs ps : List Entry) (all : Bool) (c : Change) → In c (planned rs ps all) → IsPut rs c ⊎ IsRemoval rs c
planned_cases rs ps all c h =
    elim (of_append (puts all rs ps) (removals rs ps) c h) [
      | inl l ↦ inl (from_puts l)
      | inr r ↦ inr (from_removals r)
    ]
  where
    from_puts : In c (puts all rs ps) → IsPut rs c
    from_puts l =
        let one : (p : ℕ × Entry) × In p (filter (passes all ps) (enumerate_from 0 rs)) × (put p.0 ≡ c) = of_map as_put (filter (passes all ps) (enumerate_from 0 rs)) c l in
        let kept_one : In one.0 (enumerate_from 0 rs) × (is_to_put all ps one.0.1 ≡ true) = of_filter (passes all ps) (enumerate_from 0 rs) one.0 one.1 in
        let at : (k : ℕ) × (one.0.0 ≡ 0 + k) × (slice_get rs k ≡ Some one.0.1) = of_enumerate 0 rs one.0 kept_one.0 in
        let number : one.0.0 ≡ 0 + at.0 = at.1 in
        let same : one.0.0 ≡ at.0 = omega arith in
        (at.0, one.0.1, at.2, sym one.2 ∙ ap put same)

    from_removals : In c (removals rs ps) → IsRemoval rs c
    from_removals r =
        let one : (b : Entry) × In b (filter (is_gone rs) ps) × (removal_of b.target ≡ c) = of_map as_removal (filter (is_gone rs) ps) c r in
        (one.0, (of_filter (is_gone rs) ps one.0 one.1).1, sym one.2)

-- the target of a removal, and that it puts nothing
removal_target : (rs : List Entry) (t : List ℕ) → target_of rs (removal_of t) ≡ t
removal_target rs t = by_test (bytes_eq t (codes "data")) refl
  where
    by_test : (b : Bool) → bytes_eq t (codes "data") ≡ b → target_of rs (cond b empty_data (remove t)) ≡ t
    by_test true is = sym (same_bytes t (codes "data") is)
    by_test false is = refl

removal_puts_none : (rs : List Entry) (t : List ℕ) → put_by rs (removal_of t) ≡ None
removal_puts_none rs t = by_test (bytes_eq t (codes "data"))
  where
    by_test : (b : Bool) → put_by rs (cond b empty_data (remove t)) ≡ None
    by_test true = refl
    by_test false = refl

-- the target of a put
put_target : (rs : List Entry) (k : ℕ) (e : Entry) → slice_get rs k ≡ Some e → target_of rs (put k) ≡ e.target
put_target rs k e is = ap (λ (o : Option Entry). unwrap_or (option_map (λ (x : Entry). x.target) o) []) is

-- a target is changed by a change of it
changed_by : (rs : List Entry) (made : List Change) (c : Change) (t : List ℕ) → In c made → target_of rs c ≡ t → is_changed rs made t ≡ true
changed_by rs made c t there is = any_in (λ (m : Change). bytes_eq (target_of rs m) t) made c there (bytes_same (target_of rs c) t is)

-- a target that one of these has is not gone
not_gone : (rs : List Entry) (b r : Entry) → In r rs → r.target ≡ b.target → is_gone rs b ≡ false
not_gone rs b r there same = not_from_true (list_any (is_of b.target) rs) (any_in (is_of b.target) rs r there (bytes_same r.target b.target same))

differ : {A : Type 0} (b : Bool) → b ≡ true → b ≡ false → A
differ b is other = absurd (true≢false (sym is ∙ other))

-- what was put is pushed
put_is_pushed : (rs ps : List Entry) (made : List Change) (k : ℕ) (r : Entry) → slice_get rs k ≡ Some r → In (put k) made → In r (after rs ps made)
put_is_pushed rs ps made k r is there = in_right (kept rs ps made) (put_among rs made) r (in_filter_map (put_by rs) made (put k) r there is)

-- a pushed resource that no change touched is one of the folder
kept_is_there : (rs ps : List Entry) (all : Bool) → IsConsistent ps → (e : Entry) → In e (kept rs ps (planned rs ps all)) → Has rs e.target e.sum
kept_is_there rs ps all consistent e h =
    elim (cases_Bool (list_any (is_of e.target) rs)) [
      | inl some ↦ of_one (of_any (is_of e.target) rs some)
      | inr none ↦ differ (is_changed rs (planned rs ps all) e.target)
          (changed_by rs (planned rs ps all) (removal_of e.target) e.target (removal_planned rs ps all e there.0 (not_from_false (list_any (is_of e.target) rs) none)) (removal_target rs e.target))
          untouched
    ]
  where
    there : In e ps × (not (is_changed rs (planned rs ps all) e.target) ≡ true)
    there = of_filter (λ (x : Entry). not (is_changed rs (planned rs ps all) x.target)) ps e h

    untouched : is_changed rs (planned rs ps all) e.target ≡ false
    untouched = not-true (is_changed rs (planned rs ps all) e.target) there.1

    of_one : ((r : Entry) × In r rs × (bytes_eq r.target e.target ≡ true)) → Has rs e.target e.sum
    of_one one =
        let same : one.0.target ≡ e.target = same_bytes one.0.target e.target one.2 in
        let at : (k : ℕ) × (slice_get rs k ≡ Some one.0) = place_of rs one.0 one.1 in
        elim (cases_Bool (is_to_put all ps one.0)) [
          | inl wanted ↦ differ (is_changed rs (planned rs ps all) e.target)
              (changed_by rs (planned rs ps all) (put at.0) e.target (put_planned rs ps all at.0 one.0 at.1 wanted) (put_target rs at.0 one.0 at.1 ∙ same))
              untouched
          | inr left ↦
              let pushed : Has ps one.0.target one.0.sum = not_put all ps one.0 left in
              let sums : one.0.sum ≡ e.sum = one_sum ps consistent e.target one.0.sum e.sum (pushed.0, pushed.1, pushed.2 ∙ same, pushed.3) (e, there.0, refl, refl) in
              (one.0, one.1, same, sums)
        ]

-- what a plan puts is of the folder
put_is_there : (rs ps : List Entry) (all : Bool) (e : Entry) → In e (put_among rs (planned rs ps all)) → Has rs e.target e.sum
put_is_there rs ps all e h =
    let one : (c : Change) × In c (planned rs ps all) × (put_by rs c ≡ Some e) = of_filter_map (put_by rs) (planned rs ps all) e h in
    elim (planned_cases rs ps all one.0 one.1) [
      | inl p ↦ (e, in_slice_get rs p.0 e (ap (put_by rs) (sym p.3) ∙ one.2), refl, refl)
      | inr r ↦ no_put (sym (removal_puts_none rs r.0.target) ∙ ap (put_by rs) (sym r.2) ∙ one.2)
    ]
  where
    no_put : None ≡ Some e → Has rs e.target e.sum
    no_put is = cc

-- each resource of the folder is pushed
there_is_pushed : (rs ps : List Entry) (all : Bool) → IsConsistent rs → (r : Entry) → In r rs → Has (after rs ps (planned rs ps all)) r.target r.sum
there_is_pushed rs ps all consistent r there =
    elim (cases_Bool (is_to_put all ps r)) [
      | inl wanted ↦ (r, put_is_pushed rs ps (planned rs ps all) at.0 r at.1 (put_planned rs ps all at.0 r at.1 wanted), refl, refl)
      | inr left ↦ of_pushed (not_put all ps r left)
    ]
  where
    at : (k : ℕ) × (slice_get rs k ≡ Some r)
    at = place_of rs r there

    touched : (b : Entry) → In b ps → b.target ≡ r.target → ((c : Change) × In c (planned rs ps all) × (bytes_eq (target_of rs c) b.target ≡ true)) → Has (after rs ps (planned rs ps all)) r.target r.sum
    touched b in_ps same one =
        let target : target_of rs one.0 ≡ r.target = same_bytes (target_of rs one.0) b.target one.2 ∙ same in
        elim (planned_cases rs ps all one.0 one.1) [
          | inl p ↦
              let its_target : p.1.target ≡ r.target = sym (put_target rs p.0 p.1 p.2) ∙ ap (target_of rs) (sym p.3) ∙ target in
              let in_rs : In p.1 rs = in_slice_get rs p.0 p.1 p.2 in
              let sums : p.1.sum ≡ r.sum = one_sum rs consistent r.target p.1.sum r.sum (p.1, in_rs, its_target, refl) (r, there, refl, refl) in
              (p.1, put_is_pushed rs ps (planned rs ps all) p.0 p.1 p.2 (subst (λ c. In c (planned rs ps all)) p.3 one.1), its_target, sums)
          | inr g ↦ differ (is_gone rs g.0) g.1 (not_gone rs g.0 r there (sym target ∙ ap (target_of rs) g.2 ∙ removal_target rs g.0.target))
        ]

    of_pushed : Has ps r.target r.sum → Has (after rs ps (planned rs ps all)) r.target r.sum
    of_pushed b =
        elim (cases_Bool (is_changed rs (planned rs ps all) b.0.target)) [
          | inl changed ↦ touched b.0 b.1 b.2 (of_any (λ (m : Change). bytes_eq (target_of rs m) b.0.target) (planned rs ps all) changed)
          | inr same ↦ (b.0, in_left (kept rs ps (planned rs ps all)) (put_among rs (planned rs ps all)) b.0 (in_filter (λ (x : Entry). not (is_changed rs (planned rs ps all) x.target)) ps b.0 (not_from_false (is_changed rs (planned rs ps all) b.0.target) same) b.1), b.2, b.3)
        ]

pub all_pushed : AllPushed
all_pushed rs ps all consistent_rs consistent_ps t s = (into, from)
  where
    into : HasSum (after rs ps (planned rs ps all)) t s → HasSum rs t s
    into h =
        let e : Has (after rs ps (planned rs ps all)) t s = has_from (after rs ps (planned rs ps all)) t s h in
        let its_own : Has rs e.0.target e.0.sum =
        elim (of_append (kept rs ps (planned rs ps all)) (put_among rs (planned rs ps all)) e.0 e.1) [
          | inl k ↦ kept_is_there rs ps all consistent_ps e.0 k
          | inr p ↦ put_is_there rs ps all e.0 p
        ]
        in
        has_to rs t s (its_own.0, its_own.1, its_own.2 ∙ e.2, its_own.3 ∙ e.3)

    from : HasSum rs t s → HasSum (after rs ps (planned rs ps all)) t s
    from h =
        let r : Has rs t s = has_from rs t s h in
        let its_own : Has (after rs ps (planned rs ps all)) r.0.target r.0.sum = there_is_pushed rs ps all consistent_rs r.0 r.1 in
        has_to (after rs ps (planned rs ps all)) t s (its_own.0, its_own.1, its_own.2 ∙ r.2, its_own.3 ∙ r.3)

-- a resource whose sum is among the pushed ones is pushed as it is
pushed_as_it_is : (ps : List Entry) → IsConsistent ps → (e : Entry) → Has ps e.target e.sum → is_pushed ps e ≡ true
pushed_as_it_is ps consistent e h =
    let first : (b : Entry) × (find (is_of e.target) ps ≡ Some b) = found (is_of e.target) ps h.0 h.1 (bytes_same h.0.target e.target h.2) in
    let its : In first.0 ps × (bytes_eq first.0.target e.target ≡ true) = of_find (is_of e.target) ps first.0 first.1 in
    let same : first.0.sum ≡ e.sum = one_sum ps consistent e.target first.0.sum e.sum (first.0, its.0, same_bytes first.0.target e.target its.1, refl) h in
    ap (λ (o : Option Entry). unwrap_or (option_map (λ (b : Entry). bytes_eq b.sum e.sum) o) false) first.1 ∙ bytes_same first.0.sum e.sum same

pub nothing_to_push : NothingToPush
nothing_to_push rs ps consistent same =
    ap (λ ys. ys ++ removals rs ps) (ap (map as_put) (filter_none (passes false ps) (enumerate_from 0 rs) none_put))
    ∙ ap (map as_removal) (filter_none (is_gone rs) ps none_gone)
  where
    none_put : (p : ℕ × Entry) → In p (enumerate_from 0 rs) → is_to_put false ps p.1 ≡ false
    none_put p h =
        let at : (k : ℕ) × (p.0 ≡ 0 + k) × (slice_get rs k ≡ Some p.1) = of_enumerate 0 rs p h in
        let there : In p.1 rs = in_slice_get rs at.0 p.1 at.2 in
        let pushed : Has ps p.1.target p.1.sum = has_from ps p.1.target p.1.sum ((same p.1.target p.1.sum).1 (has_to rs p.1.target p.1.sum (p.1, there, refl, refl))) in
        not_from_true (is_pushed ps p.1) (pushed_as_it_is ps consistent p.1 pushed)

    none_gone : (b : Entry) → In b ps → is_gone rs b ≡ false
    none_gone b h =
        let r : Has rs b.target b.sum = has_from rs b.target b.sum ((same b.target b.sum).0 (has_to ps b.target b.sum (b, h, refl, refl))) in
        not_gone rs b r.0 r.1 r.2

and_false : (b : Bool) → b && false ≡ false
and_false true = refl
and_false false = refl

-- no sum of a file is `-`
not_a_sum : (bytes : List ℕ) → bytes_eq (codes "-") (hex_of bytes) ≡ false
not_a_sum [] = refl
not_a_sum (b ∷ bytes) = and_false (nat_eq 45 (digit_of (b / 16)))

-- the resource of a file with its target
abbrev with_target : ℕ × GivenFile → List ℕ → Entry
with_target f t = record { target = t; sum = sum_at f.1.bytes.items; file = f.0 }

made_sum : (f : ℕ × GivenFile) (o : Option (List ℕ)) (e : Entry) → option_map (with_target f) o ≡ Some e → bytes_eq (codes "-") e.sum ≡ false
made_sum f None e is = cc
made_sum f (Some t) e is =
    let same : sum_at f.1.bytes.items ≡ e.sum = ap (λ (o : Option Entry). unwrap_or (option_map (λ (x : Entry). x.sum) o) []) is in
    ap (bytes_eq (codes "-")) (sym same) ∙ not_a_sum (sha256 f.1.bytes.items)

-- a resource with the sum `-`
abbrev again : Entry → Entry
again e = record e { sum = codes "-" }

found_again : (ps : List Entry) (e : Entry) (o : Option Entry) → find (is_of e.target) (put_again ps) ≡ o → bytes_eq (codes "-") e.sum ≡ false → unwrap_or (option_map (λ (b : Entry). bytes_eq b.sum e.sum) o) false ≡ false
found_again ps e None is other = refl
found_again ps e (Some b) is other =
    let one : (x : Entry) × In x ps × (again x ≡ b) = of_map again ps b (of_find (is_of e.target) (put_again ps) b is).0 in
    let sum : codes "-" ≡ b.sum = ap (λ (x : Entry). x.sum) one.2 in
    ap (λ s. bytes_eq s e.sum) (sym sum) ∙ other

enumerated_puts : (n : ℕ) (es : List Entry) → map as_put (enumerate_from n es) ≡ map put (range_with_len n (length es))
enumerated_puts n [] = refl
enumerated_puts n (e ∷ es) = ap (λ ys. put n ∷ ys) (enumerated_puts (n + 1) es)

pub all_put_again : AllPutAgain
all_put_again most files ps all =
    ap (map as_put) (filter_all (passes all (put_again ps)) (enumerate_from 0 (entries_at most files)) all_pass) ∙ enumerated_puts 0 (entries_at most files)
  where
    no_sum : (e : Entry) → In e (entries_at most files) → bytes_eq (codes "-") e.sum ≡ false
    no_sum e h =
        let one : (f : ℕ × GivenFile) × In f (enumerate_from 0 files) × (entry_at most f ≡ Some e) = of_filter_map (entry_at most) (enumerate_from 0 files) e h in
        made_sum one.0 (target_at most (string_bytes one.0.1.path)) e one.2

    all_pass : (p : ℕ × Entry) → In p (enumerate_from 0 (entries_at most files)) → is_to_put all (put_again ps) p.1 ≡ true
    all_pass p h =
        let at : (k : ℕ) × (p.0 ≡ 0 + k) × (slice_get (entries_at most files) k ≡ Some p.1) = of_enumerate 0 (entries_at most files) p h in
        let there : In p.1 (entries_at most files) = in_slice_get (entries_at most files) at.0 p.1 at.2 in
        or_right all (not (is_pushed (put_again ps) p.1))
        (not_from_false (is_pushed (put_again ps) p.1) (found_again ps p.1 (find (is_of p.1.target) (put_again ps)) refl (no_sum p.1 there)))
