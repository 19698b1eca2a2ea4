-- Names that occur twice, by the names that were found before.
use Rattle.std.proofs.Common.{◌≡◌, ◌∙◌, ◌||◌, ◌∷◌, [], ℕ, List, Bool, true, false, bytes_eq, refl, sym, ap, arith, not}
use Rattle.std.proofs.lemmas.Map.Text.{is_eq-slice_cmp}
use Rattle.std.proofs.lemmas.Slice.Eq.{bytes_eq-Decides}
use Rattle.std.specs.Borrow.{Bor}
use Rattle.std.specs.BTreeMap.{is_at}
use Rattle.std.specs.BTreeSet.{insert_key}
use Rattle.std.specs.Cmp.Lexicographic.{slice_cmp}
use Rattle.std.specs.List.{list_any}
use Rattle.std.specs.Ordering.{is_eq, match_ordering, nat_cmp}
use Rattle.std.specs.declared.cmp.Ordering.{Ordering}
use Rattle.std.specs.declared.cmp.Ordering.TheVariants.{Less, Equal, Greater}
use Rattle.gql_http.specs.Batches.{repeats}

-- the order of names
abbrev pub by_bytes : Bor (List ℕ) → Bor (List ℕ) → Ordering
by_bytes x y = slice_cmp nat_cmp x.now y.now

-- whether a name is among those found
abbrev pub is_found : List (Bor (List ℕ)) → List ℕ → Bool
is_found found name = list_any (is_at (λ k. slice_cmp nat_cmp name k.now)) found

-- whether one of these names is among those found, or occurs twice
abbrev pub repeats_after : List (Bor (List ℕ)) → List (List ℕ) → Bool
repeats_after found names = list_any (is_found found) names || repeats names

same_bytes : (x y : List ℕ) → slice_cmp nat_cmp x y ≡ Equal → x ≡ y
same_bytes x y e = let same : bytes_eq x y ≡ true = sym (is_eq-slice_cmp x y) ∙ ap is_eq e in grind (arith, bytes_eq-Decides)

eq_sym : (x y : List ℕ) → bytes_eq x y ≡ bytes_eq y x
eq_sym x y = grind (arith, bytes_eq-Decides)

or_same : (a b c : Bool) → a ≡ b → (a || c) ≡ (b || (a || c))
or_same true true c e = refl
or_same true false c e = cc
or_same false true c e = cc
or_same false false c e = refl

or_swap : (a b c : Bool) → (a || (b || c)) ≡ (b || (a || c))
or_swap true true c = refl
or_swap true false c = refl
or_swap false b c = refl

-- one more name is found, by its order to the first
one_more : (o : Ordering) (found : List (Bor (List ℕ))) (k x : Bor (List ℕ)) (name : List ℕ) → by_bytes k x ≡ o
    → is_found (insert_key by_bytes found k) name ≡ (bytes_eq name k.now || is_found found name)
    → is_found (match_ordering o (k ∷ x ∷ found) (x ∷ found) (x ∷ insert_key by_bytes found k)) name ≡ (is_eq (slice_cmp nat_cmp name k.now) || is_found (x ∷ found) name)
one_more Less found k x name e ih = refl
one_more Equal found k x name e ih =
    or_same (is_eq (slice_cmp nat_cmp name x.now)) (is_eq (slice_cmp nat_cmp name k.now)) (is_found found name) (ap (λ y. is_eq (slice_cmp nat_cmp name y)) (sym (same_bytes k.now x.now e)))
one_more Greater found k x name e ih =
    ap (λ b. is_eq (slice_cmp nat_cmp name x.now) || b) (ih ∙ ap (λ b. b || is_found found name) (sym (is_eq-slice_cmp name k.now)))
    ∙ or_swap (is_eq (slice_cmp nat_cmp name x.now)) (is_eq (slice_cmp nat_cmp name k.now)) (is_found found name)

-- one more name is found
found_more : (found : List (Bor (List ℕ))) (k : Bor (List ℕ)) (name : List ℕ) → is_found (insert_key by_bytes found k) name ≡ (bytes_eq name k.now || is_found found name)
found_more [] k name = ap (λ b. b || false) (is_eq-slice_cmp name k.now)
found_more (x ∷ found) k name = one_more (by_bytes k x) found k x name refl (found_more found k name) ∙ ap (λ b. b || is_found (x ∷ found) name) (is_eq-slice_cmp name k.now)

or_both : (a b c d : Bool) → ((a || b) || (c || d)) ≡ ((a || c) || (b || d))
or_both true b c d = refl
or_both false true true d = refl
or_both false true false d = refl
or_both false false c d = refl

any_more : (found : List (Bor (List ℕ))) (k : Bor (List ℕ)) (names : List (List ℕ)) → list_any (is_found (insert_key by_bytes found k)) names ≡ (list_any (bytes_eq k.now) names || list_any (is_found found) names)
any_more found k [] = refl
any_more found k (name ∷ names) =
    ap (λ b. b || list_any (is_found (insert_key by_bytes found k)) names) (found_more found k name ∙ ap (λ b. b || is_found found name) (eq_sym name k.now))
    ∙ ap (λ b. (bytes_eq k.now name || is_found found name) || b) (any_more found k names)
    ∙ or_both (bytes_eq k.now name) (is_found found name) (list_any (bytes_eq k.now) names) (list_any (is_found found) names)

or_moved : (a b c d : Bool) → a ≡ false → ((b || c) || d) ≡ ((a || c) || (b || d))
or_moved true b c d e = cc
or_moved false true true d e = refl
or_moved false true false d e = refl
or_moved false false c d e = refl

or_first : (a b c : Bool) → a ≡ true → ((a || b) || c) ≡ true
or_first true b c e = refl
or_first false b c e = cc

-- a name that was not found before is found
pub repeats_more : (found : List (Bor (List ℕ))) (k : Bor (List ℕ)) (names : List (List ℕ)) → is_found found k.now ≡ false
    → repeats_after (insert_key by_bytes found k) names ≡ repeats_after found (k.now ∷ names)
repeats_more found k names new =
    ap (λ b. b || repeats names) (any_more found k names)
    ∙ or_moved (is_found found k.now) (list_any (bytes_eq k.now) names) (list_any (is_found found) names) (repeats names) new

-- a name that was found before occurs twice
pub repeats_again : (found : List (Bor (List ℕ))) (name : List ℕ) (names : List (List ℕ)) → is_found found name ≡ true → repeats_after found (name ∷ names) ≡ true
repeats_again found name names old = or_first (is_found found name) (list_any (is_found found) names) (list_any (bytes_eq name) names || repeats names) old

any_none : (names : List (List ℕ)) → list_any (is_found []) names ≡ false
any_none [] = refl
any_none (name ∷ names) = any_none names

-- where none is found yet
pub repeats_first : (names : List (List ℕ)) → repeats_after [] names ≡ repeats names
repeats_first names = ap (λ b. b || repeats names) (any_none names)

pub not_new : (b : Bool) → not b ≡ true → b ≡ false
not_new true e = cc
not_new false e = refl
