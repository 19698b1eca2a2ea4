-- Names of clean fragments, and more of them.
use Rattle.std.proofs.Common.{arith, ◌≡◌, ◌⊎◌, ◌+◌, ◌<◌, ◌≤◌, ℕ, refl, List, [], ◌∷◌, ◌++◌, Bool, true, false, bytes_eq, get_or, inl, inr, length, nat_eq, sym, subst, take, Contains, if◌then◌else◌}
use Rattle.std.specs.Cmp.{decided}
use Rattle.std.specs.List.{list_any}
use Rattle.std.proofs.lemmas.List.{take_all}
use Rattle.std.proofs.lemmas.List.Elements.{Contains-append_left, Contains-push_cases}
use Rattle.std.proofs.lemmas.Map.Views.{Contains-from_any, list_any-from_Contains}
use Rattle.std.proofs.lemmas.Bool.Decides.{Decides-eqb}
use Rattle.std.proofs.lemmas.Slice.Eq.{bytes_eq-Decides}
use Rattle.indexmap.specs.IndexSet.{insert_key}
use Rattle.indexmap.proofs.CallerLemmas.{Contains-insert_key}
use Rattle.gql_clashes.proofs.Members.{take_has}
use Rattle.gql_merge.specs.Light.{MayAdd}

exact : (a b : List ℕ) → bytes_eq a b ≡ true → a ≡ b
exact a b = (bytes_eq-Decides a b).0

pub name_there : (names : List (List ℕ)) (n : List ℕ) → list_any (bytes_eq n) names ≡ true → Contains names n
name_there names n e = Contains-from_any exact n names e

pub name_found : (names : List (List ℕ)) (n : List ℕ) → Contains names n → list_any (bytes_eq n) names ≡ true
name_found names n c = list_any-from_Contains (decided bytes_eq bytes_eq-Decides) n names c

-- ---- one name more

added_if : (b : Bool) (names : List (List ℕ)) (m : List ℕ) → MayAdd (λ n. n ≡ m) names (if b then names else names ++ m ∷ [])
added_if true names m = record { kept = λ n c. c; from = λ n c. inl c }
added_if false names m = record {
  kept = λ n c. Contains-append_left names (m ∷ []) n c;
  from = λ n c. elim (Contains-push_cases names m n c) [ inl o ↦ inl o | inr e ↦ inr (sym e) ];
}

pub name_added : (names new : List (List ℕ)) (m : List ℕ) → new ≡ insert_key bytes_eq names m → MayAdd (λ n. n ≡ m) names new
name_added names new m e = subst (MayAdd (λ n. n ≡ m) names) (sym e) (added_if (list_any (bytes_eq m) names) names m)

pub name_here : (names new : List (List ℕ)) (m : List ℕ) → new ≡ insert_key bytes_eq names m → Contains new m
name_here names new m e = subst (λ l. Contains l m) (sym e) (Contains-insert_key bytes_eq exact names m)

pub nothing_added : (P : List ℕ → Type 0) (names new : List (List ℕ)) → new ≡ names → MayAdd P names new
nothing_added P names new e = subst (MayAdd P names) (sym e) (record { kept = λ n c. c; from = λ n c. inl c })

-- names by names
pub added_more : (P : List ℕ → Type 0) (a b c : List (List ℕ)) → MayAdd P a b → MayAdd P b c → MayAdd P a c
added_more P a b c p q = record {
  kept = λ n k. q.kept n (p.kept n k);
  from = λ n k. elim (q.from n k) [ inl o ↦ p.from n o | inr h ↦ inr h ];
}

pub added_by : (P Q : List ℕ → Type 0) (a b : List (List ℕ)) → ((n : List ℕ) → P n → Q n) → MayAdd P a b → MayAdd Q a b
added_by P Q a b h p = record { kept = p.kept; from = λ n k. elim (p.from n k) [ inl o ↦ inl o | inr x ↦ inr (h n x) ] }

-- ---- sets of numbers

pub number_there : (numbers : List ℕ) (n : ℕ) → list_any (nat_eq n) numbers ≡ true → Contains numbers n
number_there numbers n e = Contains-from_any (λ x y. (Decides-eqb x y).0) n numbers e

in_more : (b : Bool) (keys : List ℕ) (m n : ℕ) → Contains (if b then keys else keys ++ m ∷ []) n → Contains keys n ⊎ (m ≡ n)
in_more true keys m n c = inl c
in_more false keys m n c = Contains-push_cases keys m n c

pub numbers_in : (keys more numbers : List ℕ) (m : ℕ) → more ≡ insert_key nat_eq keys m → ((n : ℕ) → Contains keys n → Contains numbers n) → (later : List ℕ) → ((n : ℕ) → Contains numbers n ⊎ (m ≡ n) → Contains later n)
    → (n : ℕ) → Contains more n → Contains later n
numbers_in keys more numbers m e h later next n c = elim (in_more (list_any (nat_eq m) keys) keys m n (subst (λ l. Contains l n) e c)) [
  | inl o ↦ next n (inl (h n o))
  | inr same ↦ next n (inr same)
]

-- the members of a list, one by one
pub each_more : {A : Type 0} (P : A → Type 0) (xs : List A) (i : ℕ) (x : A) → i < length xs → x ≡ get_or xs i x → ((y : A) → Contains (take i xs) y → P y) → P x
    → (y : A) → Contains (take (i + 1) xs) y → P y
each_more P xs i x lt is h p y c = elim (take_has xs i x y lt (sym is) c) [ inl o ↦ h y o | inr e ↦ subst P e p ]

pub each_all : {A : Type 0} (P : A → Type 0) (xs : List A) (i : ℕ) → length xs ≤ i → ((y : A) → Contains (take i xs) y → P y) → (y : A) → Contains xs y → P y
each_all P xs i le h y c = h y (subst (λ l. Contains l y) (sym (take_all i xs le)) c)

-- ---- tests

pub none_if : {A : Type 0} (xs : List A) → nat_eq (length xs) 0 ≡ true → xs ≡ []
none_if [] e = refl
none_if (x ∷ xs) e = let l : length (x ∷ xs) ≡ 0 = (Decides-eqb (length (x ∷ xs)) 0).0 e in absurd (omega (arith, l))
