-- One element more in a loop that adds to a list, over values that are borrowed.
use Rattle.std.specs.Prelude.{◌≡◌, ◌<◌, ◌+◌, ◌||◌, ℕ, List, [], ◌∷◌, ◌++◌, refl, bytes_eq, count_by, flat_map, fold, length, map, nat_lt, take, Bool, true, false, cond}
use Rattle.std.specs.Cmp.Lexicographic.{same_text}
use Rattle.std.proofs.Common.{ap, sym, ◌∙◌, inl, inr, get_or, append_assoc}
use Rattle.std.proofs.lemmas.List.{take_more, map-append}
use Rattle.std.proofs.lemmas.List.Folds.{list_any-append}
use Rattle.std.proofs.lemmas.List.Sums.{count_by_more_no, count_by_more_yes}
use Rattle.gql_ast.specs.declared.rule.Rule.{Rule}
use Rattle.gql_facts.specs.ListMembers.{either}
use Rattle.gql_verdict.specs.Naming.{Named, IsEachOnce, fault_if_repeated, repeated_faults, text_of}
use Rattle.gql_verdict.specs.V14FragmentsMustBeUsed.{is_spread}

pub append_none : {A : Type 0} (xs : List A) → xs ++ [] ≡ xs
append_none [] = refl
append_none (x ∷ xs) = ap (λ l. x ∷ l) (append_none xs)

flat_append : {A B : Type 0} (f : A → List B) (xs : List A) (x : A)
    → flat_map f (xs ++ x ∷ []) ≡ flat_map f xs ++ f x
flat_append f [] x = append_none (f x)
flat_append f (y ∷ ys) x =
    ap (λ l. f y ++ l) (flat_append f ys x) ∙ sym (append_assoc (f y) (flat_map f ys) (f x))

module _ {A B C : Type 0} (f : B → List C) (h : A → B) (xs : List A) (i : ℕ) (x : A) (within : i < length xs) (item : get_or xs i x ≡ x) where
  pub next : map h (take (i + 1) xs) ≡ map h (take i xs) ++ h x ∷ []
  next = ap (map h) (take_more xs i x within ∙ ap (λ y. take i xs ++ y ∷ []) item) ∙ map-append h (take i xs) (x ∷ [])

  pub mapped_step : (base old new : List C) → old ≡ base ++ flat_map f (map h (take i xs)) → new ≡ old ++ f (h x)
      → new ≡ base ++ flat_map f (map h (take (i + 1) xs))
  mapped_step base old new before after =
      after ∙ ap (λ l. l ++ f (h x)) before
      ∙ append_assoc base (flat_map f (map h (take i xs))) (f (h x))
      ∙ ap (λ l. base ++ l) (sym (ap (flat_map f) next ∙ flat_append f (map h (take i xs)) (h x)))

-- a count by what is made
count_from : {A B : Type 0} (p : B → Bool) (h : A → B) (xs : List A) (n : ℕ)
    → fold (λ a x. a + cond (p x) 1 0) n (map h xs) ≡ fold (λ a x. a + cond (p (h x)) 1 0) n xs
count_from p h [] n = refl
count_from p h (x ∷ xs) n = count_from p h xs (n + cond (p (h x)) 1 0)

pub count_map : {A B : Type 0} (p : B → Bool) (h : A → B) (xs : List A)
    → count_by p (map h xs) ≡ count_by (λ x. p (h x)) xs
count_map p h xs = count_from p h xs 0

or_false : (b : Bool) → b || false ≡ b
or_false true = refl
or_false false = refl

-- one name more
pub spread_more : {A : Type 0} (read : A → List ℕ) (xs : List A) (i : ℕ) (x : A) (q : List ℕ) → i < length xs → get_or xs i x ≡ x
    → is_spread (map read (take (i + 1) xs)) q ≡ (is_spread (map read (take i xs)) q || bytes_eq q (read x))
spread_more read xs i x q within item =
    ap (λ l. is_spread l q) (next (λ (n : List ℕ). n ∷ []) read xs i x within item)
    ∙ list_any-append (bytes_eq q) (map read (take i xs)) (read x ∷ [])
    ∙ ap (λ b. is_spread (map read (take i xs)) q || b) (or_false (bytes_eq q (read x)))

-- one name more that is not in the set: each name is counted once if it is in the set
pub counted_more : {A : Type 0} (read : A → List ℕ) (xs : List A) (i : ℕ) (x : A) (old new : List ℕ → Bool) → i < length xs → get_or xs i x ≡ x
    → ((q : List ℕ) → count_by (λ y. bytes_eq q (read y)) (take i xs) ≡ cond (old q) 1 0)
    → old (read x) ≡ false → ((q : List ℕ) → new q ≡ (old q || bytes_eq q (read x)))
    → (q : List ℕ) → count_by (λ y. bytes_eq q (read y)) (take (i + 1) xs) ≡ cond (new q) 1 0
counted_more {A = A} read xs i x old new within item all lacks more q =
    let p = λ (y : A). bytes_eq q (read y) in
    elim (either (bytes_eq q (read x))) [
      | inl here ↦
          let none : old q ≡ false = ap old (same_text q (read x) (sym here)) ∙ lacks in
          let some : new q ≡ true = more q ∙ (ap (λ b. b || bytes_eq q (read x)) none ∙ here) in
          count_by_more_yes p xs i x within (ap p item ∙ here)
          ∙ (ap (λ n. n + 1) (all q ∙ ap (λ b. cond b 1 0) none) ∙ sym (ap (λ b. cond b 1 0) some))
      | inr other ↦
          let same : new q ≡ old q = more q ∙ (ap (λ b. old q || b) other ∙ or_false (old q)) in
          count_by_more_no p xs i x within (ap p item ∙ other) ∙ (all q ∙ sym (ap (λ b. cond b 1 0) same))
    ]

once : (b : Bool) → nat_lt 1 (cond b 1 0) ≡ false
once true = refl
once false = refl

-- names that are counted once each
pub each_once : {A : Type 0} (h : A → Named) (xs : List A) (in_set : List ℕ → Bool)
    → ((q : List ℕ) → count_by (λ x. bytes_eq q (text_of (h x))) xs ≡ cond (in_set q) 1 0) → IsEachOnce (map h xs)
each_once h xs in_set all q = ap (nat_lt 1) (count_map (λ (n : Named). bytes_eq q (text_of n)) h xs ∙ all q) ∙ once (in_set q)

-- where each name occurs once, there are no faults
none_of : (rule : Rule) (all xs : List Named) → IsEachOnce all → flat_map (fault_if_repeated rule all) xs ≡ []
none_of rule all [] each = refl
none_of rule all (x ∷ xs) each = rw (each (text_of x)) (none_of rule all xs each)

pub none_repeated : (rule : Rule) (all : List Named) → IsEachOnce all → repeated_faults rule all ≡ []
none_repeated rule all each = none_of rule all all each
