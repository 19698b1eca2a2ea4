-- Names of objects, and more of them.
use Rattle.std.proofs.Common.{◌≡◌, ◌∙◌, ◌++◌, ◌∷◌, [], ◌||◌, ℕ, List, Bool, true, false, ap, sym, refl, subst, bytes_eq, if◌then◌else◌, rules}
use Rattle.std.specs.List.{list_any}
use Rattle.std.proofs.lemmas.List.{append_assoc}
use Rattle.std.proofs.lemmas.List.Folds.{list_any-append}
use Rattle.std.proofs.lemmas.Slice.Eq.{bytes_eq-Decides}
use Rattle.indexmap.specs.IndexSet.{insert_key}
use Rattle.gql_usage.specs.Answering.{HasMore}

exact : (a b : List ℕ) → bytes_eq a b ≡ true → a ≡ b
exact a b = (bytes_eq-Decides a b).0

not_both : (b : Bool) → b ≡ true → b ≡ false → true ≡ false
not_both b here gone = sym here ∙ gone

-- a name that is not found is not the one that is found
apart : (b : Bool) (old : List (List ℕ)) (m n : List ℕ) → bytes_eq n m ≡ b → list_any (bytes_eq m) old ≡ true → list_any (bytes_eq n) old ≡ false → b ≡ false
apart false old m n e here gone = refl
apart true old m n e here gone = not_both (list_any (bytes_eq m) old) here (subst (λ k. list_any (bytes_eq k) old ≡ false) (exact n m e) gone)

single : (m n : List ℕ) (b : Bool) → bytes_eq n m ≡ b → list_any (bytes_eq n) (m ∷ []) ≡ b
single m n true e = search (e, rules)
single m n false e = search (e, rules)

absorbed : (x : Bool) (old : List (List ℕ)) (m n : List ℕ) → list_any (bytes_eq m) old ≡ true → list_any (bytes_eq n) old ≡ x → (x || list_any (bytes_eq n) (m ∷ [])) ≡ x
absorbed true old m n here e = refl
absorbed false old m n here e = single m n false (apart (bytes_eq n m) old m n refl here e)

one_if : (b : Bool) (old : List (List ℕ)) (m n : List ℕ) → list_any (bytes_eq m) old ≡ b → list_any (bytes_eq n) (if b then old else old ++ m ∷ []) ≡ list_any (bytes_eq n) (old ++ m ∷ [])
one_if false old m n e = refl
one_if true old m n e = sym (list_any-append (bytes_eq n) old (m ∷ []) ∙ absorbed (list_any (bytes_eq n) old) old m n e refl)

pub more_none : (old : List (List ℕ)) → HasMore old [] old
more_none old n = search rules

pub more_one : (old new : List (List ℕ)) (m : List ℕ) → new ≡ insert_key bytes_eq old m → HasMore old (m ∷ []) new
more_one old new m e n = ap (list_any (bytes_eq n)) e ∙ one_if (list_any (bytes_eq m) old) old m n refl

pub more_then : (a xs b ys c : List (List ℕ)) → HasMore a xs b → HasMore b ys c → HasMore a (xs ++ ys) c
more_then a xs b ys c p q n = q n ∙ list_any-append (bytes_eq n) b ys ∙ ap (λ r. r || list_any (bytes_eq n) ys) (p n)
    ∙ sym (list_any-append (bytes_eq n) (a ++ xs) ys) ∙ ap (list_any (bytes_eq n)) (append_assoc a xs ys)
