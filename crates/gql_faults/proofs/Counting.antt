-- Counting names among those that the code borrows, and keeping those that occur more than once.
use Rattle.std.proofs.Common.{◌≡◌, ◌<◌, ℕ, length, get_or, take, ◌+◌, List, [], ◌∷◌, ◌++◌, map, bytes_eq, Bool, refl, sym, ap, ◌∙◌, arith, filter, cond}
use Rattle.std.specs.List.{sum_by}
use Rattle.std.proofs.lemmas.List.Sums.{sum_by-cons}
use Rattle.std.proofs.lemmas.Grind.{common_steps}
use Rattle.std.proofs.lemmas.List.{take_more}
use Rattle.gql_ast.specs.declared.text.Name.{Name}
use Rattle.gql_built_in.specs.declared.sited.Sited.{Sited}
use Rattle.gql_ast.specs.declared.rule.Rule.{Rule}
use Rattle.gql_faults.specs.Names.{count_of, repeated_faults}
use Rattle.gql_faults.specs.Places.{named}
use Rattle.gql_faults.specs.declared.place.NamePlace.{NamePlace}

pub count_named : (q : List ℕ) (xs : List NamePlace) → count_of q (map named xs) ≡ sum_by (λ (n : NamePlace). cond (bytes_eq q n.name.now.text) 1 0) xs
count_named q [] = refl
count_named q (x ∷ xs) = sum_by-cons (λ (n : Sited Name). cond (bytes_eq q n.node.text) 1 0) (named x) (map named xs)
    ∙ ap (λ n. cond (bytes_eq q x.name.now.text) 1 0 + n) (count_named q xs)
    ∙ sym (sum_by-cons (λ (n : NamePlace). cond (bytes_eq q n.name.now.text) 1 0) x xs)

filter_push : (p : Sited Name → Bool) (xs : List NamePlace) (x : NamePlace) → filter p (map named (xs ++ x ∷ []))
    ≡ filter p (map named xs) ++ cond (p (named x)) (named x ∷ []) []
filter_push p [] x = grind (arith, common_steps)
filter_push p (y ∷ xs) x = grind (arith, common_steps, filter_push p xs x)

pub repeated_step : (p : Sited Name → Bool) (xs : List NamePlace) (i : ℕ) (x : NamePlace) (old new : List (Sited Name)) → i < length xs → get_or xs i x ≡ x
    → old ≡ filter p (map named (take i xs))
    → new ≡ old ++ cond (p (named x)) (named x ∷ []) []
    → new ≡ filter p (map named (take (i + 1) xs))
repeated_step p xs i x old new within item before after =
    rw (take_more xs i x within, item, filter_push p (take i xs) x) (after ∙ ap (λ fs. fs ++ cond (p (named x)) (named x ∷ []) []) before)

-- fewer than two names have no fault
pub few_repeated : {X : Type 0} (rule : Rule) (f : X → Sited Name) (xs : List X) → length xs < 2 → repeated_faults rule (map f xs) ≡ []
few_repeated rule f [] within = refl
few_repeated rule f (a ∷ []) within = grind (arith, common_steps)
few_repeated rule f (a ∷ b ∷ xs) within = absurd (omega arith)

pub few_repeated_names : (rule : Rule) (xs : List (Sited Name)) → length xs < 2 → repeated_faults rule xs ≡ []
few_repeated_names rule [] within = refl
few_repeated_names rule (a ∷ []) within = grind (arith, common_steps)
few_repeated_names rule (a ∷ b ∷ xs) within = absurd (omega arith)
