-- Causes of the faults that are shown, and the set of their first members.
use Rattle.std.proofs.Common.{◌≡◌, ℕ, ◌+◌, ◌<◌, Bool, true, false, cond, List, [], ◌∷◌, length, map, take, get_or, refl, sym, ap, ◌∙◌, subst}
use Rattle.std.specs.Borrow.{Bor}
use Rattle.std.specs.Prelude.{◌||◌}
use Rattle.std.specs.List.{list_any}
use Rattle.std.proofs.lemmas.List.Folds.{list_any_more}
use Rattle.gql_ast.specs.Rules.{name_of}
use Rattle.gql_findings.specs.Causes.{AreCauses}
use Rattle.gql_findings.specs.declared.finding.Finding.{Finding}
use Rattle.gql_findings.specs.declared.grouping.Cause.{Cause}

either : (t b : Bool) → cond t true b ≡ b || t
either true true = refl
either true false = refl
either false true = refl
either false false = refl

-- one item more is in the set
pub has_more : {X : Type 0} (p : X → Bool) (xs : List X) (i : ℕ) (d : X) → i < length xs → (old new t : Bool) → old ≡ list_any p (take i xs) → p (get_or xs i d) ≡ t → new ≡ cond t true old → new ≡ list_any p (take (i + 1) xs)
has_more p xs i d lt old new t h e u =
    u ∙ ap (λ b. cond t true b) h ∙ either t (list_any p (take i xs))
    ∙ ap (λ b. list_any p (take i xs) || b) (sym e) ∙ sym (list_any_more p xs i d lt)

-- causes of the same faults at the same places
pub causes_along : (f g : List Finding) (v w : List ℕ) (cs : List Cause) → f ≡ g → v ≡ w → AreCauses f v cs → AreCauses g w cs
causes_along f g v w cs e d h = subst (λ x. AreCauses x w cs) e (subst (λ x. AreCauses f x cs) d h)

-- a test of some item of a list that is read through a function
pub any_mapped : {X Y : Type 0} (p : Y → Bool) (f : X → Y) (xs : List X) → list_any p (map f xs) ≡ list_any (λ x. p (f x)) xs
any_mapped p f [] = refl
any_mapped p f (x ∷ xs) = ap (λ b. p (f x) || b) (any_mapped p f xs)

-- the names of the rules of faults behind references
pub names_now : (xs : List (Bor Finding)) → map (λ f. name_of f.now.rule) xs ≡ map (λ f. name_of f.rule) (map (λ x. x.now) xs)
names_now [] = refl
names_now (x ∷ xs) = ap (λ ys. name_of x.now.rule ∷ ys) (names_now xs)
