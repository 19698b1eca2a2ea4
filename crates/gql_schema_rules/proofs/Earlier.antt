-- Root operation types, with one more at the end.
use Rattle.std.proofs.Common.{◌≡◌, ◌<◌, ◌+◌, ◌||◌, ℕ, List, [], ◌∷◌, ◌++◌, Bool, length, get_or, take, arith, sym, ap, ap₂, ◌∙◌, append_assoc, append-nil}
use Rattle.std.proofs.lemmas.List.{take_more}
use Rattle.std.proofs.lemmas.List.Folds.{list_any-append}
use Rattle.std.proofs.lemmas.Grind.{common_steps}
use Rattle.gql_ast.specs.declared.executable.OperationKind.{OperationKind}
use Rattle.gql_ast.specs.declared.fault.Fault.{Fault}
use Rattle.gql_types.specs.declared.roots.Root.{Root}
use Rattle.gql_types.specs.Kinds.{same_operation}
use Rattle.gql_schema_rules.specs.EarlierRoots.{with_earlier}
use Rattle.gql_schema_rules.specs.S34DuplicateSchemas.{has_kind}

more : (f : List Root → Root → List Fault) (before xs : List Root) (x : Root) → with_earlier f before (xs ++ x ∷ []) ≡ with_earlier f before xs ++ f (before ++ xs) x
more f before [] x = append-nil (f before x) ∙ ap (λ b. f b x) (sym (append-nil before))
more f before (y ∷ xs) x = ap (λ fs. f before y ++ fs) (more f (before ++ y ∷ []) xs x ∙ ap (λ b. with_earlier f (before ++ y ∷ []) xs ++ f b x) (append_assoc before (y ∷ []) xs))
    ∙ sym (append_assoc (f before y) (with_earlier f (before ++ y ∷ []) xs) (f (before ++ y ∷ xs) x))

pub one_more : (f : List Root → Root → List Fault) (roots : List Root) (i : ℕ) (x : Root) (start old new step : List Fault) → i < length roots → get_or roots i x ≡ x
    → old ≡ start ++ with_earlier f [] (take i roots)
    → step ≡ f (take i roots) x
    → new ≡ old ++ step
    → new ≡ start ++ with_earlier f [] (take (i + 1) roots)
one_more f roots i x start old new step within item before is after =
    rw (take_more roots i x within, item, more f [] (take i roots) x)
    (after ∙ ap₂ (λ a b. a ++ b) before is ∙ append_assoc start (with_earlier f [] (take i roots)) (f (take i roots) x))

-- the kinds that were seen, with one more
pub seen_more : (k : OperationKind) (roots : List Root) (i : ℕ) (x : Root) (old new : Bool) → i < length roots → get_or roots i x ≡ x
    → old ≡ has_kind (take i roots) k
    → new ≡ (old || same_operation k x.kind)
    → new ≡ has_kind (take (i + 1) roots) k
seen_more k roots i x old new within item before after =
    rw (take_more roots i x within, item, list_any-append (λ (r : Root). same_operation k r.kind) (take i roots) (x ∷ [])) grind (arith, common_steps, before, after)
