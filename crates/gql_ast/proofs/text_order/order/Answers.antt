use Rattle.std.proofs.Common.{◌≡◌, ◌≤◌, ◌∙◌, ℕ, zero, suc, List, [], ◌∷◌, length, drop, min, refl, sym, arith}
use Rattle.std.proofs.lemmas.Grind.{common_steps}
use Rattle.std.specs.Ordering.{nat_cmp}
use Rattle.std.specs.Cmp.Lexicographic.{slice_cmp}
use Rattle.gql_ast.proofs.text_order.order.Goals as goal

ended : (n : ℕ) (xs ys : List ℕ) → n ≤ length xs → n ≤ length ys → min (length xs) (length ys) ≤ n
    → slice_cmp nat_cmp (drop n xs) (drop n ys) ≡ nat_cmp (length xs) (length ys)
ended zero [] [] a b c = refl
ended zero [] (y ∷ ys) a b c = grind (arith, common_steps)
ended zero (x ∷ xs) [] a b c = grind (arith, common_steps)
ended zero (x ∷ xs) (y ∷ ys) a b c = absurd (omega arith)
ended (suc n) [] ys a b c = absurd (omega arith)
ended (suc n) (x ∷ xs) [] a b c = absurd (omega arith)
ended (suc n) (x ∷ xs) (y ∷ ys) a b c = grind (arith, common_steps, ended n xs ys (omega arith) (omega arith) (omega arith))

pub returns : goal.returns
returns c = c.cmp-2.ensures
    ∙ sym (ended c.bytes.place c.args.text.now c.args.other.now (omega arith) (omega arith) (omega arith))
    ∙ sym c.bytes.invariant.0
