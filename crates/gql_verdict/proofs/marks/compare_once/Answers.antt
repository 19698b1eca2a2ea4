use Rattle.std.proofs.Common.{◌≡◌, ◌⊎◌, ◌||◌, ◌∙◌, ℕ, List, Bool, true, false, Bor, inl, inr, refl, ap, sym, subst, bytes_eq, is_some}
use Rattle.std.specs.Cmp.Lexicographic.{same_text}
use Rattle.std.specs.HashMap as hash
use Rattle.gql_verdict.specs.Marks.{IsFragmentCompared}
use Rattle.gql_verdict.proofs.Marking.{keep_compared}
use Rattle.gql_verdict.proofs.marks.compare_once.Goals as goal

pub returns-then-contains_key-clause-compared : goal.returns-then-contains_key-clause-compared
returns-then-contains_key-clause-compared g c = c.requires.done c.args.name.now
    (ap (λ n. is_some (hash.get_by (λ (k : Bor (List ℕ)). bytes_eq n k.now) c.args.done.now)) (sym c.as_str.ensures) ∙ sym c.contains_key.ensures ∙ c.if-contains_key.true)

or_cases : (a b : Bool) → a || b ≡ true → (a ≡ true) ⊎ (b ≡ true)
or_cases true b e = inl refl
or_cases false b e = inr e

pub returns-clause-done : goal.returns-clause-done
returns-clause-done g c = λ n t.
    let F = g.W.World.facts c.args.world.now in
    let S = c.args.slots.now in
    let after = c.compare_fragment.new.marks in
    elim (or_cases _ (bytes_eq n c.as_str-2.result.now) (sym (c.in_ok-add_name.ensures n) ∙ t)) [
      | inl old ↦ λ e m q. keep_compared F S c.args.marks.now after e c.compare_fragment.ensures.kept (c.requires.done n old e m q)
      | inr same ↦ subst (λ (x : List ℕ). IsFragmentCompared F S c.args.index.now after x) (sym (same_text n c.as_str-2.result.now (sym same) ∙ c.as_str-2.ensures)) c.in_ok-compare_fragment.ensures.compared
    ]
