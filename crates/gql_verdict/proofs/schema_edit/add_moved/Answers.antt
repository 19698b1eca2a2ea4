use Rattle.std.proofs.Common.{◌≡◌, ◌∙◌, ◌++◌, ◌∷◌, ◌+◌, [], ℕ, List, ap, get_or, rules, subst, sym, take, true, false}
use Rattle.gql_verdict.specs.SchemaEdits.{AreMoved, IsSamePossible}
use Rattle.gql_verdict.proofs.MovedTypes.{item_at, moved_more, moved_same}
use Rattle.gql_verdict.proofs.schema_edit.add_moved.Goals as goal

pub returns-then-has_same_possible : goal.returns-then-has_same_possible
returns-then-has_same_possible c = λ so_far.
    let at = item_at c.args.after.now.types c.args.place c.requires in
    moved_same c.args.before.now c.args.after.now.types c.args.place at.0 c.requires (sym at.1) c.args.names.now.items so_far
    ((c.has_same_possible.ensures at.0 at.1).0 c.if-has_same_possible.true)

pub returns : goal.returns
returns c = λ so_far.
    let x = c.index-types-place.result in
    let item : get_or c.args.after.now.types c.args.place x ≡ x = search rules in
    let differs : IsSamePossible c.args.before.now x → ⊥ = λ s. let z : true ≡ false = sym ((c.has_same_possible.ensures x item).1 s) ∙ c.if-has_same_possible.false in cc z in
    let named : c.in_ok-copy.field-0 ≡ x.name = search rules in
    let pushed : c.push.new.self.items ≡ c.args.names.now.items ++ c.in_ok-copy.field-0 ∷ [] = search rules in
    subst (λ (ns : List (List ℕ)). AreMoved c.args.before.now (take (c.args.place + 1) c.args.after.now.types) ns)
    (sym (pushed ∙ ap (λ (n : List ℕ). c.args.names.now.items ++ n ∷ []) named))
    (moved_more c.args.before.now c.args.after.now.types c.args.place x c.requires (sym item) c.args.names.now.items so_far differs)
