use Rattle.std.proofs.Common.{◌≡◌, ◌++◌, ◌∷◌, [], inl, inr, rules, subst, Contains}
use Rattle.std.proofs.lemmas.List.Elements.{Contains-push_cases}
use Rattle.gql_clashes.specs.Seen.{IsInside}
use Rattle.tables_text.proofs.clashing_fields.pairs_in.Goals as goal

pub loop-part-preserved : goal.loop-part-preserved
loop-part-preserved c x h =
    let before = c.loop-part.pairs.items in
    let added = c.in_ok-pair.pair in
    let pushed : c.push.new.self.items ≡ before ++ added ∷ [] = search rules in
    elim (Contains-push_cases before added x (subst (λ l. Contains l x) pushed h)) [
      | inl old ↦ c.loop-part.invariant x old
      | inr new ↦ subst (IsInside c.args.count) new c.in_ok-pair.ensures
    ]
