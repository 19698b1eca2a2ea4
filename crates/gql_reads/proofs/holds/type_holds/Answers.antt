use Rattle.std.proofs.Common.{◌≡◌, ◌∙◌, false, subst, sym, true}
use Rattle.gql_facts.specs.Worlds.{Facts}
use Rattle.gql_facts.specs.declared.key.Key.TheVariants as key
use Rattle.gql_reads.proofs.Held.{type_either}
use Rattle.gql_reads.proofs.Led.{input_about, input_of, kind_about, kind_of, possible_about, possible_of}
use Rattle.gql_reads.proofs.holds.type_holds.Goals as goal

pub returns-then-not-kind-clause-answer : goal.returns-then-not-kind-clause-answer
returns-then-not-kind-clause-answer g c =
    let F = g.W.World.facts c.args.world.now in
    let t = c.args.of_type.now in (
      kind_of t,
      kind_about t,
      λ h.
          let same : F (key.KindOf c.in_ok-copy.field-0) ≡ t.kind = subst (λ n. F (key.KindOf n) ≡ t.kind) (sym c.in_ok-copy.ensures) h in
          let z : true ≡ false = sym (c.in_ok-kind.ensures.answer.1 same) ∙ c.if-not-kind.true in cc z,
    )

pub returns-then-not-possible-clause-answer : goal.returns-then-not-possible-clause-answer
returns-then-not-possible-clause-answer g c =
    let F = g.W.World.facts c.args.world.now in
    let t = c.args.of_type.now in (
      possible_of t,
      possible_about t,
      λ h.
          let same : F (key.PossibleOf c.in_ok-copy-2.field-0) ≡ t.possible = subst (λ n. F (key.PossibleOf n) ≡ t.possible) (sym c.in_ok-copy-2.ensures) h in
          let there = subst (λ (G : Facts). G (key.PossibleOf c.in_ok-copy-2.field-0) ≡ t.possible) (sym c.is_answer.ensures.facts) same in
          let z : true ≡ false = sym (c.in_ok-possible.ensures.answer.1 there) ∙ c.if-not-possible.true in cc z,
    )

pub returns-then-not-input-clause-answer : goal.returns-then-not-input-clause-answer
returns-then-not-input-clause-answer g c =
    let F = g.W.World.facts c.args.world.now in
    let t = c.args.of_type.now in (
      input_of t,
      input_about t,
      λ h.
          let same : F (key.InputOf c.in_ok-copy-3.field-0) ≡ t.input = subst (λ n. F (key.InputOf n) ≡ t.input) (sym c.in_ok-copy-3.ensures) h in
          let there = subst (λ (G : Facts). G (key.InputOf c.in_ok-copy-3.field-0) ≡ t.input) (sym (c.is_answer-2.ensures.facts ∙ c.is_answer.ensures.facts)) same in
          let z : true ≡ false = sym (c.in_ok-input.ensures.answer.1 there) ∙ c.if-not-input.true in cc z,
    )

pub returns-clause-answer : goal.returns-clause-answer
returns-clause-answer g c =
    let F = g.W.World.facts c.args.world.now in
    let t = c.args.of_type.now in
    let kind : F (key.KindOf t.name) ≡ t.kind = subst (λ n. F (key.KindOf n) ≡ t.kind) c.in_ok-copy.ensures (c.in_ok-kind.ensures.answer.0 c.if-not-kind.false) in
    let possible : F (key.PossibleOf t.name) ≡ t.possible = subst (λ n. F (key.PossibleOf n) ≡ t.possible) c.in_ok-copy-2.ensures
    (subst (λ (G : Facts). G (key.PossibleOf c.in_ok-copy-2.field-0) ≡ t.possible) c.is_answer.ensures.facts (c.in_ok-possible.ensures.answer.0 c.if-not-possible.false)) in
    let input : F (key.InputOf t.name) ≡ t.input = subst (λ n. F (key.InputOf n) ≡ t.input) c.in_ok-copy-3.ensures
    (subst (λ (G : Facts). G (key.InputOf c.in_ok-copy-3.field-0) ≡ t.input) (c.is_answer-2.ensures.facts ∙ c.is_answer.ensures.facts) (c.in_ok-input.ensures.answer.0 c.if-not-input.false)) in
    let same = c.is_answer-3.ensures.facts ∙ (c.is_answer-2.ensures.facts ∙ c.is_answer.ensures.facts) in
    type_either F t kind possible input c.in_ok-values.values
    (λ e. subst (λ n. F (key.EnumOf n) ≡ t.values) c.in_ok-copy-4.ensures (subst (λ (G : Facts). G (key.EnumOf c.in_ok-copy-4.field-0) ≡ t.values) same (c.in_ok-values.ensures.answer.0 e)))
    (λ h. c.in_ok-values.ensures.answer.1 (subst (λ (G : Facts). G (key.EnumOf c.in_ok-copy-4.field-0) ≡ t.values) (sym same) (subst (λ n. F (key.EnumOf n) ≡ t.values) (sym c.in_ok-copy-4.ensures) h)))
