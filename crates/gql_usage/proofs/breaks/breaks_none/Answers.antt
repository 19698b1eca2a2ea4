use Rattle.std.proofs.Common.{◌≡◌, ◌∙◌, List, false, inl, inr, refl, subst, sym, true}
use Rattle.std.proofs.lemmas.List.{take_all}
use Rattle.gql_ast.specs.declared.definition.Definition.{Definition}
use Rattle.gql_facts.specs.ListMembers.{Contains-nil}
use Rattle.gql_reads.proofs.Takes.{seen_more}
use Rattle.gql_usage.specs.Breaks.{Breaks, IsUnread}
use Rattle.gql_facts.specs.Presents.{facts_of_present}
use Rattle.gql_usage.proofs.breaks.breaks_none.Goals as goal

pub loop-definition-init : goal.loop-definition-init
loop-definition-init c = record { holds = c.nothing_shared-shared.ensures _; so_far = λ d h b. absurd (Contains-nil d h) }

pub breaks_definition-requires-clause-stored : goal.breaks_definition-requires-clause-stored
breaks_definition-requires-clause-stored c = (c.args.definitions.now, c.requires.stored, (c.loop-definition.definition-index, c.loop-definition-test.true, sym c.definition-item.is))

pub returns-then-breaks : goal.returns-then-breaks
returns-then-breaks c = (
  λ t. let z : false ≡ true = t in cc z,
  λ u. absurd (u c.definition-item.result (c.loop-definition.definition-index, c.loop-definition-test.true, sym c.definition-item.is) (c.in_ok-breaks.ensures.breaks.0 c.if-breaks.true)),
)

pub loop-definition-preserved : goal.loop-definition-preserved
loop-definition-preserved c =
    let facts = facts_of_present c.args.question.now.present in
    let r = c.args.question.now.removal.now in
    record {
      holds = c.in_ok-breaks.ensures.shared;
      so_far = λ d h b. elim (seen_more c.args.definitions.now c.loop-definition.definition-index c.definition-item.result c.loop-definition-test.true c.definition-item.is d h) [
        | inl old ↦ c.loop-definition.invariant.so_far d old b
        | inr e ↦ let z : true ≡ false = sym (c.in_ok-breaks.ensures.breaks.1 (subst (λ (x : Definition). Breaks facts r x) (sym e) b)) ∙ c.if-breaks.false in cc z
      ];
    }

pub returns : goal.returns
returns c = (
  λ t. subst (λ (ds : List Definition). IsUnread (facts_of_present c.args.question.now.present) c.args.question.now.removal.now ds) (take_all _ _ c.loop-definition-test.false) c.loop-definition.invariant.so_far,
  λ u. refl,
)
