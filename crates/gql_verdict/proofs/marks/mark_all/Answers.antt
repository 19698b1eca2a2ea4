use Rattle.std.proofs.Common.{◌∷◌, [], ◌+◌, inl, inr, take, subst, sym, List, Contains, arith}
use Rattle.std.proofs.lemmas.List.{take_all}
use Rattle.gql_ast.specs.Trees.{id_of}
use Rattle.gql_ast.specs.declared.definition.DefinitionId.{DefinitionId}
use Rattle.gql_facts.specs.ListMembers.{Contains-here}
use Rattle.gql_verdict.specs.Marks.{AreMarked, OnlyMarks}
use Rattle.gql_verdict.proofs.Marking.{one_id}
use Rattle.gql_verdict.proofs.Seen.{seen_here, seen_more, seen_old}
use Rattle.gql_verdict.proofs.marks.mark_all.Goals as goal

pub loop-id-init : goal.loop-id-init
loop-id-init c = record {
  long = c.requires.long;
  kept = λ j m. m;
  marked = λ j v a h. absurd (omega (arith, h.1));
  only = λ j v a m. inl m;
}

pub loop-id-preserved : goal.loop-id-preserved
loop-id-preserved c =
    let ids = c.args.ids.now in
    let i = c.loop-id.id-index in
    let id = c.id-item.result in
    record {
      long = c.mark.ensures.long;
      kept = λ j m. c.mark.ensures.kept j (c.loop-id.invariant.kept j m);
      marked = λ j v a h. elim (seen_more ids i id c.loop-id-test.true c.id-item.is (id_of v.def) h) [
        | inl o ↦ c.mark.ensures.kept j (c.loop-id.invariant.marked j v a o)
        | inr e ↦ c.mark.ensures.marked j v a (subst (λ (y : DefinitionId). Contains (y ∷ []) (id_of v.def)) (sym c.get.ensures)
            (subst (λ x. Contains (id ∷ []) x) e (Contains-here id [])))
      ];
      only = λ j v a m. elim (c.mark.ensures.only j v a m) [
        | inl o ↦ elim (c.loop-id.invariant.only j v a o) [
          | inl b ↦ inl b
          | inr h ↦ inr (seen_old ids i id c.loop-id-test.true c.id-item.is (id_of v.def) h)
        ]
        | inr h ↦ inr (subst (λ x. Contains (take (i + 1) ids) x) (sym (one_id id (id_of v.def) (subst (λ (y : DefinitionId). Contains (y ∷ []) (id_of v.def)) c.get.ensures h))) (seen_here ids i id c.loop-id-test.true c.id-item.is))
      ];
    }

pub returns-clause-marked : goal.returns-clause-marked
returns-clause-marked c = subst (λ (ids : List DefinitionId). AreMarked c.args.slots.now c.loop-id.marks ids) (take_all _ _ c.loop-id-test.false) c.loop-id.invariant.marked

pub returns-clause-only : goal.returns-clause-only
returns-clause-only c = subst (λ (ids : List DefinitionId). OnlyMarks c.args.slots.now c.args.marks.now c.loop-id.marks ids) (take_all _ _ c.loop-id-test.false) c.loop-id.invariant.only
