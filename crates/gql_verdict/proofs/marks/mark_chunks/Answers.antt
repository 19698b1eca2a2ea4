use Rattle.std.proofs.Common.{◌∙◌, ap, inl, inr, subst, sym, take, List, Contains}
use Rattle.std.proofs.lemmas.List.{take_all}
use Rattle.std.proofs.lemmas.List.Elements.{Contains-append_cases, Contains-append_left, Contains-append_right}
use Rattle.gql_ast.specs.Trees.{id_of}
use Rattle.gql_ast.specs.declared.definition.DefinitionId.{DefinitionId}
use Rattle.gql_facts.specs.ListMembers.{Contains-nil}
use Rattle.gql_readers.proofs.Chunking.{joined_more}
use Rattle.gql_readers.specs.Chunks.{joined}
use Rattle.gql_verdict.specs.Marks.{AreMarked, OnlyMarks}
use Rattle.gql_verdict.proofs.marks.mark_chunks.Goals as goal

pub loop-chunk-init : goal.loop-chunk-init
loop-chunk-init c = record {
  long = c.requires.long;
  kept = λ j m. m;
  marked = λ j v a h. absurd (Contains-nil (id_of v.def) h);
  only = λ j v a m. inl m;
}

pub loop-chunk-preserved : goal.loop-chunk-preserved
loop-chunk-preserved c =
    let cs = c.args.chunks.now in
    let i = c.loop-chunk.chunk-index in
    let ids = c.chunk-item.result in
    let more = joined_more cs i ids c.loop-chunk-test.true c.chunk-item.is in
    let same = c.as_slice.ensures ∙ c.get.ensures in
    record {
      long = c.mark_all.ensures.long;
      kept = λ j m. c.mark_all.ensures.kept j (c.loop-chunk.invariant.kept j m);
      marked = λ j v a h. elim (Contains-append_cases (joined (take i cs)) ids (id_of v.def) (subst (λ (zs : List DefinitionId). Contains zs (id_of v.def)) more h)) [
        | inl o ↦ c.mark_all.ensures.kept j (c.loop-chunk.invariant.marked j v a o)
        | inr n ↦ c.mark_all.ensures.marked j v a (subst (λ (zs : List DefinitionId). Contains zs (id_of v.def)) (sym same) n)
      ];
      only = λ j v a m. elim (c.mark_all.ensures.only j v a m) [
        | inl o ↦ elim (c.loop-chunk.invariant.only j v a o) [
          | inl b ↦ inl b
          | inr h ↦ inr (subst (λ (zs : List DefinitionId). Contains zs (id_of v.def)) (sym more) (Contains-append_left (joined (take i cs)) ids (id_of v.def) h))
        ]
        | inr h ↦ inr (subst (λ (zs : List DefinitionId). Contains zs (id_of v.def)) (sym more) (Contains-append_right (joined (take i cs)) ids (id_of v.def) (subst (λ (zs : List DefinitionId). Contains zs (id_of v.def)) same h)))
      ];
    }

pub returns-clause-marked : goal.returns-clause-marked
returns-clause-marked c = subst (λ (ids : List DefinitionId). AreMarked c.args.slots.now c.loop-chunk.marks ids) (ap joined (take_all _ _ c.loop-chunk-test.false)) c.loop-chunk.invariant.marked

pub returns-clause-only : goal.returns-clause-only
returns-clause-only c = subst (λ (ids : List DefinitionId). OnlyMarks c.args.slots.now c.args.marks.now c.loop-chunk.marks ids) (ap joined (take_all _ _ c.loop-chunk-test.false)) c.loop-chunk.invariant.only
