use Rattle.std.proofs.Common.{◌≡◌, ◌++◌, ◌∷◌, ◌∙◌, [], List, ap, get_or, subst, sym, take}
use Rattle.gql_ast.specs.Trees.{id_of}
use Rattle.gql_ast.specs.declared.definition.DefinitionId.{DefinitionId}
use Rattle.gql_readers.specs.Changes.{AreNotesBetween, IsNew}
use Rattle.gql_readers.specs.Readers.{Reader}
use Rattle.gql_verdict.specs.Marks.{gone}
use Rattle.gql_verdict.specs.Readings.{reader_of, readers}
use Rattle.gql_verdict.specs.Verdicts.{Judgement}
use Rattle.gql_verdict.specs.declared.slot.Slot.{Slot}
use Rattle.gql_verdict.specs.declared.slot.Slot.TheVariants.{Here}
use Rattle.gql_verdict.proofs.LedTo.{is_there, place_new, place_readers, same_verdict}
use Rattle.gql_verdict.proofs.indexing.add_in_place.Goals as goal

pub add_replaced-requires : goal.add_replaced-requires
add_replaced-requires c =
    let p = c.requires.place in
    let s = c.index-kept-place.result in
    let there : s ≡ Here p.verdict = is_there c.args.kept.now c.args.place p.verdict s p.there c.index-kept-place.is in
    ap (λ (v : Judgement). id_of v.def) (sym (same_verdict p.verdict c.in-Here.before s there c.in-Here.is)) ∙ p.named

pub returns-in_ok-add_replaced : goal.returns-in_ok-add_replaced
returns-in_ok-add_replaced c = λ new up fresh are.
    let p = c.requires.place in
    let kept = c.args.kept.now in
    let stay = c.args.stay.now in
    let i = c.args.place in
    let s = c.index-kept-place.result in
    let w = c.in-Here.before in
    let v = c.args.verdict.now in
    let olds = readers (gone (take i kept) (take i stay)) in
    let there : s ≡ Here p.verdict = is_there kept i p.verdict s p.there c.index-kept-place.is in
    let named : id_of w.def ≡ id_of v.def = ap (λ (x : Judgement). id_of x.def) (sym (same_verdict p.verdict w s there c.in-Here.is)) ∙ p.named in
    let is : Here w ≡ get_or kept i (Here w) = subst (λ (x : Slot). x ≡ get_or kept i x) c.in-Here.is c.index-kept-place.is in
    let fresh_old : IsNew (id_of v.def) olds = subst (λ (j : DefinitionId). IsNew j olds) named (place_new kept stay i w c.requires.long p.there.within is p.goes up) in
    subst (λ (rs : List Reader). AreNotesBetween c.add_replaced.new.changes rs (new ++ reader_of v ∷ [])) (place_readers kept stay i w c.requires.long p.there.within is p.goes)
    (c.in_ok-add_replaced.ensures olds new (c.in_ok-add_gone_to.ensures new up are) fresh_old fresh)
