use Rattle.std.proofs.Common.{◌≡◌, ◌∙◌, Contains, List, ap, subst, sym}
use Rattle.gql_verdict.specs.Shelves.{Shelved}
use Rattle.gql_verdict.specs.Slots.{verdicts}
use Rattle.gql_verdict.specs.Verdicts.{Judgement}
use Rattle.gql_verdict.proofs.shelf.Shelf.has_reader.Goals as goal

pub returns : goal.returns
returns c =
    let same : verdicts c.as_slice.result.now ≡ c.args.self.now.verdicts = ap verdicts c.as_slice.ensures.value ∙ ap (λ (s : Shelved). s.verdicts) c.self.view_is in (
      λ t. let v = c.has_reader_in.ensures.0 t in (v.0, subst (λ (vs : List Judgement). Contains vs v.0) same v.1, v.2),
      λ h. c.has_reader_in.ensures.1 (h.0, subst (λ (vs : List Judgement). Contains vs h.0) (sym same) h.1, h.2),
    )
