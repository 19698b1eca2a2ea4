use Rattle.std.proofs.Common.{◌≡◌, ◌∙◌, None, Some, ap, false, refl, sym, true}
use Rattle.std.specs.Prelude.{slice_get}
use Rattle.gql_readers.specs.Chunks.{joined}
use Rattle.gql_readers.proofs.Chunking.{none_first}
use Rattle.gql_readers.proofs.reader_list.ReaderList.is_empty.Goals as goal

pub returns-in-Some : goal.returns-in-Some
returns-in-Some c =
    let same = ap joined c.as_slice.ensures.value ∙ c.self.view_is in (
      λ t. let z : false ≡ true = t in cc z,
      λ none. let z : Some _ ≡ None = c.in-Some.ensures ∙ ap (λ ids. slice_get ids 0) (same ∙ none) in cc z,
    )

pub returns-in-None : goal.returns-in-None
returns-in-None c =
    let same = ap joined c.as_slice.ensures.value ∙ c.self.view_is in
    (λ t. sym same ∙ none_first (joined c.as_slice.result.now) (sym c.in-None.ensures), λ e. refl)
