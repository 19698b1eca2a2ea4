use Rattle.std.proofs.Common.{◌≡◌, ◌∙◌, false, subst, sym, true}
use Rattle.gql_readers.specs.Indexes.{Reading}
use Rattle.gql_readers.proofs.Editing.{one_entry}
use Rattle.gql_verdict.specs.Marks.{IsSomeAsked}
use Rattle.gql_verdict.proofs.asked.is_asked_itself.Goals as goal

pub returns-in-Some : goal.returns-in-Some
returns-in-Some c =
    let x = c.in-Some.entry.now in
    let k = c.args.key.now in (
      λ t. (x, c.in-Some.ensures.0, c.in-Some.ensures.1, c.is_asked.ensures.0 t),
      λ h. c.is_asked.ensures.1 (subst (λ (e : Reading). IsSomeAsked e k) (one_entry c.args.index.now c.requires h.0 x h.1 c.in-Some.ensures.0 (h.2 ∙ sym c.in-Some.ensures.1)) h.3),
    )

pub returns-in-None : goal.returns-in-None
returns-in-None c = (
  λ t. let z : false ≡ true = t in cc z,
  λ h. absurd (c.in-None.ensures h.0 h.1 h.2),
)
