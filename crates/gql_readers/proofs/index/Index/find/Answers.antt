use Rattle.std.proofs.Common.{◌≡◌, ◌∙◌, ap, sym, subst, Contains}
use Rattle.gql_readers.specs.Indexes.{Reading}
use Rattle.gql_readers.specs.Merged.{here, key_of}
use Rattle.gql_readers.specs.Orders.{key_order}
use Rattle.gql_readers.proofs.Found.{found_none, found_some}
use Rattle.gql_readers.proofs.index.Index.find.Goals as goal

pub returns-in-Some : goal.returns-in-Some
returns-in-Some c =
    let es = c.args.self.now in
    let is = c.split-parts.ensures.here ∙ ap (λ j. here key_order key_of j c.as_slice.result.now) c.of.ensures ∙ ap (here key_order key_of c.args.key.now) (c.as_slice.ensures.value ∙ c.self.view_is) in
    subst (λ (e : Reading). Contains es e × (e.key ≡ c.args.key.now)) (sym c.get.ensures) (found_some es c.split-parts.result.here.now c.args.key.now c.in-Some.entry.now is c.in-Some.ensures.value)

pub returns-in-None : goal.returns-in-None
returns-in-None c =
    let is = c.split-parts.ensures.here ∙ ap (λ j. here key_order key_of j c.as_slice.result.now) c.of.ensures ∙ ap (here key_order key_of c.args.key.now) (c.as_slice.ensures.value ∙ c.self.view_is) in
    found_none c.args.self.now c.split-parts.result.here.now c.args.key.now is c.in-None.ensures.value
