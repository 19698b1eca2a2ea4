use Rattle.std.proofs.Common.{◌≡◌, ◌++◌, ◌∙◌, None, ap, sym}
use Rattle.std.specs.List.{slice_get}
use Rattle.gql_merge.proofs.Appending.{append_end}
use Rattle.gql_merge.specs.FieldSets.{list_of}
use Rattle.gql_merge.proofs.spreading.add_at.Goals as goal

pub returns-in-None : goal.returns-in-None
returns-in-None c =
    let none : slice_get c.args.members.now c.args.place ≡ None = sym c.in-None.ensures in
    sym (append_end c.args.found.now.items) ∙ ap (λ o. c.args.found.now.items ++ list_of o) (sym none)
