use Rattle.std.proofs.Common.{◌∙◌, sym}
use Rattle.gql_registry.proofs.edit_plan.edited_index.Goals as goal

pub index_after_edit-requires-clause-index : goal.index_after_edit-requires-clause-index
index_after_edit-requires-clause-index c = (c.args.before.now, c.requires.index, sym c.file_in-old.ensures, c.requires.files)

pub index_after_edit-requires-clause-same : goal.index_after_edit-requires-clause-same
index_after_edit-requires-clause-same c = λ same. c.requires.index.fragments ∙ c.requires.same same
