use Rattle.std.proofs.Common.{◌≡◌, ◌++◌, ◌∷◌, ◌∙◌, [], List, ap, subst, sym, take}
use Rattle.gql_ast.specs.Trees.{id_of}
use Rattle.gql_ast.specs.declared.definition.DefinitionId.{DefinitionId}
use Rattle.gql_readers.specs.Changes.{AreNotes, IsNew}
use Rattle.gql_readers.specs.Readers.{Reader}
use Rattle.gql_readers.proofs.Between.{came_between}
use Rattle.gql_reads.specs.declared.observation.Answer.{Answer}
use Rattle.gql_verdict.specs.Marks.{gone}
use Rattle.gql_verdict.specs.Readings.{readers}
use Rattle.gql_verdict.proofs.indexing.add_verdict.Goals as goal

pub returns-clause-notes : goal.returns-clause-notes
returns-clause-notes c = λ new up fresh b.
    let v = c.args.verdict.now in
    let before = c.args.changes.now in
    let after = c.come.new.self in
    let named : c.in_ok-id.id ≡ id_of v.def = c.in_ok-id.ensures ∙ c.in_ok-own.ensures ∙ ap id_of c.def-2.ensures in
    let comes : (coming going : List Reader) → AreNotes before coming going → IsNew (id_of v.def) coming → AreNotes after (coming ++ record { id = id_of v.def; answers = v.answers } ∷ []) going = λ coming going are first.
    subst (λ (i : DefinitionId). AreNotes after (coming ++ record { id = i; answers = v.answers } ∷ []) going) named
    (subst (λ (xs : List Answer). AreNotes after (coming ++ record { id = c.in_ok-id.id; answers = xs } ∷ []) going) c.reading.ensures.answers
    (c.in_ok-come.ensures coming going are (subst (λ (i : DefinitionId). IsNew i coming) (sym named) first))) in
    came_between before after (readers (gone (take c.args.at c.args.kept.now) (take c.args.at c.args.stay.now))) new b (id_of v.def) v.answers fresh comes
