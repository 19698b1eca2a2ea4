use Rattle.std.proofs.Common.{◌≡◌, ◌++◌, ◌∷◌, [], ◌∙◌, ap, subst, sym, List}
use Rattle.gql_ast.specs.Trees.{id_of}
use Rattle.gql_ast.specs.declared.definition.DefinitionId.{DefinitionId}
use Rattle.gql_readers.specs.Changes.{AreNotesBetween, IsNew}
use Rattle.gql_readers.specs.Readers.{with_reader}
use Rattle.gql_reads.specs.Readings.{answers_in}
use Rattle.gql_reads.specs.declared.observation.Answer.{Answer}
use Rattle.gql_verdict.specs.Readings.{reader_of}
use Rattle.gql_verdict.proofs.indexing.add_replaced.Goals as goal

pub returns : goal.returns
returns c = λ olds news b fresh_old fresh_new.
    let v = c.args.before.now in
    let w = c.args.after.now in
    let notes = c.replace.new.self in
    let id = c.in_ok-id.id in
    let named : id ≡ id_of w.def = c.in_ok-id.ensures ∙ c.in_ok-own.ensures ∙ ap id_of c.def.ensures in
    let noted = c.in_ok-replace.ensures olds news b (subst (λ (i : DefinitionId). IsNew i olds) (sym named) fresh_old) (subst (λ (i : DefinitionId). IsNew i news) (sym named) fresh_new) in
    subst (λ (i : DefinitionId). AreNotesBetween notes (with_reader olds i v.answers) (news ++ reader_of w ∷ [])) (named ∙ sym c.requires)
    (subst (λ (i : DefinitionId). AreNotesBetween notes (with_reader olds id v.answers) (with_reader news i w.answers)) named
    (subst (λ (xs : List Answer). AreNotesBetween notes (with_reader olds id v.answers) (with_reader news id xs)) c.reading-2.ensures.answers
    (subst (λ (xs : List Answer). AreNotesBetween notes (with_reader olds id xs) (with_reader news id (answers_in c.reading-2.result.now))) c.reading.ensures.answers noted)))
