use Rattle.std.proofs.Common.{◌≡◌, ◌++◌, ◌∷◌, [], ◌∙◌, ap, subst, sym, List}
use Rattle.gql_ast.specs.Trees.{id_of}
use Rattle.gql_ast.specs.declared.definition.DefinitionId.{DefinitionId}
use Rattle.gql_readers.specs.Changes.{AreNotes, IsNew}
use Rattle.gql_readers.specs.Readers.{Reader}
use Rattle.gql_readers.proofs.Between.{went_between}
use Rattle.gql_reads.specs.declared.observation.Answer.{Answer}
use Rattle.gql_verdict.proofs.LedTo.{went_one}
use Rattle.gql_verdict.proofs.indexing.add_gone.Goals as goal

pub returns-in_ok-go : goal.returns-in_ok-go
returns-in_ok-go c = λ olds news b.
    let v = c.in-Here.verdict in
    let before = c.args.changes.now in
    let after = c.go.new.self in
    let named : c.in_ok-id.id ≡ id_of v.def = c.in_ok-id.ensures ∙ c.in_ok-own.ensures ∙ ap id_of c.def.ensures in
    let goes : (coming going : List Reader) → AreNotes before coming going → IsNew (id_of v.def) going → AreNotes after coming (going ++ record { id = id_of v.def; answers = v.answers } ∷ []) = λ coming going are new.
    subst (λ (i : DefinitionId). AreNotes after coming (going ++ record { id = i; answers = v.answers } ∷ [])) named
    (subst (λ (xs : List Answer). AreNotes after coming (going ++ record { id = c.in_ok-id.id; answers = xs } ∷ [])) c.reading.ensures.answers
    (c.in_ok-go.ensures coming going are (subst (λ (i : DefinitionId). IsNew i going) (sym named) new))) in
    went_one c.args.slot.now c.args.stays v c.in-Here.is c.if-stays.false olds news after (λ fresh. went_between before after olds news b (id_of v.def) v.answers fresh goes)
