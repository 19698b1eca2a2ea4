use Rattle.std.specs.Prelude.{is_some}
use Rattle.std.proofs.Common.{◌≡◌, ◌∙◌, None, Some, ap, rules, subst, sym}
use Rattle.gql_facts.specs.declared.key.Key.{Key}
use Rattle.gql_readers.specs.Changes.{Noted, Notes, noted_of}
use Rattle.gql_readers.specs.Merged.{NotesAt, go_noted, noted_or}
use Rattle.gql_readers.proofs.changes.Changes.note_go.Goals as goal

pub returns-in-Some : goal.returns-in-Some
returns-in-Some c =
    let w = c.go.new.self in
    let named : c.in_ok-key.key ≡ c.args.answer.now.observation.key = c.in_ok-key.ensures in
    let old = c.args.self.now in
    let new = (c.get_mut.follows.lender w).entries in
    let answer = c.args.answer.now in
    let through = c.get_mut.follows.holds w in
    let inside : noted_of c.self.inside.notes.entries c.in_ok-key.key ≡ Some c.in-Some.noted.now = search rules in
    let here : noted_of old c.in_ok-key.key ≡ Some c.in-Some.noted.now = search rules in
    let there : noted_of old c.args.answer.now.observation.key ≡ Some c.in-Some.noted.now = subst (λ (j : Key). noted_of old j ≡ Some c.in-Some.noted.now) named here in
    let is : w ≡ go_noted (noted_or answer (noted_of old c.args.answer.now.observation.key)) c.args.id.now =
    c.in_ok-go.ensures ∙ ap (λ o. go_noted (noted_or answer o) c.args.id.now) (sym there) in
    subst (λ (j : Key). NotesAt old new j (go_noted (noted_or answer (noted_of old c.args.answer.now.observation.key)) c.args.id.now)) named
    (subst (λ (n : Noted). NotesAt old new c.in_ok-key.key n) is
    (subst (λ (ns : Notes). NotesAt ns new c.in_ok-key.key w) c.self.view_is (through.3 (ap is_some inside)).0))

pub returns : goal.returns
returns c =
    let old = c.args.self.now in
    let new = c.put.new.self in
    let answer = c.args.answer.now in
    let named : c.in_ok-key.key ≡ answer.observation.key = c.in_ok-key.ensures in
    let absent : noted_of old c.in_ok-key.key ≡ None = search rules in
    let there : noted_of old answer.observation.key ≡ None = subst (λ (j : Key). noted_of old j ≡ None) named absent in
    let is : c.go-2.new.self ≡ go_noted (noted_or answer (noted_of old answer.observation.key)) c.args.id.now =
    c.in_ok-go-2.ensures ∙ ap (λ n. go_noted n c.args.id.now) (c.in_ok-noted.ensures ∙ ap (noted_or answer) (sym there)) in
    let put : NotesAt old new c.in_ok-key.key c.go-2.new.self = search rules in
    subst (λ (j : Key). NotesAt old new j (go_noted (noted_or answer (noted_of old answer.observation.key)) c.args.id.now)) named
    (subst (λ (n : Noted). NotesAt old new c.in_ok-key.key n) is put)
