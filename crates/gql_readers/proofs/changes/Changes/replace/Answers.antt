use Rattle.std.proofs.Common.{[], List, subst}
use Rattle.gql_reads.specs.Readings.{answers_in}
use Rattle.gql_reads.specs.declared.observation.Answer.{Answer}
use Rattle.gql_readers.specs.Changes.{AreNotes, IsNew}
use Rattle.gql_readers.specs.Readers.{with_reader}
use Rattle.gql_readers.proofs.Between.{replaced_between, same_new}
use Rattle.gql_readers.proofs.Coming.{come_none, go_none}
use Rattle.gql_readers.proofs.changes.Changes.replace.Goals as goal

pub returns : goal.returns
returns c = λ old new b fresh_old fresh_new.
    let id = c.args.id.now in
    let coming = b.coming in
    let going = b.going in
    let went = c.in_ok-differ.differ.went.items in
    let came = c.in_ok-differ.differ.came.items in
    let mid = c.go_with.new.self in
    let new_going : IsNew id going = same_new going old id b.going_ids fresh_old in
    let new_coming : IsNew id coming = same_new coming new id b.coming_ids fresh_new in
    let gone : AreNotes mid coming (with_reader going id went) =
    subst (λ (os : List Answer). AreNotes mid coming (with_reader going id os)) c.as_slice.ensures.value (c.in_ok-go_with.ensures coming going [] new_going (go_none id going c.args.self.now coming b.notes_of)) in
    let come : AreNotes c.come_with.new.self (with_reader coming id came) (with_reader going id went) =
    subst (λ (os : List Answer). AreNotes c.come_with.new.self (with_reader coming id os) (with_reader going id went)) c.as_slice-2.ensures.value
    (c.in_ok-come_with.ensures coming (with_reader going id went) [] new_coming (come_none id coming mid (with_reader going id went) gone)) in
    replaced_between c.args.self.now c.come_with.new.self old new b id fresh_old fresh_new (answers_in c.args.before.now) went came (answers_in c.args.after.now) c.in_ok-differ.ensures come
