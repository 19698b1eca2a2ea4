use Rattle.std.proofs.Common.{◌≡◌, List, false, rules, subst, sym}
use Rattle.gql_reads.specs.Observations.{about_all}
use Rattle.gql_reads.specs.declared.observation.TypeAnswers.{TypeAnswers}
use Rattle.gql_pairs.specs.Doubts.{in_doubt}
use Rattle.gql_pairs.specs.declared.doubt.Doubt.{Doubt}
use Rattle.gql_pairs.specs.declared.doubt.Doubt.TheVariants as doubted
use Rattle.gql_pairs.proofs.Doubting.{Undoubted, answer_undoubted, no_fragments}
use Rattle.gql_pairs.proofs.doubt.Doubt.is_of_answer.Goals as goal

pub returns-in-Fragments : goal.returns-in-Fragments
returns-in-Fragments c = λ _.
    let a = c.args.answer.now in
    let here : in_doubt c.args.self.now a.observation.key ≡ false = search rules in
    answer_undoubted c.args.self.now a here
    (subst (λ (d : Doubt). Undoubted d (about_all a.types)) (sym c.in-Fragments.is) (no_fragments _ a.types))

pub returns-in-Types : goal.returns-in-Types
returns-in-Types c = λ no.
    let a = c.args.answer.now in
    let here : in_doubt c.args.self.now a.observation.key ≡ false = search rules in
    let types : Undoubted (doubted.Types c.in-Types.names) (about_all a.types) =
    subst (λ (ts : List TypeAnswers). Undoubted (doubted.Types c.in-Types.names) (about_all ts)) c.as_slice.ensures (c.have_one.ensures no) in
    answer_undoubted c.args.self.now a here (subst (λ (d : Doubt). Undoubted d (about_all a.types)) (sym c.in-Types.is) types)
