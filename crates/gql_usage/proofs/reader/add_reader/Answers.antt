use Rattle.std.proofs.Common.{◌≡◌, ◌∙◌, ◌++◌, ◌∷◌, [], List, ℕ, false, subst, sym, true}
use Rattle.gql_facts.specs.Members.{Lists}
use Rattle.gql_usage.specs.Readers.{AreReaders, IsThrough, reads, reads_not}
use Rattle.gql_facts.specs.Presents.{facts_of_present}
use Rattle.gql_usage.specs.declared.reader.Reader.{Reader}
use Rattle.gql_usage.proofs.Reading.{reads_nothing, reads_some}
use Rattle.gql_usage.proofs.reader.add_reader.Goals as goal

pub returns-then-reads_nothing-clause-adds : goal.returns-then-reads_nothing-clause-adds
returns-then-reads_nothing-clause-adds c = λ ds h.
    let facts = facts_of_present c.args.question.now.present in
    let r = c.args.question.now.removal.now in
    let d = c.args.definition.now in
    let through = subst (λ (ns : List (List ℕ)). Lists ns (IsThrough facts r d)) (sym c.as_slice.ensures.value) c.in_ok-through.ensures.names in
    reads_not d h (reads_nothing facts r d c.in_ok-by_itself.by_itself c.as_slice.result.now c.in_ok-by_itself.ensures.breaks through (c.reads_nothing.ensures.0 c.if-reads_nothing.true))

pub returns-clause-adds : goal.returns-clause-adds
returns-clause-adds c = λ ds h.
    let facts = facts_of_present c.args.question.now.present in
    let r = c.args.question.now.removal.now in
    let d = c.args.definition.now in
    let through = subst (λ (ns : List (List ℕ)). Lists ns (IsThrough facts r d)) (sym c.as_slice.ensures.value) c.in_ok-through.ensures.names in
    subst (λ (xs : List Reader). AreReaders facts r (ds ++ d ∷ []) xs) (sym c.in_ok-push.ensures.items)
    (reads d _ h
    (reads_some facts r d c.in_ok-by_itself.by_itself c.as_slice.result.now c.in_ok-by_itself.ensures.breaks through (λ none. let z : true ≡ false = sym (c.reads_nothing.ensures.1 none) ∙ c.if-reads_nothing.false in cc z))
    (record { definition = c.in_ok-definition.ensures; by_itself = c.in_ok-by_itself.ensures.breaks; through = c.in_ok-through.ensures.names }))
