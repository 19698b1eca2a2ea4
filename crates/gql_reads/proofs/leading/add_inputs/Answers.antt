use Rattle.std.proofs.Common.{◌≡◌, ◌∙◌, ◌∷◌, [], ◌++◌, ◌+◌, List, ap, sym, bytes_eq, take}
use Rattle.std.proofs.lemmas.List.{map-append, take_more}
use Rattle.indexmap.specs.IndexSet.{insert_key}
use Rattle.gql_facts.specs.Reads.{input_types}
use Rattle.gql_facts.specs.declared.fact.InputFact.{InputFact}
use Rattle.gql_reads.specs.Closings.{add_names}
use Rattle.gql_reads.proofs.Led.{names_push}
use Rattle.gql_reads.proofs.leading.add_inputs.Goals as goal

pub loop-input-preserved : goal.loop-input-preserved
loop-input-preserved c =
    let xs = c.args.inputs.now in
    let i = c.loop-input.input-index in
    let x = c.input-item.result in
    let ns = c.args.names.now.keys in
    let next : take (i + 1) xs ≡ take i xs ++ x ∷ [] = take_more xs i x c.loop-input-test.true ∙ ap (λ y. take i xs ++ y ∷ []) (sym c.input-item.is) in
    c.in_ok-insert.ensures.keys
    ∙ ap (insert_key bytes_eq c.loop-input.names.keys) c.in_ok-copy.ensures
    ∙ ap (λ l. insert_key bytes_eq l x.of_type.name) c.loop-input.invariant
    ∙ sym (ap (λ (l : List InputFact). add_names ns (input_types l)) next
    ∙ ap (add_names ns) (map-append (λ (y : InputFact). y.of_type.name) (take i xs) (x ∷ []))
    ∙ names_push ns (input_types (take i xs)) x.of_type.name)
