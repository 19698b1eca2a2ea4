use Rattle.std.proofs.Common.{◌≡◌, ◌∙◌, ◌++◌, ◌∷◌, [], ap, append_assoc, append-nil, rules, subst, sym, List, ℕ, Some}
use Rattle.std.specs.Map.{keys_of}
use Rattle.std.specs.List.Sorted.{IsStrictlySortedBy}
use Rattle.gql_ast.specs.FileMaps.{name_order}
use Rattle.gql_ast.specs.declared.definition.Document.{Document}
use Rattle.gql_chunks.specs.Edits.{IsEdited}
use Rattle.gql_registry.specs.Indexed.{AreOperationsIn, HaveSame, kept_operations}
use Rattle.gql_registry.specs.OperationOrders.{operation_order}
use Rattle.gql_registry.specs.declared.kept_operation.KeptOperation.{KeptOperation}
use Rattle.gql_registry.proofs.KeptOperations.{index_more, no_files}
use Rattle.gql_registry.proofs.operations.Operations.new.Goals as goal

pub loop-name-init : goal.loop-name-init
loop-name-init c = let none = no_files c.new-all.result c.new-all.ensures in ([], search rules, none.0, none.1)

pub loop-name-preserved : goal.loop-name-preserved
loop-name-preserved c =
    let done = c.loop-name.invariant.0 in
    let name = c.in-Some.name.now in
    let d = c.in-Some.document.now in
    let rest = c.next.new.self in
    let step : c.loop-name.name-iterator ≡ (name, d) ∷ rest = search rules in
    let whole = ap (λ (es : List (List ℕ × Document)). done ++ es) (sym step) ∙ c.loop-name.invariant.1 in
    let sorted = subst (λ es. IsStrictlySortedBy name_order (keys_of es)) (c.entries.ensures.files ∙ sym whole) c.entries.ensures.ordered in
    let coming = subst (λ (doc : Document). AreOperationsIn name (Some doc) c.in_ok-comes.comes) c.get.ensures c.in_ok-comes.ensures in
    let edited = subst (λ (none : List KeptOperation). IsEdited operation_order c.loop-name.all none c.in_ok-comes.comes c.in_ok-all.all) c.new-none.ensures c.in_ok-all.ensures in (
      done ++ (name, d) ∷ [],
      append_assoc done ((name, d) ∷ []) rest ∙ whole,
      index_more done (name, d) rest c.loop-name.all c.in_ok-comes.comes c.in_ok-all.all sorted c.loop-name.invariant.2 coming edited,
      edited.ordered,
    )

pub returns : goal.returns
returns c =
    let done = c.loop-name.invariant.0 in
    let end : c.loop-name.name-iterator ≡ [] = search rules in
    let whole = sym (append-nil done) ∙ ap (λ (es : List (List ℕ × Document)). done ++ es) (sym end) ∙ c.loop-name.invariant.1 in
    record {
      files = subst (λ es. IsStrictlySortedBy name_order (keys_of es)) c.entries.ensures.files c.entries.ensures.ordered;
      ordered = c.loop-name.invariant.3;
      items = subst (λ (ds : List (List ℕ × Document)). HaveSame c.loop-name.all (kept_operations ds)) whole c.loop-name.invariant.2;
    }
