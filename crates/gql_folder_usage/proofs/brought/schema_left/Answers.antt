use Rattle.std.proofs.Common.{◌≡◌, ◌∙◌, ℕ, List, ap, rules, subst, sym}
use Rattle.std.proofs.lemmas.Slice.Zip.{AllZip-map}
use Rattle.std.specs.List.Sorted.{IsStrictlySortedBy}
use Rattle.std.specs.Map.{keys_of}
use Rattle.gql_ast.specs.FileMaps.{name_order}
use Rattle.gql_ast.specs.declared.definition.Document.{Document}
use Rattle.gql_cut.specs.Cuts.{document_left}
use Rattle.gql_folder_usage.proofs.Cutting.{IsLeft, left_of, same_name}
use Rattle.gql_schema_rules.proofs.FirstChecks.{AreFirst, all_first, none_first, one_more}
use Rattle.gql_folder_usage.proofs.brought.schema_left.Goals as goal

pub loop-name-init : goal.loop-name-init
loop-name-init c = subst (λ (vs : List (List ℕ × Document)). AreFirst (IsLeft c.args.subject.now) c.args.files.now c.into_iter-name-iterator.result vs) (sym c.new-left.ensures)
    (none_first (IsLeft c.args.subject.now) _ _ (search rules))

pub loop-name-preserved : goal.loop-name-preserved
loop-name-preserved c =
    let sorted = subst (λ es. IsStrictlySortedBy name_order (keys_of es)) c.entries.ensures.files c.entries.ensures.ordered in
    let its : c.in_ok-document-2.document ≡ document_left c.args.subject.now c.in-Some.document.now =
    c.in_ok-document-2.ensures ∙ c.in_ok-document.ensures ∙ ap (document_left c.args.subject.now) c.get.ensures in
    one_more (IsLeft c.args.subject.now) (same_name c.args.subject.now) c.args.files.now c.loop-name.name-iterator c.next.new.self c.loop-name.left c.put.new.self
    c.in-Some.name.now c.in-Some.document.now c.in_ok-document-2.document sorted c.loop-name.invariant (search rules) (ap (λ (d : Document). (c.in-Some.name.now, d)) its) (search rules)

pub returns : goal.returns
returns c = AllZip-map (left_of c.args.subject.now) c.args.files.now c.loop-name.left (all_first (IsLeft c.args.subject.now) _ _ _ c.loop-name.invariant (search rules))
