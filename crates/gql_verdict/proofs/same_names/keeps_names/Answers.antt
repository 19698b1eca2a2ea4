use Rattle.std.proofs.Common.{◌≡◌, ◌∙◌, Some, ap, rules, subst, sym}
use Rattle.std.specs.Prelude.{option_map}
use Rattle.std.specs.List.Sorted.{IsStrictlySortedBy}
use Rattle.std.specs.Map.{keys_of}
use Rattle.std.proofs.lemmas.Option.{same_Some}
use Rattle.gql_ast.specs.FileMaps.{file_named, name_order}
use Rattle.gql_ast.specs.declared.definition.Document.{Document}
use Rattle.gql_verdict.specs.NameViews.{views_of}
use Rattle.gql_verdict.proofs.FilePut.{put_keeps}
use Rattle.gql_verdict.proofs.same_names.keeps_names.Goals as goal

pub returns-clause-sound : goal.returns-clause-sound
returns-clause-sound c = λ is.
    let old = c.in-Some.before.now in
    let found : file_named c.args.files.now.documents c.args.name.now ≡ Some old = sym c.in-Some.ensures in
    let before : c.as_slice-before.result.now ≡ old.definitions = search rules in
    let after : c.as_slice.result.now ≡ c.args.document.now.definitions = search rules in
    put_keeps c.args.files.now c.args.name.now c.args.document.now old
    (subst (λ es. IsStrictlySortedBy name_order (keys_of es)) c.entries-in_order.ensures.files c.entries-in_order.ensures.ordered)
    found
    (sym (ap views_of before) ∙ c.in_ok-alike.ensures.0 is ∙ ap views_of after)

pub returns-clause-exact : goal.returns-clause-exact
returns-clause-exact c =
    let old = c.in-Some.before.now in
    let seen = λ (d : Document). views_of d.definitions in
    let found : option_map seen (file_named c.args.files.now.documents c.args.name.now) ≡ Some (seen old) = ap (option_map seen) (sym c.in-Some.ensures) in
    let before : c.as_slice-before.result.now ≡ old.definitions = search rules in
    let after : c.as_slice.result.now ≡ c.args.document.now.definitions = search rules in (
      λ is. found ∙ ap Some (sym (ap views_of before) ∙ c.in_ok-alike.ensures.0 is ∙ ap views_of after),
      λ same. c.in_ok-alike.ensures.1 (ap views_of before ∙ same_Some (seen old) (seen c.args.document.now) (sym found ∙ same) ∙ sym (ap views_of after)),
    )
