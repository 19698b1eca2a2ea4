use Rattle.std.proofs.Common.{◌≡◌, ◌∙◌, ◌++◌, ◌∷◌, [], ◌<◌, Some, ap, bytes_eq, find, get_or, length, rules, slice_get, subst, sym}
use Rattle.std.proofs.lemmas.Option.{slice_get-get_or}
use Rattle.std.specs.Option.{option_copied}
use Rattle.std.specs.Prelude.{is_some, unwrap_or}
use Rattle.gql_types.specs.Possible.{name_of}
use Rattle.gql_facts.specs.EditedFacts.{IsEntryAfter}
use Rattle.gql_facts.specs.Tables.{type_entry}
use Rattle.gql_facts.proofs.EditedFacts.{given, kept_or_made, looked_for}
use Rattle.gql_facts.proofs.edited_facts.add_entry_here.Goals as goal

pub returns-in-Some : goal.returns-in-Some
returns-in-Some c = λ t is. c.in_ok-keep.ensures
    ∙ ap (λ e. c.args.entries.now ++ e ∷ []) (given c.args.before.now c.args.edited.now c.args.places.now c.args.schema.now c.args.place c.in-Some.entry.now c.requires.before c.in-Some.ensures t is)

pub returns : goal.returns
returns c = λ t is.
    let item : get_or c.types.result.now c.args.place c.index-types-place.result ≡ c.index-types-place.result = search rules in
    let within : c.args.place < length c.types.result.now = search rules in
    let at : slice_get c.args.schema.now.types c.args.place ≡ Some c.index-types-place.result = ap (λ ts. slice_get ts c.args.place) (sym c.types.ensures)
    ∙ slice_get-get_or c.types.result.now c.args.place c.index-types-place.result within ∙ ap Some item in
    let both : Some c.index-types-place.result ≡ Some t = sym at ∙ is in
    let same : c.get-of_type.result.now ≡ t = c.get-of_type.ensures ∙ cc both in
    let marked : c.is_some-is_edited.result ≡ is_some (find (bytes_eq (name_of c.get-of_type.result.now)) c.args.edited.now) = search rules in
    let entry = unwrap_or (option_copied c.kept_entry-kept.result) (type_entry c.args.schema.now c.get-of_type.result.now) in
    let after : IsEntryAfter c.args.before.now c.args.edited.now c.args.schema.now c.get-of_type.result.now entry =
    kept_or_made c.args.before.now c.args.edited.now c.args.schema.now c.get-of_type.result.now (option_copied c.kept_entry-kept.result) (c.kept_entry-kept.ensures.entry c.args.edited.now marked) in
    c.in_ok-add_entry.ensures ∙ ap (λ e. c.args.entries.now ++ e ∷ []) (looked_for c.args.before.now c.args.edited.now c.args.places.now c.args.schema.now c.args.place t entry c.requires.before c.requires.within is
    (subst (λ u. IsEntryAfter c.args.before.now c.args.edited.now c.args.schema.now u entry) same after))
