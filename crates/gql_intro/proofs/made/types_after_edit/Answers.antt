use Rattle.std.proofs.Common.{◌≡◌, ◌∙◌, ◌++◌, [], filter, map, ap, rules}
use Rattle.gql_types.specs.Possible.{in_order, name_of}
use Rattle.gql_intro.specs.EditedNames.{is_kept, is_only_in}
use Rattle.gql_intro.specs.Made.{is_shown}
use Rattle.gql_intro.proofs.EditedNames.{after, unchanged}
use Rattle.gql_intro.proofs.made.types_after_edit.Goals as goal

pub returns-then-are_none-2 : goal.returns-then-are_none-2
returns-then-are_none-2 c = λ keeps undone is.
    let names = c.args.edited.now in
    let before = c.args.before.now in
    let s = c.args.schema.now in
    let none_went : filter (is_only_in before s) names ≡ [] = search rules in
    let none_came : filter (is_only_in s before) names ≡ [] = search rules in
    let has_int : c.args.made.now.has_int ≡ c.args.has_int = search rules in
    let has_id : c.args.made.now.has_id ≡ c.args.has_id = search rules in
    let has_float : c.args.made.now.has_float ≡ c.args.has_float = search rules in
    let same : c.in_ok-same.same ≡ c.args.made.now.types = search rules in
    same ∙ is ∙ (λ k. in_order (filter (is_shown (has_int k) (has_id k) (has_float k)) (map name_of before.types)))
    ∙ unchanged names before s keeps undone (is_shown c.args.has_int c.args.has_id c.args.has_float) none_went none_came

pub returns : goal.returns
returns c = λ keeps undone is.
    let names = c.args.edited.now in
    let before = c.args.before.now in
    let s = c.args.schema.now in
    let has_int : c.args.made.now.has_int ≡ c.args.has_int = search rules in
    let has_id : c.args.made.now.has_id ≡ c.args.has_id = search rules in
    let has_float : c.args.made.now.has_float ≡ c.args.has_float = search rules in
    let shown = is_shown c.args.has_int c.args.has_id c.args.has_float in
    let old_names : c.types.result.now ≡ in_order (filter shown (map name_of before.types)) =
    c.types.ensures ∙ is ∙ (λ k. in_order (filter (is_shown (has_int k) (has_id k) (has_float k)) (map name_of before.types))) in
    let gone : c.in_ok-gone-2.gone ≡ filter (is_only_in before s) names = search rules in
    let came : c.as_slice-4.result.now ≡ filter (is_only_in s before) names = search rules in
    let made : c.in_ok-names-4.names ≡ in_order (filter (is_kept c.in_ok-gone-2.gone) c.types.result.now ++ filter shown c.as_slice-4.result.now) = search rules in
    made ∙ ap (λ g. in_order (filter (is_kept g) c.types.result.now ++ filter shown c.as_slice-4.result.now)) gone
    ∙ ap (λ ns. in_order (filter (is_kept (filter (is_only_in before s) names)) ns ++ filter shown c.as_slice-4.result.now)) old_names
    ∙ ap (λ ns. in_order (filter (is_kept (filter (is_only_in before s) names)) (in_order (filter shown (map name_of before.types))) ++ filter shown ns)) came
    ∙ after names before s keeps undone shown
