use Rattle.std.proofs.Common.{◌≡◌, ◌∙◌, ◌++◌, [], ap, filter, rules, subst, sym, Contains}
use Rattle.std.specs.Prelude.{OnOk}
use Rattle.gql_types.specs.Possible.{in_order}
use Rattle.gql_types.proofs.Members.{none}
use Rattle.gql_intro.specs.EditedNames.{is_kept}
use Rattle.gql_intro.proofs.Sorting.{all_kept}
use Rattle.gql_intro.proofs.edited_runs.add_run.Goals as goal

pub returns-then-are_none-2 : goal.returns-then-are_none-2
returns-then-are_none-2 c =
    let run = c.args.run.now.names in
    let gone = c.args.gone.now in
    let none_went : c.args.went.now ≡ [] = search rules in
    let none_came : c.args.came.now ≡ [] = search rules in
    let same : in_order (filter (is_kept gone) run ++ c.args.came.now) ≡ run =
    ap (λ l. in_order (filter (is_kept gone) run ++ l)) none_came
    ∙ all_kept gone run c.requires.run (λ n a b. none n (subst (λ l. Contains l n) none_went (c.requires.went n a b))) in
    subst (λ l. OnOk c.share.result (c.share.new.self ≡ c.args.made.now ++ l)) (sym same) c.share.ensures
