use Rattle.std.proofs.Common.{sym, ◌∙◌, map}
use Rattle.std.proofs.lemmas.List.{length-map}
use Rattle.serde_json.specs.View.{view}
use Rattle.gql_steps.proofs.Alike.{other_lengths}
use Rattle.gql_steps.proofs.same.compare_items.Goals as goal

pub returns-then-items-others : goal.returns-then-items-others
returns-then-items-others c =
    sym (other_lengths (map view c.args.items.now) (map view c.args.others.now)
    (λ e. c.if-items-others.true (sym (length-map c.args.items.now view) ∙ e ∙ length-map c.args.others.now view)))
