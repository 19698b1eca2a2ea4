use Rattle.std.proofs.Common.{◌≡◌, ◌∙◌, arith, sym}
use Rattle.std.proofs.lemmas.Bool.Decides.{Decides-eqb}
use Rattle.gql_node_rules.proofs.Held.{all_counted}
use Rattle.gql_node_rules.proofs.other_trees.define_types.Goals as goal

pub returns-in-Some : goal.returns-in-Some
returns-in-Some c = λ none files hold.
    let zero : c.in-Some.left ≡ 0 = (Decides-eqb c.in-Some.left 0).0 none in
    sym (all_counted files c.args.checks.now hold) ∙ omega (arith, c.in-Some.ensures, zero)
