use Rattle.std.proofs.Common.{◌∙◌, ap, bytes_eq, sym}
use Rattle.std.specs.HashMap as hash
use Rattle.gql_ast.specs.declared.executable.Fragment.{Fragment}
use Rattle.gql_single_root.specs.V30SingleRootField.{is_possible}
use Rattle.gql_single_root.proofs.Taking.{fragment_apart, fragment_done}
use Rattle.gql_single_root.proofs.walk.add_fragment.Goals as goal

pub returns-then-not-is_on-clause-taken : goal.returns-then-not-is_on-clause-taken
returns-then-not-is_on-clause-taken g c =
    let F = g.W.World.facts c.args.world.now in
    fragment_apart (λ q. hash.get_by (λ k. bytes_eq q k.now) c.args.places.now) F c.args.root.now c.args.member.now _
    (sym (c.in_ok-is_on.ensures.possible ∙ ap (λ (f : Fragment). is_possible F c.args.root.now f.condition.text) c.get-fragment.ensures) ∙ c.if-not-is_on.true)

pub returns-clause-taken : goal.returns-clause-taken
returns-clause-taken g c =
    let F = g.W.World.facts c.args.world.now in
    fragment_done (λ q. hash.get_by (λ k. bytes_eq q k.now) c.args.places.now) F c.args.root.now _ c.args.member.now c.as_slice-set.result.now _ _ c.in_ok-is_on.ensures.facts
    (c.as_slice-set.ensures ∙ ap (λ (f : Fragment). f.selections) c.get-fragment.ensures)
    (sym (c.in_ok-is_on.ensures.possible ∙ ap (λ (f : Fragment). is_possible F c.args.root.now f.condition.text) c.get-fragment.ensures) ∙ c.if-not-is_on.false)
    c.in_ok-add_root.ensures.taken
