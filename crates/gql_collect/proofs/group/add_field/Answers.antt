use Rattle.std.proofs.Common.{◌≡◌, rules, ap, ◌∙◌}
use Rattle.gql_collect.specs.Borrowed.{node_of}
use Rattle.gql_collect.specs.BorrowedGroups.{groups_in}
use Rattle.gql_collect.specs.Putting.{put}
use Rattle.gql_collect.specs.declared.group.Group.{Group}
use Rattle.gql_collect.proofs.GroupSteps.{found_at, absent}
use Rattle.gql_collect.proofs.group.add_field.Goals as goal

pub returns-in-Some : goal.returns-in-Some
returns-in-Some c =
    let w : Group = record { first = c.in-Some.group.now.first; others = c.push.new.self } in
    ap groups_in (c.get_mut.follows.holds w).0
    ∙ found_at c.response_name-name.result.now c.args.node c.args.groups.now.entries c.in-Some.group.now w
    (search rules) (search rules) (search rules) (search rules)

pub returns : goal.returns
returns c =
    let same : c.get_mut.follows.lender-at-none.entries ≡ c.args.groups.now.entries = search rules in
    ap groups_in c.in_ok-insert.ensures.entries
    ∙ absent c.response_name-name.result c.args.node c.get_mut.follows.lender-at-none.entries
    c.alone.result (search rules) (search rules) (search rules)
    ∙ ap (λ es. put (groups_in es) (node_of c.args.node)) same
