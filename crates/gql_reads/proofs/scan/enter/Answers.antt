use Rattle.std.proofs.Common.{None, rules}
use Rattle.gql_facts.proofs.Entering.{entered}
use Rattle.gql_facts.proofs.Scanning.{kept_scan}
use Rattle.gql_reads.proofs.scan.enter.Goals as goal

pub returns-then-is_composite-clause-asked : goal.returns-then-is_composite-clause-asked
returns-then-is_composite-clause-asked g c =
    let F = g.W.World.facts c.args.world.now in
    (entered F c.args.of_type c.in-Some.name _ _ _ _ _ None None c.in-Some.is (search rules) (search rules) (kept_scan F None c.in_ok-fact.ensures.asked) c.in_ok-note.ensures.asked).keys

pub returns-else-is_composite-clause-asked : goal.returns-else-is_composite-clause-asked
returns-else-is_composite-clause-asked g c =
    let F = g.W.World.facts c.args.world.now in
    (entered F c.args.of_type c.in-Some.name _ _ _ _ _ None None c.in-Some.is (search rules) (search rules) (kept_scan F None c.in_ok-fact.ensures.asked) c.in_ok-note.ensures.asked).keys
