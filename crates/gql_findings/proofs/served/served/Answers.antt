use Rattle.std.proofs.Common.{◌∙◌, ap, get_or, arith}
use Rattle.std.specs.Prelude.{◌&&◌, not}
use Rattle.std.specs.HashSet.{contains}
use Rattle.std.specs.List.{list_any}
use Rattle.std.proofs.lemmas.List.{take_all}
use Rattle.gql_findings.specs.Comparing.{places_from}
use Rattle.gql_findings.specs.Keys.{same_key}
use Rattle.gql_findings.proofs.Counting.{place_added, there_are_served, is_there, blank}
use Rattle.gql_findings.proofs.served.served.Goals as goal

pub loop-place-preserved : goal.loop-place-preserved
loop-place-preserved c =
    let keys = c.args.keys.now in
    let key = get_or keys c.loop-place.place blank in
    place_added (is_there c.args.operations.now c.args.affected.now) keys c.loop-place.place blank c.loop-place.places.items c.push_if.new.places.items c.is_served-is_wanted.result c.loop-place-test.true c.loop-place.invariant
    (c.is_served-is_wanted.ensures ∙ ap (λ b. b && not (contains same_key c.in_ok-affected_set.affected_set key)) (c.in_ok-operation_set.ensures key)
    ∙ ap (λ b. list_any (same_key key) c.args.operations.now && not b) (c.in_ok-affected_set.ensures key))
    c.in_ok-push_if.ensures

pub returns : goal.returns
returns c = c.loop-place.invariant ∙ ap (places_from 0 (is_there c.args.operations.now c.args.affected.now)) (take_all c.loop-place.place c.args.keys.now (omega arith))
    ∙ there_are_served c.args.keys.now c.args.operations.now c.args.affected.now
