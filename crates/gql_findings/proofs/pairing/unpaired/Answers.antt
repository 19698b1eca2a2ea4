use Rattle.std.proofs.Common.{◌∙◌, refl, ap, get_or, take, arith}
use Rattle.std.specs.HashMap.{get}
use Rattle.std.specs.Prelude.{count_by, unwrap_or, not}
use Rattle.std.proofs.lemmas.List.{take_all}
use Rattle.gql_findings.specs.Comparing.{places_from}
use Rattle.gql_findings.specs.Keys.{same_key}
use Rattle.gql_findings.proofs.Counting.{left_more, none_left, place_added, alone_are_unpaired, is_alone, blank}
use Rattle.gql_findings.proofs.pairing.unpaired.Goals as goal

pub loop-place-preserved : goal.loop-place-preserved
loop-place-preserved c =
    let keys = c.args.keys.now in
    let others = c.args.others.now in
    let i = c.loop-place.place in
    let key = get_or keys i blank in
    record {
      left = λ q. left_more q key keys i blank c.loop-place-test.true refl (count_by (same_key q) others) (unwrap_or (get same_key c.loop-place.left q) 0) (unwrap_or (get same_key c.take_one.new.left q) 0)
          (c.loop-place.invariant.left q) (same_key key q) refl (c.in_ok-is_paired.ensures.left q);
      places = place_added (is_alone keys others) keys i blank c.loop-place.places.items c.push_if.new.places.items (not c.in_ok-is_paired.is_paired) c.loop-place-test.true c.loop-place.invariant.places
          (none_left (count_by (same_key key) others) (count_by (same_key key) (take i keys)) (unwrap_or (get same_key c.loop-place.left key) 0) c.in_ok-is_paired.is_paired (c.loop-place.invariant.left key) c.in_ok-is_paired.ensures.was)
          c.in_ok-push_if.ensures;
    }

pub returns : goal.returns
returns c = c.loop-place.invariant.places ∙ ap (places_from 0 (is_alone c.args.keys.now c.args.others.now)) (take_all c.loop-place.place c.args.keys.now (omega arith)) ∙ alone_are_unpaired c.args.keys.now c.args.others.now
