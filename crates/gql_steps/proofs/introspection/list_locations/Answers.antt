use Rattle.std.proofs.Common.{map, subst, arith}
use Rattle.std.proofs.lemmas.List.{length-map, take_all}
use Rattle.gql_intro.specs.Introspection.{location_name}
use Rattle.gql_steps.specs.Parts.{all, numbered}
use Rattle.gql_steps.specs.States.{Done}
use Rattle.gql_steps.specs.ValueParts.{name_part, names_part}
use Rattle.gql_steps.proofs.Doing.{loop-more, loop-stops, stopped}
use Rattle.gql_steps.proofs.Listing.{at_map}
use Rattle.gql_steps.proofs.introspection.list_locations.Goals as goal

pub returns-in_err-write_location : goal.returns-in_err-write_location
returns-in_err-write_location c =
    let inv = c.loop-i.invariant in
    let names = map location_name c.args.locations.now in
    let n = length-map c.args.locations.now location_name in
    stopped (names_part names) c.from_residual.result c.in_err-write_location.field-0.0 c.args.run.now c.write_location.new.run c.from_residual.ensures.1
    (loop-stops (λ p. name_part) names c.loop-i.i (location_name c.location_at-location.result) c.args.run.now c.loop-i.run c.write_location.new.run
    (omega (arith, inv.count, n, c.loop-i-test.true)) (at_map location_name c.args.locations.now c.loop-i.i c.location_at-location.result (omega (arith, inv.count, c.loop-i-test.true)) c.location_at-location.ensures)
    c.loop-i.ended c.in_err-write_location.field-0.0 inv.done c.in_err-write_location.ensures)

pub loop-i-preserved : goal.loop-i-preserved
loop-i-preserved c =
    let inv = c.loop-i.invariant in
    let names = map location_name c.args.locations.now in
    let n = length-map c.args.locations.now location_name in
    record {
      count = inv.count;
      done = rw c.and-ended.ensures (loop-more (λ p. name_part) names c.loop-i.i (location_name c.location_at-location.result) c.args.run.now c.loop-i.run c.write_location.new.run
          (omega (arith, inv.count, n, c.loop-i-test.true)) (at_map location_name c.args.locations.now c.loop-i.i c.location_at-location.result (omega (arith, inv.count, c.loop-i-test.true)) c.location_at-location.ensures)
          c.loop-i.ended c.in_ok-write_location.field-0 inv.done c.in_ok-write_location.ensures);
    }

pub returns : goal.returns
returns c =
    let inv = c.loop-i.invariant in
    let names = map location_name c.args.locations.now in
    let n = length-map c.args.locations.now location_name in
    subst (λ ns. Done (all (numbered name_part 0 ns)) c.loop-i.ended c.args.run.now c.loop-i.run)
    (take_all c.loop-i.i names (omega (arith, inv.count, n, c.loop-i-test.false))) inv.done
