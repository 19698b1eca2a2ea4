use Rattle.std.proofs.Common.{◌<◌, length, map, arith}
use Rattle.std.proofs.lemmas.List.{length-map}
use Rattle.gql_cycles.specs.declared.walk.State.TheVariants.{New}
use Rattle.gql_cycles.proofs.Steps.{enter_answer, read_state, alone}
use Rattle.gql_cycles.proofs.walk.begin.Goals as goal

pub returns-in_ok-enter-in-New-clause-walk : goal.returns-in_ok-enter-in-New-clause-walk
returns-in_ok-enter-in-New-clause-walk c =
    let fits : c.args.root < length (map (λ v. v.items) c.args.edges.now) = omega (arith, c.requires.root, length-map c.args.edges.now (λ v. v.items)) in
    let size = alone (map (λ v. v.items) c.args.edges.now) c.args.walk.now c.requires.walk c.requires.empty in
    enter_answer (map (λ v. v.items) c.args.edges.now) c.args.walk.now c.enter.new.walk c.requires.walk c.args.root fits
    (read_state c.args.walk.now.states.items c.args.root _ New (omega (arith, fits, c.requires.walk.states_are)) c.index.ensures c.in-New.is)
    (λ i lt. absurd (omega (arith, lt, size)))
    c.in_ok-enter-in-New.ensures.states c.in_ok-enter-in-New.ensures.next_edges c.in_ok-enter-in-New.ensures.path c.in_ok-enter-in-New.ensures.bounds c.in_ok-enter-in-New.ensures.calls
