use Rattle.std.proofs.Common.{◌<◌, length, map, refl, arith}
use Rattle.std.proofs.lemmas.List.{length-map}
use Rattle.gql_cycles.specs.declared.walk.State.TheVariants.{New, OnPath, Closed}
use Rattle.gql_cycles.proofs.Steps.{enter_meets, join_meets, closed_meets, read_state, reaches, called}
use Rattle.gql_cycles.proofs.walk.meet.Goals as goal

pub returns-in_ok-enter-in-New : goal.returns-in_ok-enter-in-New
returns-in_ok-enter-in-New c =
    let fits : c.args.end < length (map (λ v. v.items) c.args.edges.now) = omega (arith, c.requires.end, length-map c.args.edges.now (λ v. v.items)) in
    enter_meets (map (λ v. v.items) c.args.edges.now) c.args.walk.now c.enter.new.walk c.requires.walk c.args.end fits
    (read_state c.args.walk.now.states.items c.args.end _ New (omega (arith, fits, c.requires.walk.states_are)) c.index.ensures c.in-New.is)
    (reaches (map (λ v. v.items) c.args.edges.now) c.args.walk.now c.enter.new.walk c.requires.walk c.args.at c.args.end c.requires.at c.requires.edge)
    c.in_ok-enter-in-New.ensures.states c.in_ok-enter-in-New.ensures.next_edges c.in_ok-enter-in-New.ensures.path c.in_ok-enter-in-New.ensures.bounds c.in_ok-enter-in-New.ensures.calls
    c.args.at (called (map (λ v. v.items) c.args.edges.now) c.args.walk.now c.args.at c.requires.walk c.requires.at)

pub returns-in-OnPath : goal.returns-in-OnPath
returns-in-OnPath c =
    let fits : c.args.end < length (map (λ v. v.items) c.args.edges.now) = omega (arith, c.requires.end, length-map c.args.edges.now (λ v. v.items)) in
    join_meets (map (λ v. v.items) c.args.edges.now) c.args.walk.now (record c.args.walk.now { bounds = c.keep_up_to.new.bounds }) c.requires.walk c.args.at c.args.end c.in-OnPath.position c.requires.at c.requires.edge
    (read_state c.args.walk.now.states.items c.args.end _ (OnPath c.in-OnPath.position) (omega (arith, fits, c.requires.walk.states_are)) c.index.ensures c.in-OnPath.is)
    refl refl refl refl c.keep_up_to.ensures

pub returns-in-Closed : goal.returns-in-Closed
returns-in-Closed c =
    let fits : c.args.end < length (map (λ v. v.items) c.args.edges.now) = omega (arith, c.requires.end, length-map c.args.edges.now (λ v. v.items)) in
    closed_meets (map (λ v. v.items) c.args.edges.now) c.args.walk.now c.args.at c.args.end c.in-Closed.field-0 c.requires.walk c.requires.at
    (read_state c.args.walk.now.states.items c.args.end _ (Closed c.in-Closed.field-0) (omega (arith, fits, c.requires.walk.states_are)) c.index.ensures c.in-Closed.is)
