use Rattle.std.proofs.Common.{◌++◌, ◌∙◌, ap, flat_map}
use Rattle.gql_rules.specs.LocalFaults.{directives_faults, variable_faults, set_visit}
use Rattle.gql_rules.specs.Locations.{location_of}
use Rattle.gql_rules.proofs.OperationParts.{visited}
use Rattle.gql_rules.proofs.operations.check.Goals as goal

pub returns-clause-found : goal.returns-clause-found
returns-clause-found g c =
    let F = g.W.World.facts c.args.world.now in
    let owner = c.args.owner.now in
    let asked = c.in_ok-root.ensures.facts in
    let applied = c.in_ok-check-3.ensures.facts ∙ asked in
    let defined = c.in_ok-check_variables.ensures.facts ∙ applied in
    let entered = c.in_ok-parent.ensures.facts ∙ defined in
    visited F owner c.args.operation.now _ _ _ _ _ _ _ c.args.faults.now.items _ _ _ _ _
    c.in_ok-root.ensures.answer asked applied defined entered
    c.in_ok-check.ensures
    c.in_ok-check-2.ensures
    (c.in_ok-check-3.ensures.found
    ∙ ap (λ l. c.check-2.new.faults.items ++ directives_faults (g.W.World.facts c.fact.new.self) owner l c.as_slice-applied.result.now) c.location_of-at.ensures
    ∙ ap (λ ds. c.check-2.new.faults.items ++ directives_faults (g.W.World.facts c.fact.new.self) owner (location_of c.args.operation.now.kind) ds) c.as_slice-applied.ensures)
    (c.in_ok-check_variables.ensures.found
    ∙ ap (λ vs. c.check-3.new.faults.items ++ flat_map (variable_faults (g.W.World.facts c.check-3.new.world) owner) vs) c.as_slice.ensures)
    c.in_ok-selected.ensures
    c.in_ok-parent.ensures.parent
    (c.in_ok-visit_set.ensures.found
    ∙ ap (λ xs. c.check_variables.new.faults.items ++ set_visit (g.W.World.facts c.composite.new.world) owner c.in_ok-parent.parent xs) c.as_slice-2.ensures)
