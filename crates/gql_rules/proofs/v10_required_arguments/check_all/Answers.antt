use Rattle.std.proofs.Common.{◌++◌, ◌∷◌, ◌&&◌, [], ◌∙◌, ap, sym, arith, filter, if◌then◌else◌}
use Rattle.std.proofs.lemmas.Grind.{common_steps}
use Rattle.std.proofs.lemmas.Option.{get_or_from_slice_get, slice_get_within}
use Rattle.gql_ast.specs.declared.rule.Rule.TheVariants as rule
use Rattle.gql_types.proofs.Filtering.{passes}
use Rattle.gql_rules.specs.Answers.{is_required}
use Rattle.gql_rules.specs.Faults.{fault_at}
use Rattle.gql_rules.specs.V10RequiredArguments.{fault_about}
use Rattle.gql_rules.proofs.Requiring.{of_required, required_fact, same_argument}
use Rattle.gql_rules.proofs.Steps.{flat_map_step}
use Rattle.gql_rules.proofs.v10_required_arguments.check_all.Goals as goal

pub check_input-requires : goal.check_input-requires
check_input-requires c =
    let x = c.required_at-input.result.now in
    sym (same_argument x) ∙ passes required_fact c.args.defined.now c.loop-index.index x c.required_at-input.ensures

pub loop-index-preserved : goal.loop-index-preserved
loop-index-preserved c =
    let x = c.required_at-input.result.now in
    let xs = filter required_fact c.args.defined.now in
    flat_map_step (fault_about c.args.owner.now c.args.at c.args.given.now) xs c.loop-index.index x
    c.args.faults.now.items _ _ (slice_get_within xs c.loop-index.index x c.required_at-input.ensures)
    (get_or_from_slice_get xs c.loop-index.index x x c.required_at-input.ensures) c.loop-index.invariant
    (c.in_ok-check_input.ensures ∙ ap (λ b. c.loop-index.faults.items ++ (if is_required x && b then fault_at c.args.owner.now rule.V10 x.name c.args.at ∷ [] else []))
    (c.in_ok-nulls.ensures x.name))

pub returns : goal.returns
returns c = grind (
  arith,
  common_steps,
  c.loop-index.invariant,
  of_required c.args.owner.now c.args.at c.args.given.now c.args.defined.now,
)
