use Rattle.std.proofs.Common.{◌≡◌, ◌++◌, ap, sym, subst, ◌∙◌, map, flat_map, List, ℕ}
use Rattle.gql_cycles.specs.Names.{Steps, Leads}
use Rattle.gql_iface_rules.specs.Borrowed.{steps}
use Rattle.gql_iface_rules.specs.S26DirectiveCycles.{IsFault, fault_at_name, at_sign, definition_rows}
use Rattle.gql_iface_rules.proofs.AtNames.{fault_at_sign}
use Rattle.gql_iface_rules.proofs.Members.{added}
use Rattle.gql_iface_rules.proofs.s26_directive_cycles.check_all.Goals as goal

pub returns : goal.returns
returns c =
    let s = c.args.schema.now in
    let old = c.args.faults.now.items in
    let rows : map steps c.as_slice.result.now ≡ definition_rows s = ap (map steps) c.as_slice.ensures.value ∙ c.in_ok-owned.ensures in
    added (fault_at_name s) (map (λ n. n.now) c.in_ok-names.names.items) old c.add_at_names.new.faults.items (IsFault s)
    (c.in_ok-add_at_names.ensures ∙ ap (λ xs. old ++ flat_map (fault_at_name s) (map (λ n. n.now) xs)) c.as_slice-2.ensures.value)
    (λ x a h g.
    let d = fault_at_sign s x a g in
    (d.0, subst (λ (n : List ℕ). Leads (definition_rows s) n n) d.1 (subst (λ (r : List Steps). Leads r x x) rows (c.in_ok-names.ensures.sound x h)), d.2))
    (λ a p. (at_sign p.0, c.in_ok-names.ensures.complete (at_sign p.0) (subst (λ (r : List Steps). Leads r (at_sign p.0) (at_sign p.0)) (sym rows) p.1), p.2))
