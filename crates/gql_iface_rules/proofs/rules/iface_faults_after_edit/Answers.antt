use Rattle.std.proofs.Common.{◌≡◌, subst, sym}
use Rattle.std.specs.Prelude.{if◌then◌else◌}
use Rattle.gql_types.specs.Edits.{KeepsOthers}
use Rattle.gql_iface_rules.proofs.AfterEdit.{are_enough}
use Rattle.gql_iface_rules.proofs.rules.iface_faults_after_edit.Goals as goal

pub returns : goal.returns
returns c = λ keeps undone directives quiet.
    let before = c.args.before.now in
    let s = c.args.schema.now in
    let types = c.args.types.now in
    let all = c.types-all.result.now in
    c.in_ok-found.ensures (are_enough c.args.edited.now before s keeps types all c.requires c.types-all.ensures
    (record { interfaces = c.enough.result; others_known = c.are_others_known.result; skips_inputs = c.both.result; defaults = c.enough-2.result; directives = c.enough-3.result })
    c.args.were c.keeps_names-keeps.result c.in_ok-keeps_inputs.keeps_inputs c.args.has_same_directives
    c.keeps_names-keeps.ensures.quiet
    (λ k. c.keeps_names-keeps.ensures.same k (subst (λ names. KeepsOthers names before s) (sym c.as_slice.ensures) keeps)
    (subst (λ names. KeepsOthers names s before) (sym c.as_slice.ensures) undone))
    c.in_ok-keeps_inputs.ensures directives quiet c.enough.ensures c.are_others_known.ensures c.both.ensures c.enough-2.ensures
    (subst (λ b. c.enough-3.result.now ≡ (if b then types else all)) c.both-keeps_directives.ensures c.enough-3.ensures))
