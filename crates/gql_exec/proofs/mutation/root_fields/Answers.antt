use Rattle.std.proofs.Common.{◌≡◌, ◌<◌, ◌++◌, List, Vec, Global, length, get_or, take, sym, ap, subst, ◌∙◌, arith, append_assoc}
use Rattle.std.proofs.lemmas.List.{take_all}
use Rattle.gql_steps.specs.Objects.{basis}
use Rattle.gql_steps.specs.Parts.{all, numbered}
use Rattle.gql_steps.specs.Plans.{types_of}
use Rattle.gql_exec.specs.RootParts.{effect_in, effects_in, root_field, root_fields, root_of, seen}
use Rattle.gql_steps.specs.States.{Done, path_of}
use Rattle.gql_steps.specs.Tables.{InTable, Pair, StandFor, fields_at}
use Rattle.gql_steps.specs.declared.planning.FieldPlan.{FieldPlan}
use Rattle.gql_steps.specs.declared.table.Slot.{Slot}
use Rattle.gql_steps.proofs.Doing.{loop-more, loop-stops, stopped}
use Rattle.gql_steps.proofs.Entries.{at_slot, fields_still, no_shorter}
use Rattle.gql_steps.proofs.Executing.{as_many, keeps_twice, stand_at}
use Rattle.gql_exec.proofs.Mutating.{effects_more}
use Rattle.gql_exec.proofs.mutation.root_fields.Goals as goal

pub root_field-requires-clause-right : goal.root_field-requires-clause-right
root_field-requires-clause-right c = c.loop-i.invariant.keeps.right

pub root_field-requires-clause-columns : goal.root_field-requires-clause-columns
root_field-requires-clause-columns c = c.loop-i.invariant.columns

pub root_field-requires-clause-at : goal.root_field-requires-clause-at
root_field-requires-clause-at c =
    let inv = c.loop-i.invariant in
    let slot : Slot = record { entry = c.args.entry; field = c.loop-i.i } in
    let within : InTable c.loop-i.table slot = record {
      entry = omega (arith, c.requires.within, no_shorter c.args.table.now c.loop-i.table inv.keeps.grows);
      field = subst (λ fs. c.loop-i.i < length fs) (sym (fields_still c.args.table.now c.loop-i.table c.args.entry inv.keeps.grows c.requires.within)) (omega (arith, inv.count, c.loop-i-test.true));
    } in
    at_slot c.loop-i.table slot c.index-field.result.now within
    (subst (λ fs. c.index-field.result.now ≡ get_or fs c.loop-i.i c.index-field.result.now) (sym (fields_still c.args.table.now c.loop-i.table c.args.entry inv.keeps.grows c.requires.within))
    (subst (λ fs. c.index-field.result.now ≡ get_or fs c.loop-i.i c.index-field.result.now) (ap (λ (v : Vec FieldPlan Global). v.items) c.get-fields.ensures ∙ c.in_ok-shared.ensures) c.index-field.ensures))

pub returns-in_err-field_ended-clause-does : goal.returns-in_err-field_ended-clause-does
returns-in_err-field_ended-clause-does c = λ qs h.
    let inv = c.loop-i.invariant in
    let g = basis c.args.setting.now in
    let at = stand_at g (fields_at c.args.table.now.entries.items c.args.entry) qs c.loop-i.i c.index-field.result.now h (omega (arith, inv.count, c.loop-i-test.true))
    (subst (λ fs. c.index-field.result.now ≡ get_or fs c.loop-i.i c.index-field.result.now) (ap (λ (v : Vec FieldPlan Global). v.items) c.get-fields.ensures ∙ c.in_ok-shared.ensures) c.index-field.ensures) in
    stopped (root_fields (types_of g) (root_of g c.args.root) qs (path_of c.args.run.now)) c.from_residual-in_err-field_ended.result c.in_err-field_ended.field-0.0
    c.args.run.now c.root_field.new.run c.from_residual-in_err-field_ended.ensures.1
    (loop-stops (root_field (types_of g) (root_of g c.args.root)) qs c.loop-i.i at.pair c.args.run.now c.loop-i.run c.root_field.new.run
    at.within at.here c.loop-i.ended c.in_err-field_ended.field-0.0 (inv.done qs h) (c.in_err-field_ended.ensures.does at.pair at.stands))

pub loop-i-preserved : goal.loop-i-preserved
loop-i-preserved c =
    let inv = c.loop-i.invariant in
    let g = basis c.args.setting.now in
    let r = root_of g c.args.root in
    let there = λ (qs : List Pair) (h : StandFor g (fields_at c.args.table.now.entries.items c.args.entry) qs).
    stand_at g (fields_at c.args.table.now.entries.items c.args.entry) qs c.loop-i.i c.index-field.result.now h (omega (arith, inv.count, c.loop-i-test.true))
    (subst (λ fs. c.index-field.result.now ≡ get_or fs c.loop-i.i c.index-field.result.now) (ap (λ (v : Vec FieldPlan Global). v.items) c.get-fields.ensures ∙ c.in_ok-shared.ensures) c.index-field.ensures) in
    record {
      keeps = keeps_twice g c.args.table.now c.loop-i.table c.root_field.new.table c.args.run.now c.loop-i.run c.root_field.new.run inv.keeps c.in_ok-field_ended.ensures.keeps;
      count = inv.count;
      columns = c.in_ok-field_ended.ensures.columns;
      done = λ qs h.
          let at = there qs h in
          rw c.and-ended.ensures (loop-more (root_field (types_of g) r) qs c.loop-i.i at.pair c.args.run.now c.loop-i.run c.root_field.new.run
          at.within at.here c.loop-i.ended c.in_ok-field_ended.field_ended (inv.done qs h) (c.in_ok-field_ended.ensures.does at.pair at.stands));
      effects = λ qs h.
          let at = there qs h in
          c.in_ok-field_ended.ensures.effects at.pair at.stands ∙ ap (λ es. es ++ effect_in r at.pair) (inv.effects qs h)
          ∙ append_assoc (seen c.args.effects.now.items) (effects_in r (take c.loop-i.i qs)) (effect_in r at.pair)
          ∙ ap (λ es. seen c.args.effects.now.items ++ es) (sym (effects_more r qs c.loop-i.i at.pair at.within at.here));
    }

pub returns-clause-does : goal.returns-clause-does
returns-clause-does c = λ qs h.
    let inv = c.loop-i.invariant in
    let g = basis c.args.setting.now in
    let n = as_many g (fields_at c.args.table.now.entries.items c.args.entry) qs h in
    let end : take c.loop-i.i qs ≡ qs = take_all c.loop-i.i qs (omega (arith, inv.count, n, c.loop-i-test.false)) in
    subst (λ rs. Done (all (numbered (root_field (types_of g) (root_of g c.args.root) (path_of c.args.run.now)) 0 rs)) c.loop-i.ended c.args.run.now c.loop-i.run)
    end (inv.done qs h)

pub returns-clause-effects : goal.returns-clause-effects
returns-clause-effects c = λ qs h.
    let inv = c.loop-i.invariant in
    let g = basis c.args.setting.now in
    let n = as_many g (fields_at c.args.table.now.entries.items c.args.entry) qs h in
    let end : take c.loop-i.i qs ≡ qs = take_all c.loop-i.i qs (omega (arith, inv.count, n, c.loop-i-test.false)) in
    inv.effects qs h ∙ ap (λ rs. seen c.args.effects.now.items ++ effects_in (root_of g c.args.root) rs) end
