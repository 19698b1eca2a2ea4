use Rattle.std.proofs.Common.{◌≡◌, ◌<◌, length, get_or, codes, Vec, Global, subst, sym, ap, ◌∙◌, arith}
use Rattle.gql_deep.specs.Frames.{FitsBegun, field_parts, object_in}
use Rattle.gql_steps.specs.Objects.{basis}
use Rattle.gql_steps.specs.Plans.{types_of}
use Rattle.gql_steps.specs.States.{path_of}
use Rattle.gql_steps.specs.Tables.{InTable, fields_at}
use Rattle.gql_steps.specs.ValueParts.{field_part}
use Rattle.gql_steps.specs.declared.planning.FieldPlan.{FieldPlan}
use Rattle.gql_steps.specs.declared.table.Slot.{Slot}
use Rattle.gql_steps.proofs.Entries.{at_slot, fields_still, grows_twice, no_shorter}
use Rattle.gql_steps.proofs.Executing.{as_many, stand_at}
use Rattle.gql_deep.proofs.Midway.{midway_ends, numbered_length}
use Rattle.gql_deep.proofs.Running.{begins_ended, begins_within, field_more, field_pauses, field_stops, turns_stopped}
use Rattle.gql_deep.proofs.fields.run_fields.Goals as goal

pub begin_field-requires : goal.begin_field-requires
begin_field-requires c =
    let g = basis c.args.setting.now in
    let inv = c.loop-i.invariant in
    let f = c.args.frame in
    let in_entry : c.loop-i.i < length (fields_at c.args.table.now.entries.items f.entry) = omega (arith, inv.count, c.loop-i-test.true) in
    let is = (subst (λ fs. c.index.result.now ≡ get_or fs c.loop-i.i c.index.result.now) (ap (λ (v : Vec FieldPlan Global). v.items) c.get-fields.ensures ∙ c.in_ok-shared.ensures) c.index.ensures) in
    let slot : Slot = record { entry = f.entry; field = c.loop-i.i } in
    let still = sym (fields_still c.args.table.now c.loop-i.table f.entry inv.grows c.requires.within) in
    let within : InTable c.loop-i.table slot = record {
      entry = omega (arith, c.requires.within, no_shorter c.args.table.now c.loop-i.table inv.grows);
      field = subst (λ fs. c.loop-i.i < length fs) still in_entry;
    } in
    record { right = inv.right; at = at_slot c.loop-i.table slot c.index.result.now within (subst (λ fs. c.index.result.now ≡ get_or fs c.loop-i.i c.index.result.now) still is) }

pub loop-i-preserved : goal.loop-i-preserved
loop-i-preserved c =
    let g = basis c.args.setting.now in
    let inv = c.loop-i.invariant in
    let f = c.args.frame in
    let in_entry : c.loop-i.i < length (fields_at c.args.table.now.entries.items f.entry) = omega (arith, inv.count, c.loop-i-test.true) in
    let is = (subst (λ fs. c.index.result.now ≡ get_or fs c.loop-i.i c.index.result.now) (ap (λ (v : Vec FieldPlan Global). v.items) c.get-fields.ensures ∙ c.in_ok-shared.ensures) c.index.ensures) in
    record {
      right = c.in_ok-field_ended.ensures.keeps.right;
      grows = grows_twice c.args.table.now c.loop-i.table c.begin_field.new.table inv.grows c.in_ok-field_ended.ensures.keeps.grows;
      left = omega (arith, inv.left, c.in_ok-field_ended.ensures.keeps.left);
      count = inv.count;
      done = λ whole start at.
          let a = stand_at g (fields_at c.args.table.now.entries.items f.entry) at.pairs c.loop-i.i c.index.result.now at.stand in_entry is in
          rw c.and-ended.ensures (field_more g c.args.table.now f whole start c.args.run.now c.loop-i.run at c.loop-i.i c.loop-i.ended (inv.done whole start at) c.index.result.now a
          c.in-Ended.field_ended c.begin_field.new.run
          (begins_ended g c.begin_field.new.table (field_part (types_of g) (object_in f.object) (path_of c.loop-i.run) c.loop-i.i a.pair) c.loop-i.run c.begin_field.new.run _ c.in-Ended.field_ended c.in-Ended.is
          (c.in_ok-field_ended.ensures.does a.pair a.stands)));
    }

pub returns-in-Within-clause-does : goal.returns-in-Within-clause-does
returns-in-Within-clause-does c = λ whole start at.
    let g = basis c.args.setting.now in
    let inv = c.loop-i.invariant in
    let f = c.args.frame in
    let in_entry : c.loop-i.i < length (fields_at c.args.table.now.entries.items f.entry) = omega (arith, inv.count, c.loop-i-test.true) in
    let is = (subst (λ fs. c.index.result.now ≡ get_or fs c.loop-i.i c.index.result.now) (ap (λ (v : Vec FieldPlan Global). v.items) c.get-fields.ensures ∙ c.in_ok-shared.ensures) c.index.ensures) in
    let a = stand_at g (fields_at c.args.table.now.entries.items f.entry) at.pairs c.loop-i.i c.index.result.now at.stand in_entry is in
    field_pauses g c.args.table.now f whole start c.args.run.now c.loop-i.run at c.loop-i.i c.loop-i.ended (inv.done whole start at) c.index.result.now a
    c.begin_field.new.table c.in-Within.around c.in-Within.inner c.begin_field.new.run (grows_twice c.args.table.now c.loop-i.table c.begin_field.new.table inv.grows c.in_ok-field_ended.ensures.keeps.grows)
    (begins_within g c.begin_field.new.table (field_part (types_of g) (object_in f.object) (path_of c.loop-i.run) c.loop-i.i a.pair) c.loop-i.run c.begin_field.new.run _ c.in-Within.around c.in-Within.inner c.in-Within.is
    (c.in_ok-field_ended.ensures.does a.pair a.stands))

pub returns-in_err-field_ended-clause-does : goal.returns-in_err-field_ended-clause-does
returns-in_err-field_ended-clause-does c = λ whole start at.
    let g = basis c.args.setting.now in
    let inv = c.loop-i.invariant in
    let f = c.args.frame in
    let in_entry : c.loop-i.i < length (fields_at c.args.table.now.entries.items f.entry) = omega (arith, inv.count, c.loop-i-test.true) in
    let is = (subst (λ fs. c.index.result.now ≡ get_or fs c.loop-i.i c.index.result.now) (ap (λ (v : Vec FieldPlan Global). v.items) c.get-fields.ensures ∙ c.in_ok-shared.ensures) c.index.ensures) in
    let a = stand_at g (fields_at c.args.table.now.entries.items f.entry) at.pairs c.loop-i.i c.index.result.now at.stand in_entry is in
    turns_stopped g c.begin_field.new.table whole start c.from_residual-in_err-field_ended.result c.in_err-field_ended.field-0.0 c.begin_field.new.run c.from_residual-in_err-field_ended.ensures.1
    (λ heavy. field_stops g c.args.table.now f whole start c.args.run.now c.loop-i.run at c.loop-i.i c.loop-i.ended (inv.done whole start at) c.index.result.now a
    (c.in_err-field_ended.ensures.does a.pair a.stands heavy))

pub returns-clause-does : goal.returns-clause-does
returns-clause-does c = λ whole start at.
    let g = basis c.args.setting.now in
    let inv = c.loop-i.invariant in
    let f = c.args.frame in
    midway_ends (codes "{") (codes "}") (field_parts g f at.pairs start) c.loop-i.i c.loop-i.ended whole start c.loop-i.run (inv.done whole start at)
    (let n = as_many g (fields_at c.args.table.now.entries.items f.entry) at.pairs at.stand in
    omega (arith, inv.count, n, c.loop-i-test.false, numbered_length (field_part (types_of g) (object_in f.object) (path_of start)) 0 at.pairs))
    c.write_byte.new.run c.in_ok-write_byte.ensures.follows

pub returns-in-Within-clause-keeps : goal.returns-in-Within-clause-keeps
returns-in-Within-clause-keeps c =
    let inv = c.loop-i.invariant in
    let k = c.in_ok-field_ended.ensures.keeps in
    let grows = grows_twice c.args.table.now c.loop-i.table c.begin_field.new.table inv.grows k.grows in
    record {
      right = k.right;
      grows = grows;
      left = omega (arith, inv.left, k.left);
      fits = (omega (arith, c.requires.within, no_shorter c.args.table.now c.begin_field.new.table grows), subst (FitsBegun c.begin_field.new.table) c.in-Within.is k.fits);
    }

pub returns-clause-keeps : goal.returns-clause-keeps
returns-clause-keeps c =
    let inv = c.loop-i.invariant in
    record { right = inv.right; grows = inv.grows; left = omega (arith, inv.left, c.in_ok-write_byte.ensures.follows.left); fits = tt }
