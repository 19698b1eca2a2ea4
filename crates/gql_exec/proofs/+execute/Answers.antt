use Rattle.std.proofs.Common.{◌≡◌, ◌<◌, ◌++◌, ◌∷◌, [], ℕ, List, Some, length, get_or, take, map, codes, false, true≢false, Vec, Global, Bor, option_map, subst, sym, refl, ap, ◌∙◌, rules, arith}
use Rattle.std.specs.Option.{option_copied}
use Rattle.std.proofs.lemmas.List.{take_all}
use Rattle.json.specs.Print.{quoted}
use Rattle.serde_json.specs.Data as json
use Rattle.serde_json.specs.Find.{get}
use Rattle.serde_json.specs.View.{items_of, items_view, view}
use Rattle.gql_steps.specs.JsonText.{json_text}
use Rattle.serde_json.specs.declared.value.Value.{Value}
use Rattle.gql_inputs.specs.InputTypes.{is_non_null, name_in}
use Rattle.gql_types.specs.Schemas.{kind_named}
use Rattle.gql_types.specs.Written.{written, written_named, written_list, written_non_null, listed, named}
use Rattle.gql_steps.specs.Direct.{data_of}
use Rattle.gql_steps.specs.Execution.{plan, PlannedField, among, no_fields, complete, execute, of_kind, on_abstract, on_object, stored}
use Rattle.gql_steps.specs.LeafParts.{leaf_at}
use Rattle.gql_steps.specs.Leaves.{as_enum, as_scalar}
use Rattle.gql_steps.specs.Objects.{basis, object_of}
use Rattle.gql_steps.specs.Parts.{Part, all, numbered, plain, raise, settled}
use Rattle.gql_steps.specs.Plans.{IsPlan, possible_in, types_of, values_in}
use Rattle.gql_steps.specs.Replies.{Path, key}
use Rattle.gql_steps.specs.States.{Done, Follows, path_of}
use Rattle.gql_steps.specs.Tables.{InTable, below_at, fields_at}
use Rattle.gql_steps.specs.Texts.{value_part}
use Rattle.gql_steps.specs.ValueParts.{IsAsked, IsOf, source_part, called_part, content_of_item, content_part, field_part, fields_part, item_part, items_from, items_in, items_part, member_part, placed_part, resolved_in, site_of}
use Rattle.gql_steps.specs.declared.ended.Ended.TheVariants.{Written, Bubbled}
use Rattle.gql_steps.specs.declared.outcome.Step.TheVariants as step
use Rattle.gql_steps.specs.declared.planning.FieldPlan.{FieldPlan}
use Rattle.gql_steps.specs.declared.run.Run.{Run}
use Rattle.gql_steps.specs.declared.site.Site.{Site as FieldSite}
use Rattle.gql_steps.specs.declared.table.Slot.{Slot}
use Rattle.gql_steps.proofs.Completing.{abstract_kind, direct_item, has_items, kind_abstract, kind_enum, kind_object, kind_other, kind_scalar}
use Rattle.gql_steps.proofs.Doing.{at-field, caught-cut, caught-written, counted-executes, executes-after, loop-more, loop-stops, stepped, stopped, within-done, wrote}
use Rattle.gql_steps.proofs.Entries.{at_slot, below_still, fields_still, grows_same, in_still, no_shorter}
use Rattle.gql_steps.proofs.Executing.{among_is, as_many, as_part, called_stored, keeps_direct, keeps_same, keeps_twice, met_abstract, name_of_items, on_entry, placed_nullable, source_stored, stand_at}
use Rattle.gql_steps.proofs.Listing.{kept_items}
use Rattle.gql_exec.proofs.Recursing.{at_array, at_items, at_list, at_named}
use Rattle.gql_steps.proofs.Resolving.{is_array}
use Rattle.gql_exec.proofs.+execute.Goals as goal

pub values::complete-returns-then-is_null-clause-keeps : goal.values::complete-returns-then-is_null-clause-keeps
values::complete-returns-then-is_null-clause-keeps t c = keeps_same (basis c.args.setting.now) c.args.table.now (value_part (complete (site_of (types_of (basis c.args.setting.now)) c.args.site.place (plan (λ n. no_fields))) (written c.args.of_type.now) (path_of c.args.run.now) json.null))
    c.complete_null.result c.args.run.now c.complete_null.new.run c.requires.right (c.complete_null.ensures (site_of (types_of (basis c.args.setting.now)) c.args.site.place (plan (λ n. no_fields))) refl)

pub lists::complete_items-returns-clause-does : goal.lists::complete_items-returns-clause-does
lists::complete_items-returns-clause-does t c = λ x i.
    let site = site_of (types_of (basis c.args.setting.now)) c.args.site.place x in
    within-done (codes "[") (codes "]") (λ p. items_part (written c.args.item.now) site (items_in c.args.items) p)
    c.args.run.now c.write_byte.new.run c.list_items.new.run c.in_ok-write_byte.ensures.follows c.in_ok-ended.ended c.write_byte-2.new.run (c.in_ok-ended.ensures.does x i) c.in_ok-write_byte-2.ensures.follows

pub lists::complete_list-returns-in-Some-clause-does : goal.lists::complete_list-returns-in-Some-clause-does
lists::complete_list-returns-in-Some-clause-does t c = at_array (basis c.args.setting.now) c.args.site (below_at c.args.table.now c.args.site.slot) c.complete_items.result c.args.run.now c.complete_items.new.run
    (written c.args.item.now) (view c.args.value.now) (map view c.as_slice.result.now)
    (is_array (view c.args.value.now) (items_view c.in-Some.values.now.items) (sym c.as_array.ensures ∙ ap (option_map (λ (v : Bor (Vec Value Global)). items_view v.now.items)) c.in-Some.is)
    ∙ ap (λ vs. json.array (items_view vs)) (sym c.as_slice.ensures.value)) c.complete_items.ensures.does

pub values::complete_present-returns-in-Named-clause-does : goal.values::complete_present-returns-in-Named-clause-does
values::complete_present-returns-in-Named-clause-does t c = at_named (basis c.args.setting.now) c.args.site (below_at c.args.table.now c.args.site.slot) c.complete_named.result c.args.run.now c.complete_named.new.run
    (written c.args.of_type.now) c.as_str.result.now (view c.args.value.now) (ap written c.in-Named.is ∙ written_named c.in-Named.name ∙ ap named (sym c.as_str.ensures)) c.requires.present c.complete_named.ensures.does

pub values::complete_present-returns-in-List-clause-does : goal.values::complete_present-returns-in-List-clause-does
values::complete_present-returns-in-List-clause-does t c = at_list (basis c.args.setting.now) c.args.site (below_at c.args.table.now c.args.site.slot) c.complete_list.result c.args.run.now c.complete_list.new.run
    (written c.args.of_type.now) (written c.get.result.now) (view c.args.value.now) (ap written c.in-List.is ∙ written_list _ c.in-List.item ∙ ap (λ y. listed (written y)) (sym c.get.ensures)) c.requires.present c.complete_list.ensures.does

pub values::complete_present-returns-in-NonNull-clause-does : goal.values::complete_present-returns-in-NonNull-clause-does
values::complete_present-returns-in-NonNull-clause-does t c = λ x i. absurd (true≢false (sym (ap is_non_null (ap written c.in-NonNull.is ∙ written_non_null c.in-NonNull.field-0)) ∙ c.requires.nullable))

pub values::complete_resolved-returns-in-Null-clause-keeps : goal.values::complete_resolved-returns-in-Null-clause-keeps
values::complete_resolved-returns-in-Null-clause-keeps t c = keeps_same (basis c.args.setting.now) c.args.table.now (value_part (complete (site_of (types_of (basis c.args.setting.now)) c.args.site.place (plan (λ n. no_fields))) (written c.args.of_type.now) (path_of c.args.run.now) json.null))
    c.complete_null.result c.args.run.now c.complete_null.new.run c.requires.right (c.complete_null.ensures (site_of (types_of (basis c.args.setting.now)) c.args.site.place (plan (λ n. no_fields))) refl)

pub values::complete_resolved-returns-in-Some-clause-does : goal.values::complete_resolved-returns-in-Some-clause-does
values::complete_resolved-returns-in-Some-clause-does t c =
    let of_items = sym c.item_of.ensures ∙ ap (λ o. option_map written (option_copied o)) c.in-Some.is in
    at_items (basis c.args.setting.now) c.args.site (below_at c.args.table.now c.args.site.slot) c.complete_items.result c.args.run.now c.complete_items.new.run
    (written c.args.of_type.now) (written c.in-Some.item.now) (resolved_in c.args.resolved.now) (items_from [] c.as_slice.result.now) of_items
    (name_of_items (written c.args.of_type.now) (written c.in-Some.item.now) of_items)
    (ap resolved_in c.in-Items.is ∙ ap (λ vs. json.array (items_of (map (λ (v : Bor Value). view v.now) vs))) (sym c.as_slice.ensures.value) ∙ ap (λ ds. json.array (items_of ds)) (sym (kept_items c.as_slice.result.now)))
    c.complete_items.ensures.does

pub values::complete_resolved-returns-in-None-clause-does : goal.values::complete_resolved-returns-in-None-clause-does
values::complete_resolved-returns-in-None-clause-does t c = λ x i. absurd (has_items (written c.args.of_type.now)
    (subst (IsOf (written c.args.of_type.now)) c.in-Items.is c.requires.of) (sym c.item_of.ensures ∙ ap (λ o. option_map written (option_copied o)) c.in-None.is))

pub objects::execute_below-returns-clause-does : goal.objects::execute_below-returns-clause-does
objects::execute_below-returns-clause-does t c = λ name met x i. on_entry (basis c.args.setting.now) c.at.new.self c.in_ok-entry.entry c.args.of_type.now name
    (below_at c.args.table.now c.args.slot) x (object_of c.args.object) c.execute_object.result c.args.run.now c.execute_object.new.run c.in_ok-entry.ensures.has met i c.execute_object.ensures.does

pub fields::execute_content-returns-clause-does : goal.fields::execute_content-returns-clause-does
fields::execute_content-returns-clause-does m c = λ q h.
    let types = types_of (basis c.args.setting.now) in
    let r : Path → Part = λ p. placed_part q.0.of_type (called_part types (object_of c.args.object) q p) in
    let s = c.args.run.now in
    let t : Run = record { out = s.out; errors = s.errors; path = c.push.new.self; left = s.left; raised = false } in
    let u = c.place_field.new.run in
    let v : Run = record { out = u.out; errors = u.errors; path = c.truncate.new.self; left = u.left; raised = s.raised } in
    let x = step.Key c.args.field.now.response_name in
    let pushed : c.push.new.self.items ≡ s.path.items ++ x ∷ [] = search rules in
    let name : q.0.response_name ≡ c.args.field.now.response_name.now = ap (λ (e : PlannedField). e.response_name) h.planned in
    subst (λ n. Done (settled (r (path_of s ++ key n ∷ []))) c.in_ok-ended.ended s v) (sym name)
    (at-field (r (path_of s ++ key c.args.field.now.response_name.now ∷ [])) c.in_ok-ended.ended x s t u v refl refl refl refl
    pushed (subst (λ p. Done (r p) c.in_ok-ended.ended t u) (stepped s.path.items x c.push.new.self.items pushed) (c.in_ok-ended.ensures.does q h)) refl refl refl refl (search rules))

pub fields::execute_field-returns-clause-does : goal.fields::execute_field-returns-clause-does
fields::execute_field-returns-clause-does t c = λ q h.
    let types = types_of (basis c.args.setting.now) in
    let d = object_of c.args.object in
    let label = quoted q.0.response_name ++ codes ":" in
    counted-executes c.args.slot.field (λ p. member_part types d q p) c.execute_content.result c.args.run.now c.write_comma.new.run c.count.new.run c.execute_content.new.run
    c.in_ok-write_comma.ensures.follows c.in_ok-count.ensures.follows
    (executes-after (plain label) (λ p. content_part types d q p) c.execute_content.result c.count.new.run c.write.new.run c.execute_content.new.run
    (wrote label c.count.new.run c.write.new.run (subst (λ l. Follows (plain l) c.count.new.run c.write.new.run) (c.as_slice.ensures.value ∙ h.label) c.in_ok-write.ensures.follows))
    (c.execute_content.ensures.does q h))

pub fields::execute_field-returns-in-Some-clause-does : goal.fields::execute_field-returns-in-Some-clause-does
fields::execute_field-returns-in-Some-clause-does t c = λ q h.
    let types = types_of (basis c.args.setting.now) in
    let d = object_of c.args.object in
    let label = quoted q.0.response_name ++ codes ":" in
    counted-executes c.args.slot.field (λ p. member_part types d q p) c.write_direct.result c.args.run.now c.write_comma.new.run c.count.new.run c.write_direct.new.run
    c.in_ok-write_comma.ensures.follows c.in_ok-count.ensures.follows
    (executes-after (plain label) (λ p. content_part types d q p) c.write_direct.result c.count.new.run c.write.new.run c.write_direct.new.run
    (wrote label c.count.new.run c.write.new.run (subst (λ l. Follows (plain l) c.count.new.run c.write.new.run) (c.as_slice.ensures.value ∙ h.label) c.in_ok-write.ensures.follows))
    (as_part (content_part types d q (path_of c.write.new.run)) (plain (json_text (data_of c.in-Some.found))) c.write_direct.result c.write.new.run c.write_direct.new.run
    (c.in-Some.ensures (basis c.args.setting.now) q (path_of c.write.new.run) h) c.write_direct.ensures))

pub fields::execute_field-returns-in-Some-clause-keeps : goal.fields::execute_field-returns-in-Some-clause-keeps
fields::execute_field-returns-in-Some-clause-keeps t c = keeps_direct (basis c.args.setting.now) c.args.table.now (plain (json_text (data_of c.in-Some.found))) c.write_direct.result
    c.args.run.now c.write.new.run c.write_direct.new.run c.requires.right
    (omega (arith, c.in_ok-write_comma.ensures.follows.left, c.in_ok-count.ensures.follows.left, c.in_ok-write.ensures.follows.left)) c.write_direct.ensures

pub objects::execute_fields-execute_field-requires : goal.objects::execute_fields-execute_field-requires
objects::execute_fields-execute_field-requires t c =
    let inv = c.loop-i.invariant in
    let slot : Slot = record { entry = c.args.entry; field = c.loop-i.i } in
    let within : InTable c.loop-i.table slot = record {
      entry = omega (arith, c.requires.within, no_shorter c.args.table.now c.loop-i.table inv.keeps.grows);
      field = subst (λ fs. c.loop-i.i < length fs) (sym (fields_still c.args.table.now c.loop-i.table c.args.entry inv.keeps.grows c.requires.within)) (omega (arith, inv.count, c.loop-i-test.true));
    } in (
      omega (arith, inv.keeps.left, c.decreases),
      (
        inv.keeps.right,
        (
          at_slot c.loop-i.table slot c.index.result.now within
              (subst (λ fs. c.index.result.now ≡ get_or fs c.loop-i.i c.index.result.now) (sym (fields_still c.args.table.now c.loop-i.table c.args.entry inv.keeps.grows c.requires.within))
              (subst (λ fs. c.index.result.now ≡ get_or fs c.loop-i.i c.index.result.now) (ap (λ (v : Vec FieldPlan Global). v.items) c.get-fields.ensures ∙ c.in_ok-shared.ensures) c.index.ensures)),
          inv.columns,
        ),
      ),
    )

pub objects::execute_fields-returns-in_err-field_ended-clause-does : goal.objects::execute_fields-returns-in_err-field_ended-clause-does
objects::execute_fields-returns-in_err-field_ended-clause-does t c = λ qs h.
    let inv = c.loop-i.invariant in
    let at = stand_at (basis c.args.setting.now) (fields_at c.args.table.now.entries.items c.args.entry) qs c.loop-i.i c.index.result.now h (omega (arith, inv.count, c.loop-i-test.true))
    (subst (λ fs. c.index.result.now ≡ get_or fs c.loop-i.i c.index.result.now) (ap (λ (v : Vec FieldPlan Global). v.items) c.get-fields.ensures ∙ c.in_ok-shared.ensures) c.index.ensures) in
    stopped (fields_part (types_of (basis c.args.setting.now)) (object_of c.args.object) qs (path_of c.args.run.now)) c.from_residual-in_err-field_ended.result c.in_err-field_ended.field-0.0
    c.args.run.now c.execute_field.new.run c.from_residual-in_err-field_ended.ensures.1
    (loop-stops (field_part (types_of (basis c.args.setting.now)) (object_of c.args.object)) qs c.loop-i.i at.pair c.args.run.now c.loop-i.run c.execute_field.new.run
    at.within at.here c.loop-i.ended c.in_err-field_ended.field-0.0 (inv.done qs h) (c.in_err-field_ended.ensures.does at.pair at.stands))

pub objects::execute_fields-loop-i-preserved : goal.objects::execute_fields-loop-i-preserved
objects::execute_fields-loop-i-preserved t c =
    let inv = c.loop-i.invariant in
    record {
      keeps = keeps_twice (basis c.args.setting.now) c.args.table.now c.loop-i.table c.execute_field.new.table c.args.run.now c.loop-i.run c.execute_field.new.run inv.keeps c.in_ok-field_ended.ensures.keeps;
      count = inv.count;
      columns = c.in_ok-field_ended.ensures.columns;
      done = λ qs h.
          let at = stand_at (basis c.args.setting.now) (fields_at c.args.table.now.entries.items c.args.entry) qs c.loop-i.i c.index.result.now h (omega (arith, inv.count, c.loop-i-test.true))
          (subst (λ fs. c.index.result.now ≡ get_or fs c.loop-i.i c.index.result.now) (ap (λ (v : Vec FieldPlan Global). v.items) c.get-fields.ensures ∙ c.in_ok-shared.ensures) c.index.ensures) in
          rw c.and-ended.ensures (loop-more (field_part (types_of (basis c.args.setting.now)) (object_of c.args.object)) qs c.loop-i.i at.pair c.args.run.now c.loop-i.run c.execute_field.new.run
          at.within at.here c.loop-i.ended c.in_ok-field_ended.field_ended (inv.done qs h) (c.in_ok-field_ended.ensures.does at.pair at.stands));
    }

pub objects::execute_fields-returns-clause-does : goal.objects::execute_fields-returns-clause-does
objects::execute_fields-returns-clause-does t c = λ qs h.
    let inv = c.loop-i.invariant in
    let n = as_many (basis c.args.setting.now) (fields_at c.args.table.now.entries.items c.args.entry) qs h in
    let end : take c.loop-i.i qs ≡ qs = take_all c.loop-i.i qs (omega (arith, inv.count, n, c.loop-i-test.false)) in
    subst (λ rs. Done (all (numbered (field_part (types_of (basis c.args.setting.now)) (object_of c.args.object) (path_of c.args.run.now)) 0 rs)) c.loop-i.ended c.args.run.now c.loop-i.run)
    end (inv.done qs h)

pub objects::execute_object-returns-clause-does : goal.objects::execute_object-returns-clause-does
objects::execute_object-returns-clause-does t c = λ qs h. within-done (codes "{") (codes "}") (λ p. fields_part (types_of (basis c.args.setting.now)) (object_of c.args.object) qs p)
    c.args.run.now c.write_byte.new.run c.execute_fields.new.run c.in_ok-write_byte.ensures.follows c.in_ok-ended.ended c.write_byte-2.new.run (c.in_ok-ended.ensures.does qs h) c.in_ok-write_byte-2.ensures.follows

pub lists::list_item-returns-in-Some-clause-does : goal.lists::list_item-returns-in-Some-clause-does
lists::list_item-returns-in-Some-clause-does t c = λ x a.
    let item = written c.args.item.now in
    let d = view c.args.value.now in
    let site = site_of (types_of (basis c.args.setting.now)) c.args.site.place x in
    let is = c.in-Some.ensures in
    counted-executes c.args.i (λ p. content_of_item item site c.args.i d p)
    c.write_direct.result c.args.run.now c.write_comma.new.run c.count.new.run c.write_direct.new.run c.in_ok-write_comma.ensures.follows c.in_ok-count.ensures.follows
    (as_part (content_of_item item site c.args.i d (path_of c.count.new.run)) (plain (json_text (data_of c.in-Some.found))) c.write_direct.result c.count.new.run c.write_direct.new.run
    (direct_item item site c.args.i is.scalar d (data_of c.in-Some.found) (path_of c.count.new.run) is.not_list (sym a.kind ∙ is.kind_is) is.value is.present)
    c.write_direct.ensures)

pub lists::list_item-returns-in-Some-clause-keeps : goal.lists::list_item-returns-in-Some-clause-keeps
lists::list_item-returns-in-Some-clause-keeps t c = keeps_direct (basis c.args.setting.now) c.args.table.now (plain (json_text (data_of c.in-Some.found))) c.write_direct.result
    c.args.run.now c.count.new.run c.write_direct.new.run c.requires.right (omega (arith, c.in_ok-write_comma.ensures.follows.left, c.in_ok-count.ensures.follows.left)) c.write_direct.ensures

pub lists::list_item-returns-clause-does : goal.lists::list_item-returns-clause-does
lists::list_item-returns-clause-does t c = λ x i.
    let site = site_of (types_of (basis c.args.setting.now)) c.args.site.place x in
    counted-executes c.args.i (λ p. content_of_item (written c.args.item.now) site c.args.i (view c.args.value.now) p)
    c.item_content.result c.args.run.now c.write_comma.new.run c.count.new.run c.item_content.new.run c.in_ok-write_comma.ensures.follows c.in_ok-count.ensures.follows (c.item_content.ensures.does x i)

pub lists::list_items-returns-in_err-first-clause-does : goal.lists::list_items-returns-in_err-first-clause-does
lists::list_items-returns-in_err-first-clause-does t c = λ x i.
    let site = site_of (types_of (basis c.args.setting.now)) c.args.site.place x in
    stopped (items_part (written c.args.item.now) site (items_in c.args.items) (path_of c.args.run.now)) c.from_residual.result c.in_err-first.field-0.0
    c.args.run.now c.write_direct_items.new.run c.from_residual.ensures.1
    (c.in_err-first.ensures.stops site (path_of c.args.run.now) i.kind)

pub lists::list_items-loop-i-init : goal.lists::list_items-loop-i-init
lists::list_items-loop-i-init t c = record {
  keeps = record { right = c.requires.right; grows = grows_same c.args.table.now; left = c.in_ok-first.ensures.written.left };
  count = c.count-i-end.ensures;
  within = c.in_ok-first.ensures.written.within;
  done = λ x i. c.in_ok-first.ensures.written.done (site_of (types_of (basis c.args.setting.now)) c.args.site.place x) (path_of c.args.run.now) i.kind;
}

pub lists::list_items-list_item-requires : goal.lists::list_items-list_item-requires
lists::list_items-list_item-requires t c = let inv = c.loop-i.invariant in
    (omega (arith, inv.keeps.left, c.decreases), (inv.keeps.right, in_still c.args.table.now c.loop-i.table c.args.site.slot inv.keeps.grows c.requires.within))

pub lists::list_items-returns-in_err-list_item-clause-does : goal.lists::list_items-returns-in_err-list_item-clause-does
lists::list_items-returns-in_err-list_item-clause-does t c = λ x i.
    let inv = c.loop-i.invariant in
    let g = basis c.args.setting.now in
    let site = site_of (types_of (basis c.args.setting.now)) c.args.site.place x in
    stopped (items_part (written c.args.item.now) site (items_in c.args.items) (path_of c.args.run.now)) c.from_residual-in_err-list_item.result c.in_err-list_item.field-0.0
    c.args.run.now c.list_item.new.run c.from_residual-in_err-list_item.ensures.1
    (loop-stops (item_part (written c.args.item.now) site) (items_in c.args.items) c.loop-i.i (view c.item-value.result.now) c.args.run.now c.loop-i.run c.list_item.new.run
    (omega (arith, inv.count, c.loop-i-test.true)) c.item-value.ensures c.loop-i.ended c.in_err-list_item.field-0.0 (inv.done x i)
    (c.in_err-list_item.ensures.does x (subst (λ xs. IsAsked g c.args.site (name_in (written c.args.item.now)) xs x)
    (sym (below_still c.args.table.now c.loop-i.table c.args.site.slot inv.keeps.grows c.requires.within)) i)))

pub lists::list_items-loop-i-preserved : goal.lists::list_items-loop-i-preserved
lists::list_items-loop-i-preserved t c =
    let g = basis c.args.setting.now in
    let inv = c.loop-i.invariant in
    record {
      keeps = keeps_twice g c.args.table.now c.loop-i.table c.list_item.new.table c.args.run.now c.loop-i.run c.list_item.new.run inv.keeps c.in_ok-list_item.ensures.keeps;
      count = inv.count;
      within = inv.within;
      done = λ x i.
          let site = site_of (types_of (basis c.args.setting.now)) c.args.site.place x in
          rw c.and-ended.ensures (loop-more (item_part (written c.args.item.now) site) (items_in c.args.items) c.loop-i.i (view c.item-value.result.now) c.args.run.now c.loop-i.run c.list_item.new.run
          (omega (arith, inv.count, c.loop-i-test.true)) c.item-value.ensures c.loop-i.ended c.in_ok-list_item.field-0 (inv.done x i)
          (c.in_ok-list_item.ensures.does x (subst (λ xs. IsAsked g c.args.site (name_in (written c.args.item.now)) xs x)
          (sym (below_still c.args.table.now c.loop-i.table c.args.site.slot inv.keeps.grows c.requires.within)) i)));
    }

pub fields::place_field-returns-in-Written-clause-does : goal.fields::place_field-returns-in-Written-clause-does
fields::place_field-returns-in-Written-clause-does t c = λ q h.
    let r = called_part (types_of (basis c.args.setting.now)) (object_of c.args.object) q (path_of c.args.run.now) in
    let nullable : is_non_null q.0.of_type ≡ false = ap (λ (e : PlannedField). is_non_null e.of_type) h.planned ∙ sym c.is_non_null.ensures ∙ c.if-is_non_null.false in
    let done : Done r Written c.args.run.now c.call_field-2.new.run = subst (λ e. Done r e c.args.run.now c.call_field-2.new.run) c.in-Written.is (c.in_ok-call_field.ensures.does q h) in
    subst (λ x. Done x Written c.args.run.now c.call_field-2.new.run) (sym (placed_nullable q.0.of_type r nullable)) (caught-written r c.args.run.now c.call_field-2.new.run done)

pub fields::place_field-returns-in_ok-cut_to_null-in-Bubbled-clause-does : goal.fields::place_field-returns-in_ok-cut_to_null-in-Bubbled-clause-does
fields::place_field-returns-in_ok-cut_to_null-in-Bubbled-clause-does t c = λ q h.
    let mark : c.len-mark.result ≡ length c.args.run.now.out.items = omega (arith, c.len-mark.ensures, c.args.run.now.out.ok.0) in
    let r = called_part (types_of (basis c.args.setting.now)) (object_of c.args.object) q (path_of c.args.run.now) in
    let nullable : is_non_null q.0.of_type ≡ false = ap (λ (e : PlannedField). is_non_null e.of_type) h.planned ∙ sym c.is_non_null.ensures ∙ c.if-is_non_null.false in
    let done : Done r Bubbled c.args.run.now c.call_field-2.new.run = subst (λ e. Done r e c.args.run.now c.call_field-2.new.run) c.in-Bubbled.is (c.in_ok-call_field.ensures.does q h) in
    subst (λ x. Done x Written c.args.run.now c.cut_to_null.new.run) (sym (placed_nullable q.0.of_type r nullable))
    (caught-cut r c.args.run.now c.call_field-2.new.run c.cut_to_null.new.run done
    (subst (λ n. c.cut_to_null.new.run.out.items ≡ take n c.call_field-2.new.run.out.items ++ codes "null") mark c.in_ok-cut_to_null-in-Bubbled.ensures.out)
    c.in_ok-cut_to_null-in-Bubbled.ensures.rest)

pub fields::call_field-returns-in-Given-clause-does : goal.fields::call_field-returns-in-Given-clause-does
fields::call_field-returns-in-Given-clause-does t c = λ q h.
    let types = types_of (basis c.args.setting.now) in
    as_part (called_part types (object_of c.args.object) q (path_of c.args.run.now))
    (source_part types (view c.in-Given.arguments) (view c.args.object.now) q (path_of c.args.run.now))
    c.call_stored.result c.args.run.now c.call_stored.new.run
    (called_stored types q (path_of c.args.run.now) c.args.field.now _ h.planned c.in-Given.is (view c.args.object.now))
    (c.call_stored.ensures.does q h)

pub fields::call_stored-returns-in_ok-resolved-in-Stored-clause-does : goal.fields::call_stored-returns-in_ok-resolved-in-Stored-clause-does
fields::call_stored-returns-in_ok-resolved-in-Stored-clause-does t c = λ q h.
    let g = basis c.args.setting.now in
    let f = c.args.field.now in
    let p = path_of c.args.run.now in
    let here : FieldSite = record { slot = c.args.slot; place = f.place; kind = f.kind } in
    as_part (source_part (types_of g) (view c.args.arguments.now) (view c.args.value.now) q p)
    (value_part (complete (site_of (types_of g) f.place q.1) (written f.of_type.now) p (resolved_in c.in_ok-resolved-in-Stored.resolved)))
    c.complete_resolved.result c.args.run.now c.complete_resolved.new.run
    (source_stored (types_of g) (view c.args.arguments.now) (view c.args.value.now) q p f h.planned c.in-Stored.is
    ∙ ap (λ y. value_part (complete (site_of (types_of g) f.place q.1) (written f.of_type.now) p y)) (sym c.in_ok-resolved-in-Stored.ensures.is))
    (c.complete_resolved.ensures.does q.1
    (subst (λ n. IsAsked g here n (below_at c.args.table.now c.args.slot) q.1) (ap (λ (e : PlannedField). name_in e.of_type) h.planned)
    (record { kind = h.kind; plan = subst (λ xs. IsPlan g (name_in q.0.of_type) xs q.1) (sym c.requires.at.below) h.below })))

pub values::complete_abstract-returns-in-Some-clause-does : goal.values::complete_abstract-returns-in-Some-clause-does
values::complete_abstract-returns-in-Some-clause-does t c = λ x a.
    let g = basis c.args.setting.now in
    let n = c.args.name.now in
    let d = view c.args.value.now in
    let names = possible_in g.given.schema n in
    let found = get (codes "__typename") d in
    let chosen : among names found ≡ Some c.in-Some.of_type.now = sym c.type_name.ensures ∙ ap (option_map (λ (m : Bor (List ℕ)). m.now)) c.in-Some.is in
    as_part (value_part (on_abstract (site_of (types_of g) c.args.site.place x) n (path_of c.args.run.now) d (among names found)))
    (value_part (execute (types_of g) x c.in-Some.of_type.now (path_of c.args.run.now) (stored d))) c.execute_below.result c.args.run.now c.execute_below.new.run
    (ap (λ o. value_part (on_abstract (site_of (types_of g) c.args.site.place x) n (path_of c.args.run.now) d o)) chosen)
    (c.execute_below.ensures.does n (met_abstract g c.in-Some.of_type.now n
    (abstract_kind n (kind_named g.given.schema n) (sym a.kind ∙ c.requires.1.1.1.1)) (among_is names found c.in-Some.of_type.now chosen)) x a.plan)

pub values::complete_named-returns-in-Scalar-clause-does : goal.values::complete_named-returns-in-Scalar-clause-does
values::complete_named-returns-in-Scalar-clause-does t c = λ x a.
    let g = basis c.args.setting.now in
    let n = c.args.name.now in
    let p = path_of c.args.run.now in
    let d = view c.args.value.now in
    let site = site_of (types_of g) c.args.site.place x in
    as_part (value_part (of_kind site n p d (kind_named g.given.schema n))) (leaf_at n c.args.site.place p (as_scalar c.in-Scalar.scalar d)) c.complete_scalar.result c.args.run.now c.complete_scalar.new.run
    (kind_scalar site n p d (kind_named g.given.schema n) c.in-Scalar.scalar (sym a.kind ∙ c.in-Scalar.is)) c.complete_scalar.ensures

pub values::complete_named-returns-in-Enum-clause-does : goal.values::complete_named-returns-in-Enum-clause-does
values::complete_named-returns-in-Enum-clause-does t c = λ x a.
    let g = basis c.args.setting.now in
    let n = c.args.name.now in
    let p = path_of c.args.run.now in
    let d = view c.args.value.now in
    let site = site_of (types_of g) c.args.site.place x in
    as_part (value_part (of_kind site n p d (kind_named g.given.schema n))) (leaf_at n c.args.site.place p (as_enum (values_in g.given.schema n) d)) c.complete_enum.result c.args.run.now c.complete_enum.new.run
    (kind_enum site n p d (kind_named g.given.schema n) (sym a.kind ∙ c.in-Enum.is)) c.complete_enum.ensures

pub values::complete_named-returns-in-Object-clause-does : goal.values::complete_named-returns-in-Object-clause-does
values::complete_named-returns-in-Object-clause-does t c = λ x a.
    let g = basis c.args.setting.now in
    let n = c.args.name.now in
    let p = path_of c.args.run.now in
    let d = view c.args.value.now in
    let site = site_of (types_of g) c.args.site.place x in
    as_part (value_part (of_kind site n p d (kind_named g.given.schema n))) (value_part (on_object site n p d)) c.complete_object.result c.args.run.now c.complete_object.new.run
    (kind_object site n p d (kind_named g.given.schema n) (sym a.kind ∙ c.in-Object.is)) (c.complete_object.ensures.does x a)

pub values::complete_named-returns-in-Abstract-clause-does : goal.values::complete_named-returns-in-Abstract-clause-does
values::complete_named-returns-in-Abstract-clause-does t c = λ x a.
    let g = basis c.args.setting.now in
    let n = c.args.name.now in
    let p = path_of c.args.run.now in
    let d = view c.args.value.now in
    let site = site_of (types_of g) c.args.site.place x in
    as_part (value_part (of_kind site n p d (kind_named g.given.schema n))) (value_part (on_abstract site n p d (among (possible_in g.given.schema n) (get (codes "__typename") d)))) c.complete_abstract.result c.args.run.now c.complete_abstract.new.run
    (kind_abstract site n p d (kind_named g.given.schema n) (sym a.kind ∙ c.in-Abstract.is)) (c.complete_abstract.ensures.does x a)

pub values::complete_named-returns-in-NoOutput-clause-does : goal.values::complete_named-returns-in-NoOutput-clause-does
values::complete_named-returns-in-NoOutput-clause-does t c = λ x a.
    let g = basis c.args.setting.now in
    let n = c.args.name.now in
    let p = path_of c.args.run.now in
    let d = view c.args.value.now in
    let site = site_of (types_of g) c.args.site.place x in
    as_part (value_part (of_kind site n p d (kind_named g.given.schema n))) (raise (record { message = codes "value is not of type " ++ n; place = c.args.site.place; path = p })) c.raise.result c.args.run.now c.raise.new.run
    (kind_other site n p d (kind_named g.given.schema n) (sym a.kind ∙ c.in-NoOutput.is)) c.raise.ensures
