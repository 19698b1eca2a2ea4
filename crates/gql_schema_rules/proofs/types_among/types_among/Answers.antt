use Rattle.std.proofs.Common.{◌≡◌, ◌∙◌, ◌<◌, ap, get_or, length, map, rules, sym}
use Rattle.gql_node_rules.specs.SchemaChanges.{is_among}
use Rattle.gql_types.specs.Names.{are_among}
use Rattle.gql_types.specs.Possible.{name_of}
use Rattle.gql_schema_rules.proofs.Marked.{marked_at, marked_step}
use Rattle.gql_schema_rules.proofs.types_among.types_among.Goals as goal

pub loop-place-preserved : goal.loop-place-preserved
loop-place-preserved c =
    let within : c.loop-place.place < length c.types-types.result.now = search rules in
    let item : get_or c.types-types.result.now c.loop-place.place c.index-types-place.result ≡ c.index-types-place.result = search rules in
    let are : c.as_slice.result.now ≡ are_among c.args.names.now (map name_of c.types-types.result.now) =
    c.as_slice.ensures.value ∙ c.in_ok-marks.ensures ∙ ap (λ ts. are_among c.args.names.now (map name_of ts)) (c.named_types.ensures ∙ sym c.types-types.ensures) in
    marked_step c.args.names.now c.types-types.result.now c.loop-place.place c.index-types-place.result c.is_marked.result c.loop-place.found.items c.add_if.new.found.items within item
    (c.is_marked.ensures _ (marked_at c.args.names.now c.types-types.result.now c.as_slice.result.now c.loop-place.place c.index-types-place.result are within item))
    c.loop-place.invariant c.in_ok-add_if.ensures
