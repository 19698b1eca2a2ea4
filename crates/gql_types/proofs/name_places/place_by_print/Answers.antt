use Rattle.std.proofs.Common.{◌≡◌, ◌∙◌, None, Some, ap, bytes_eq, false, map, option_map, rules, slice_get, sym, true}
use Rattle.std.specs.Prelude.{nat_eq, unwrap_or}
use Rattle.std.specs.HashMap as hash
use Rattle.std.specs.List.{position_from}
use Rattle.gql_types.specs.Prints.{has_print, print_of}
use Rattle.gql_types.proofs.OwnPrints.{placed_none, placed_thing}
use Rattle.gql_types.proofs.Places.{by_names}
use Rattle.gql_types.proofs.name_places.place_by_print.Goals as goal

pub returns-then-is_named : goal.returns-then-is_named
returns-then-is_named g c =
    let there : position_from (has_print (print_of c.args.name.now)) 0 (map g.T.HasName.name c.args.things.now) ≡ Some c.in-Some.place.now
    = sym (c.requires.first (print_of c.args.name.now)) ∙ ap (λ p. hash.get nat_eq c.args.first.now p) (sym c.print_of.ensures) ∙ sym c.in-Some.ensures.value in
    let named : unwrap_or (option_map (λ x. bytes_eq c.args.name.now (g.T.HasName.name x)) (slice_get c.args.things.now c.in-Some.place.now)) false ≡ true = search rules in
    placed_thing g.T.HasName.name c.args.name.now c.args.things.now c.in-Some.place.now true c.requires.own there named

pub returns-else-is_named : goal.returns-else-is_named
returns-else-is_named g c =
    let there : position_from (has_print (print_of c.args.name.now)) 0 (map g.T.HasName.name c.args.things.now) ≡ Some c.in-Some.place.now
    = sym (c.requires.first (print_of c.args.name.now)) ∙ ap (λ p. hash.get nat_eq c.args.first.now p) (sym c.print_of.ensures) ∙ sym c.in-Some.ensures.value in
    let named : unwrap_or (option_map (λ x. bytes_eq c.args.name.now (g.T.HasName.name x)) (slice_get c.args.things.now c.in-Some.place.now)) false ≡ false = search rules in
    placed_thing g.T.HasName.name c.args.name.now c.args.things.now c.in-Some.place.now false c.requires.own there named

pub returns-in-None : goal.returns-in-None
returns-in-None g c =
    let none : position_from (has_print (print_of c.args.name.now)) 0 (map g.T.HasName.name c.args.things.now) ≡ None
    = sym (c.requires.first (print_of c.args.name.now)) ∙ ap (λ p. hash.get nat_eq c.args.first.now p) (sym c.print_of.ensures) ∙ sym c.in-None.ensures.value in
    sym (by_names g.T.HasName.name (bytes_eq c.args.name.now) 0 c.args.things.now ∙ placed_none c.args.name.now (map g.T.HasName.name c.args.things.now) none)
