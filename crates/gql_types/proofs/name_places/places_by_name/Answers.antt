use Rattle.std.proofs.Common.{◌≡◌, ◌∙◌, ℕ, List, None, ap, arith, bytes_eq, drop, rules, map, string_bytes, subst, sym}
use Rattle.std.specs.Prelude.{IsTrue}
use Rattle.gql_types.specs.Names.{AreOnce}
use Rattle.std.specs.HashMap.{get_by_text}
use Rattle.std.specs.List.{position_from}
use Rattle.std.proofs.lemmas.Map.Text.{text_keys}
use Rattle.gql_types.proofs.Once.{once_more}
use Rattle.gql_types.proofs.Places.{by_names, place_before}
use Rattle.gql_types.proofs.name_places.places_by_name.Goals as goal

pub things-preserved : goal.things-preserved
things-preserved g c = (
  omega arith,
  λ q. grind (
    arith,
    text_keys,
    c.things.invariant.1 q,
    place_before (λ x. bytes_eq q (g.T.HasName.name x)) c.args.things.now c.things.place c.index-things-place.result,
  ),
  λ once.
      let bytes : g.T.HasName.name c.index-things-place.result ≡ string_bytes c.in_ok-from_str.field-0 = search rules in
      let absent : position_from (λ x. bytes_eq (g.T.HasName.name c.index-things-place.result) (g.T.HasName.name x)) c.things.place (drop c.things.place c.args.things.now) ≡ None
      = sym (c.things.invariant.1 (g.T.HasName.name c.index-things-place.result)) ∙ ap (get_by_text c.things.first) bytes ∙ sym c.in_ok-later.ensures.old ∙ c.is_once_more-are_once.ensures.new once in
      once_more g.T.HasName.name c.args.things.now c.things.place c.index-things-place.result (search rules) (search rules) (search rules) absent
      (c.things.invariant.2 (c.is_once_more-are_once.ensures.once once)),
)

pub returns : goal.returns
returns g c =
    let start : c.things.place ≡ 0 = omega arith in
    let first : (q : List ℕ) → get_by_text c.things.first q ≡ position_from (λ x. bytes_eq q (g.T.HasName.name x)) 0 c.args.things.now
    = subst (λ p. (q : List ℕ) → get_by_text c.things.first q ≡ position_from (λ x. bytes_eq q (g.T.HasName.name x)) p (drop p c.args.things.now)) start c.things.invariant.1 in
    let once : IsTrue c.things.are_once → AreOnce (map g.T.HasName.name c.args.things.now)
    = subst (λ p. IsTrue c.things.are_once → AreOnce (map g.T.HasName.name (drop p c.args.things.now))) start c.things.invariant.2 in
    (λ q. first q ∙ by_names g.T.HasName.name (bytes_eq q) 0 c.args.things.now, once)
