use Rattle.std.proofs.Common.{◌≡◌, ◌∙◌, ap, map, rules, subst, sym}
use Rattle.std.specs.List.{AllZip}
use Rattle.std.specs.Prelude.{IsTrue}
use Rattle.gql_types.specs.EditedTypes.{extensions_at, type_by}
use Rattle.gql_types.specs.KeptTypes.{IsConcreteAt, known_place}
use Rattle.gql_types.specs.Names.{AreOnce}
use Rattle.gql_types.specs.Possible.{name_of}
use Rattle.gql_types.specs.Prints.{HaveOwnPrints, print_of}
use Rattle.gql_types.specs.Sites.{site}
use Rattle.gql_types.proofs.EditedTypes.{kept_same, made_firsts, types_after_once}
use Rattle.gql_types.proofs.OwnPrints.{own_once}
use Rattle.gql_types.proofs.edited_types.types_after_edit.Goals as goal

pub with_own_prints-requires-clause-prints : goal.with_own_prints-requires-clause-prints
with_own_prints-requires-clause-prints c = c.in_ok-list.ensures.prints ∙ ap (map print_of) (sym c.in_ok-list.ensures.names)

pub returns-in-Some-clause-types : goal.returns-in-Some-clause-types
returns-in-Some-clause-types c =
    let list = c.in_ok-list.list in
    let found : (c.in-Some.after.types ≡ list.types) × (c.in-Some.after.places.items ≡ list.places.items) × HaveOwnPrints (map name_of list.types) × IsTrue c.in-Some.after.are_once = search rules in
    types_after_once c.args.edit.now (map site c.args.definitions.now) list c.in-Some.after
    (subst AreOnce c.in_ok-list.ensures.names (own_once (map name_of list.types) found.2)) c.in_ok-list.ensures found.0 found.1

pub returns-in-Some-clause-once : goal.returns-in-Some-clause-once
returns-in-Some-clause-once c =
    let list = c.in_ok-list.list in
    let found : (c.in-Some.after.types ≡ list.types) × (c.in-Some.after.places.items ≡ list.places.items) × HaveOwnPrints (map name_of list.types) × IsTrue c.in-Some.after.are_once = search rules in (
      λ once. subst HaveOwnPrints c.in_ok-list.ensures.names found.2,
      λ own. found.3,
    )

pub returns-clause-types : goal.returns-clause-types
returns-clause-types c =
    let list = c.in_ok-list-2.list in
    let edit = c.args.edit.now in
    let firsts = ap (map site) c.as_slice.ensures.value ∙ c.in_ok-firsts.ensures in record {
      types = λ extensions are keeps.
          c.in_ok-after-2.ensures.types ∙ kept_same edit.edited.now edit.schema.now list.types _ _
          (ap (map (type_by (extensions_at edit))) firsts ∙ made_firsts edit (map site c.args.definitions.now) extensions are) c.in_ok-list-2.ensures.types keeps;
      places = subst (AllZip (IsConcreteAt edit.schema.now.types) c.in_ok-after-2.after.places.items) (sym c.in_ok-after-2.ensures.types)
          (subst (λ ps. AllZip (IsConcreteAt edit.schema.now.types) ps list.types) (sym c.in_ok-after-2.ensures.places) c.in_ok-list-2.ensures.places);
      exact = c.in_ok-after-2.ensures.places ∙ c.in_ok-list-2.ensures.exact ∙ ap (map (known_place edit.edited.now edit.schema.now.types)) (sym c.in_ok-after-2.ensures.types);
      once = λ once. absurd (cc (sym once ∙ c.in_ok-after-2.ensures.once));
    }

pub returns-clause-once : goal.returns-clause-once
returns-clause-once c =
    let not : HaveOwnPrints (map name_of c.in_ok-list.list.types) → ⊥ = search rules in (
      λ once. absurd (cc (sym once ∙ c.in_ok-after-2.ensures.once)),
      λ own. absurd (not (subst HaveOwnPrints (sym c.in_ok-list.ensures.names) own)),
    )
