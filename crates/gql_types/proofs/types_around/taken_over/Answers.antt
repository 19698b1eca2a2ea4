use Rattle.std.proofs.Common.{◌≡◌, ◌+◌, ◌-◌, ◌∙◌, ap, ap₂, arith, drop, length, map, subst, sym, take}
use Rattle.gql_types.specs.EditedTypes.{AreMade, defined_name, definition_of}
use Rattle.gql_types.specs.Names.{AreOnce}
use Rattle.gql_types.specs.Possible.{name_of}
use Rattle.gql_types.specs.Sites.{site}
use Rattle.gql_types.specs.TypesAround.{sites_around}
use Rattle.gql_types.proofs.EditedTypes.{types_after_once}
use Rattle.gql_types.proofs.OwnPrints.{own_once}
use Rattle.gql_types.proofs.TypesAround.{names_around, ok_some}
use Rattle.gql_types.proofs.types_around.taken_over.Goals as goal

pub with_names_of-requires-clause-names : goal.with_names_of-requires-clause-names
with_names_of-requires-clause-names c =
    let types = c.args.edit.now.schema.now.types in
    let until = c.args.built_in + c.count_until.result in
    let past = c.count_past-past.result in
    let all = c.as_slice-all.ensures ∙ c.named_types-types.ensures in
    let same = subst (λ ts. map defined_name (map site c.args.definitions.now) ≡ map name_of (take (length ts - past - until) (drop until ts))) all
    (c.have_names_between.ensures c.if-have_names_between.true) in
    c.in_ok-list.ensures.names
    ∙ names_around types (map site c.args.definitions.now) until past (omega (arith, c.requires.around.within, c.count_until.ensures, c.count_past-past.ensures)) same
    ∙ ap (map name_of) (sym c.named_types-types.ensures)

pub returns-then-have_names_between-clause-types : goal.returns-then-have_names_between-clause-types
returns-then-have_names_between-clause-types c =
    let edit = c.args.edit.now in
    let types = edit.schema.now.types in
    let list = c.in_ok-list.list in
    let until = c.args.built_in + c.count_until.result in
    let past = c.count_past-past.result in
    let all = c.as_slice-all.ensures ∙ c.named_types-types.ensures in
    let these = subst (λ ts. map defined_name (map site c.args.definitions.now) ≡ map name_of (take (length ts - past - until) (drop until ts))) all
    (c.have_names_between.ensures c.if-have_names_between.true) in
    let named = names_around types (map site c.args.definitions.now) until past (omega (arith, c.requires.around.within, c.count_until.ensures, c.count_past-past.ensures)) these in
    let same = ap₂ (λ u p. sites_around (c.args.built_in + u) p (map definition_of types) (map site c.args.definitions.now)) c.count_until.ensures c.count_past-past.ensures in
    types_after_once edit _ list c.in_ok-after.after
    (subst (λ ds. AreOnce (map defined_name ds)) same (subst AreOnce (sym named) c.requires.around.once))
    (subst (λ ds. AreMade edit ds list) same c.in_ok-list.ensures) c.in_ok-after.ensures.types c.in_ok-after.ensures.places

pub returns-clause-types : goal.returns-clause-types
returns-clause-types c =
    let edit = c.args.edit.now in
    let list = c.in_ok-list.list in
    let same = ap₂ (λ u p. sites_around (c.args.built_in + u) p (map definition_of edit.schema.now.types) (map site c.args.definitions.now)) c.count_until.ensures c.count_past-past.ensures in
    let made = subst (λ ds. AreMade edit ds list) same c.in_ok-list.ensures in
    ok_some c.with_own_prints.result
    (λ after found. types_after_once edit _ list after (subst AreOnce made.names (own_once (map name_of list.types) found.2)) made found.0 found.1)
    c.with_own_prints.ensures.some
