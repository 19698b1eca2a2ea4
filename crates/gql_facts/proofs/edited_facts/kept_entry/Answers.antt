use Rattle.std.proofs.Common.{◌≡◌, ◌∙◌, Some, false, rules, ap, find, bytes_eq, sym}
use Rattle.std.specs.Prelude.{is_some}
use Rattle.gql_types.specs.Possible.{name_of}
use Rattle.gql_types.specs.Schemas.{possible_named}
use Rattle.gql_facts.specs.Tables.{type_in}
use Rattle.gql_facts.proofs.EditedFacts.{entry_named, kept}
use Rattle.gql_facts.proofs.edited_facts.kept_entry.Goals as goal

pub returns-then-are_same_names-clause-entry : goal.returns-then-are_same_names-clause-entry
returns-then-are_same_names-clause-entry c = λ edited same.
    let unedited : is_some (find (bytes_eq (name_of c.args.of_type.now)) edited) ≡ false = search rules in
    let found : type_in c.args.before.now (name_of c.args.of_type.now) ≡ Some c.in-Some.entry.now = let is = c.entry_before.ensures (name_of c.args.of_type.now) c.requires in search rules in
    kept c.args.before.now edited c.args.schema.now c.args.of_type.now c.in-Some.entry.now unedited found
    (ap (λ e. e.possible) (sym c.get.ensures) ∙ c.are_same_names.ensures.0 c.if-are_same_names.true
    ∙ c.possible_near-possible.ensures ∙ ap (possible_named c.args.schema.now) c.name.ensures)

pub returns-then-are_same_names-clause-name : goal.returns-then-are_same_names-clause-name
returns-then-are_same_names-clause-name c =
    let found : type_in c.args.before.now (name_of c.args.of_type.now) ≡ Some c.in-Some.entry.now = let is = c.entry_before.ensures (name_of c.args.of_type.now) c.requires in search rules in
    entry_named (name_of c.args.of_type.now) c.args.before.now.types c.in-Some.entry.now found
