use Rattle.std.proofs.Common.{◌≡◌, ◌∙◌, ◌↔◌, Bool, Some, None, IsTrue, ap, sym, subst}
use Rattle.std.specs.Map.{keys_of}
use Rattle.std.specs.List.Sorted.{IsStrictlySortedBy}
use Rattle.std.specs.Option.{option_copied}
use Rattle.gql_ast.specs.FileMaps.{name_order}
use Rattle.gql_ast.specs.declared.fault.FileSide.TheVariants.{Documents}
use Rattle.gql_facts.specs.FileFragments.{fragments_in}
use Rattle.gql_registry.specs.EditPlans.{KeepsFragments}
use Rattle.gql_registry.specs.Sides.{with_file}
use Rattle.gql_registry.proofs.Mapped.{ok_map}
use Rattle.gql_registry.proofs.SameFragments.{same_fragments}
use Rattle.gql_registry.proofs.edit_plan.keeps_fragments.Goals as goal

pub returns-in-Some-clause-all : goal.returns-in-Some-clause-all
returns-in-Some-clause-all c =
    let files = c.args.files.now in
    let name = c.args.name.now in
    let after = option_copied c.args.after in
    let sorted : IsStrictlySortedBy name_order (keys_of files.documents) = subst (λ es. IsStrictlySortedBy name_order (keys_of es)) c.entries-in_order.ensures.files c.entries-in_order.ensures.ordered in
    ok_map c.have_same_fragments.result
    (λ (same : Bool). IsTrue same ↔ (fragments_in (Some c.get-in-Some.result.now) ≡ fragments_in after))
    (λ (same : Bool). IsTrue same → KeepsFragments files (with_file Documents files name after))
    (λ same exact yes. same_fragments files name after sorted (ap fragments_in (sym (ap Some c.get-in-Some.ensures ∙ c.in-Some.ensures)) ∙ exact.0 yes))
    c.have_same_fragments.ensures

pub returns-in-None-clause-all : goal.returns-in-None-clause-all
returns-in-None-clause-all c =
    let files = c.args.files.now in
    let name = c.args.name.now in
    let after = option_copied c.args.after in
    let sorted : IsStrictlySortedBy name_order (keys_of files.documents) = subst (λ es. IsStrictlySortedBy name_order (keys_of es)) c.entries-in_order.ensures.files c.entries-in_order.ensures.ordered in
    ok_map c.have_same_fragments-in-None.result
    (λ (same : Bool). IsTrue same ↔ (fragments_in None ≡ fragments_in after))
    (λ (same : Bool). IsTrue same → KeepsFragments files (with_file Documents files name after))
    (λ same exact yes. same_fragments files name after sorted (ap fragments_in (sym c.in-None.ensures) ∙ exact.0 yes))
    c.have_same_fragments-in-None.ensures
