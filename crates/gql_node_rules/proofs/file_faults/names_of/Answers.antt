use Rattle.std.proofs.Common.{◌∙◌, List, map, ap, bytes_eq}
use Rattle.std.specs.Prelude.{ℕ, ◌||◌, Bool}
use Rattle.std.specs.HashSet.{contains}
use Rattle.std.specs.List.{list_any}
use Rattle.gql_node_rules.specs.DirectiveUses.{is_name_of}
use Rattle.gql_node_rules.specs.Resolved.{reference}
use Rattle.gql_node_rules.specs.declared.references.Reference.{Reference}
use Rattle.gql_node_rules.proofs.Sets.{five_put}
use Rattle.gql_node_rules.proofs.file_faults.names_of.Goals as goal

abbrev put : List ℕ → Bool → List Reference → Bool
put q b rs = b || is_name_of (map reference rs) q

abbrev named : List ℕ → List Reference → Bool
named q rs = is_name_of (map reference rs) q

pub returns : goal.returns
returns c = λ q.
    let r = c.args.references.now in
    let none = contains bytes_eq c.new-names.result q in
    let one = contains bytes_eq c.add_names.new.names q in
    let two = contains bytes_eq c.add_names-2.new.names q in
    let three = contains bytes_eq c.add_names-3.new.names q in
    let four = contains bytes_eq c.add_names-4.new.names q in
    let five = contains bytes_eq c.add_names-5.new.names q in
    five_put none one two three four five (named q r.inputs.items) (named q r.outputs.items) (named q r.interfaces.items)
    (named q r.members.items) (named q r.roots.items)
    (ap (list_any (bytes_eq q)) c.new-names.ensures.empty)
    (c.in_ok-add_names.ensures q ∙ ap (put q none) c.as_slice.ensures.value)
    (c.in_ok-add_names-2.ensures q ∙ ap (put q one) c.as_slice-2.ensures.value)
    (c.in_ok-add_names-3.ensures q ∙ ap (put q two) c.as_slice-3.ensures.value)
    (c.in_ok-add_names-4.ensures q ∙ ap (put q three) c.as_slice-4.ensures.value)
    (c.in_ok-add_names-5.ensures q ∙ ap (put q four) c.as_slice-5.ensures.value)
