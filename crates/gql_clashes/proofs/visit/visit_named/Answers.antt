use Rattle.std.proofs.Common.{◌∙◌, ◌++◌, Contains, ap, flat_map, subst}
use Rattle.gql_clashes.specs.declared.groups.Class.{Class}
use Rattle.gql_clashes.specs.Compared.{bad_at, fields_in, items_of}
use Rattle.gql_clashes.proofs.ByName.{bad_of_name, filtered_in, items_of_name}
use Rattle.gql_clashes.proofs.visit.visit_named.Goals as goal

pub visit_with-requires-clause-classes : goal.visit_with-requires-clause-classes
visit_with-requires-clause-classes c = λ d g a b. c.requires.classes d g (filtered_in _ c.args.classes.now d (subst (λ l. Contains l d) c.classes_of-named.ensures a)) b

pub returns : goal.returns
returns c = record {
  bad = c.in_ok-visit_with.ensures.bad ∙ ap (λ l. c.args.bad.now.items ++ l) (ap (λ l. flat_map (λ (d : Class). bad_at c.args.sets.now c.args.mode (fields_in c.args.left.now) (fields_in d)) l) c.classes_of-named.ensures ∙ bad_of_name c.args.sets.now c.args.mode c.args.left.now c.args.classes.now c.requires.named c.requires.ordered);
  items = c.in_ok-visit_with.ensures.items ∙ ap (λ l. c.args.items.now.items ++ l) (ap (λ l. flat_map (items_of c.args.sets.now c.args.mode c.args.left.now) l) c.classes_of-named.ensures ∙ items_of_name c.args.sets.now c.args.mode c.args.left.now c.args.classes.now c.requires.named c.requires.ordered);
}
