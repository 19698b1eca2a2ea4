use Rattle.std.proofs.Common.{◌≡◌, ◌++◌, ◌∷◌, [], ◌∙◌, List, ap, sym, rules, subst, Contains}
use Rattle.std.specs.Ordering.{is_gt}
use Rattle.std.specs.declared.cmp.Ordering.TheVariants.{Less}
use Rattle.std.proofs.lemmas.List.Kept.{AllPairs-filter}
use Rattle.gql_ast.specs.declared.definition.DefinitionId.{DefinitionId}
use Rattle.gql_facts.specs.ListMembers.{Contains-here, Contains-there}
use Rattle.gql_facts.specs.declared.key.Key.{Key}
use Rattle.gql_readers.specs.Changes.{Noted, Notes}
use Rattle.gql_readers.specs.Indexes.{AreEntriesInOrder, IsIndexOf, Reading}
use Rattle.gql_readers.specs.Merged.{above, below, changed_key, here, index_after, key_of, made, readers_found}
use Rattle.gql_readers.specs.OrderLaws.{key_exact, key_total}
use Rattle.gql_readers.specs.Orders.{key_order}
use Rattle.gql_readers.proofs.Editing.{AreSorted, found_in_order, goes_among, goes_in_order, index_then, sorted_notes}
use Rattle.gql_readers.proofs.Merging.{filter_from, here_above, here_from, pairs_head, pairs_tail}
use Rattle.gql_readers.proofs.Splitting.{merged_more}
use Rattle.gql_readers.proofs.index.Index.changed.Goals as goal

pub loop-key-init : goal.loop-key-init
loop-key-init c =
    let x = c.into_iter-key-iterator.ensures.into_iter_gives in
    let es : c.as_slice-rest.result.now ≡ c.args.self.now = c.as_slice-rest.ensures.value ∙ c.self.view_is in
    let ns : c.into_iter-key-iterator.result ≡ c.args.changes = x.0 ∙ c.changes.view_is in
    let none : c.in_ok-all.all.items ≡ [] = search rules in
    record {
      next = tt;
      finite = tt;
      order = subst (λ (zs : List Reading). AreEntriesInOrder zs) (sym c.as_slice-rest.ensures.value) c.self.invariant;
      kept = λ e m. subst (λ (zs : List Reading). Contains zs e) es m;
      noted = λ n m. subst (λ (zs : Notes). Contains zs n) ns m;
      sorted = subst (λ (zs : Notes). AreSorted zs) (sym x.0) (sorted_notes c.changes.inside.notes.entries x.5);
      same = λ n m. ap (here key_order key_of n.0) es;
      so_far = ap (λ (zs : List Reading). zs ++ index_after c.as_slice-rest.result.now c.into_iter-key-iterator.result) none ∙ ap (λ (zs : List Reading). index_after zs c.into_iter-key-iterator.result) es ∙ ap (λ (zs : Notes). index_after c.args.self.now zs) ns;
    }

pub add_made-requires-clause-readers : goal.add_made-requires-clause-readers
add_made-requires-clause-readers c =
    let r = c.requires in
    let sorted : AreSorted c.args.changes = subst (λ (zs : Notes). AreSorted zs) c.changes.view_is (sorted_notes c.changes.inside.notes.entries c.into_iter-key-iterator.ensures.into_iter_gives.5) in
    found_in_order r.0 c.args.self.now c.args.changes r.1 r.2 r.3 r.4 r.5.index_of sorted r.5.notes_of r.5.edit c.split-parts.result.here.now
    (λ e m. c.loop-key.invariant.kept e (here_from key_order key_total key_exact key_of c.sought.result c.loop-key.rest.now e (subst (λ (zs : List Reading). Contains zs e) c.split-parts.ensures.here m)).0)

pub add_made-requires-clause-goes : goal.add_made-requires-clause-goes
add_made-requires-clause-goes c =
    let r = c.requires in
    let n : Key × Noted = (c.in-Some.key, c.in-Some.noted) in
    let steps : c.loop-key.key-iterator ≡ n ∷ c.next.new.self = c.in-Some.ensures.steps in
    let sorted : AreSorted c.args.changes = subst (λ (zs : Notes). AreSorted zs) c.changes.view_is (sorted_notes c.changes.inside.notes.entries c.into_iter-key-iterator.ensures.into_iter_gives.5) in
    goes_in_order r.0 c.args.self.now c.args.changes r.1 r.2 r.3 r.4 r.5.index_of sorted r.5.notes_of r.5.edit n
    (c.loop-key.invariant.noted n (subst (λ (zs : Notes). Contains zs n) (sym steps) (Contains-here n c.next.new.self)))

pub add_made-requires-clause-among : goal.add_made-requires-clause-among
add_made-requires-clause-among c =
    let r = c.requires in
    let n : Key × Noted = (c.in-Some.key, c.in-Some.noted) in
    let steps : c.loop-key.key-iterator ≡ n ∷ c.next.new.self = c.in-Some.ensures.steps in
    let m : Contains c.loop-key.key-iterator n = subst (λ (zs : Notes). Contains zs n) (sym steps) (Contains-here n c.next.new.self) in
    let sorted : AreSorted c.args.changes = subst (λ (zs : Notes). AreSorted zs) c.changes.view_is (sorted_notes c.changes.inside.notes.entries c.into_iter-key-iterator.ensures.into_iter_gives.5) in
    let same : c.split-parts.result.here.now ≡ here key_order key_of c.in-Some.key c.args.self.now = c.split-parts.ensures.here ∙ ap (λ j. here key_order key_of j c.loop-key.rest.now) c.sought.ensures ∙ c.loop-key.invariant.same n m in
    subst (λ (zs : List Reading). (id : DefinitionId) → Contains c.in-Some.noted.goes id → Contains (readers_found zs) id) (sym same)
    (goes_among r.0 c.args.self.now c.args.changes r.1 r.2 r.3 r.4 r.5.index_of sorted r.5.notes_of r.5.edit n (c.loop-key.invariant.noted n m))

pub add_made-requires-clause-named : goal.add_made-requires-clause-named
add_made-requires-clause-named c = λ e m. (here_from key_order key_total key_exact key_of c.sought.result c.loop-key.rest.now e (subst (λ (zs : List Reading). Contains zs e) c.split-parts.ensures.here m)).1 ∙ c.sought.ensures

pub loop-key-preserved : goal.loop-key-preserved
loop-key-preserved c =
    let k = c.sought.result in
    let n : Key × Noted = (c.in-Some.key, c.in-Some.noted) in
    let rest = c.loop-key.rest.now in
    let steps : c.loop-key.key-iterator ≡ n ∷ c.next.new.self = c.in-Some.ensures.steps in
    let same : here key_order key_of k rest ≡ here key_order key_of c.in-Some.key rest = ap (λ j. here key_order key_of j rest) c.sought.ensures in
    record {
      next = tt;
      finite = tt;
      order = subst (λ (zs : List Reading). AreEntriesInOrder zs) (sym c.split-parts.ensures.after) (AllPairs-filter (λ (d e : Reading). key_order d.key e.key ≡ Less) (λ e. is_gt (key_order e.key k)) rest c.loop-key.invariant.order);
      kept = λ e m. c.loop-key.invariant.kept e (filter_from (λ d. is_gt (key_order d.key k)) rest e (subst (λ (zs : List Reading). Contains zs e) c.split-parts.ensures.after m)).0;
      noted = λ m h. c.loop-key.invariant.noted m (subst (λ (zs : Notes). Contains zs m) (sym steps) (Contains-there m n c.next.new.self h));
      sorted = pairs_tail (λ (a b : Key × Noted). key_order a.0 b.0 ≡ Less) n c.next.new.self (subst (λ (zs : Notes). AreSorted zs) steps c.loop-key.invariant.sorted);
      same = λ m h.
          let up : key_order c.in-Some.key m.0 ≡ Less = pairs_head (λ (a b : Key × Noted). key_order a.0 b.0 ≡ Less) n c.next.new.self (subst (λ (zs : Notes). AreSorted zs) steps c.loop-key.invariant.sorted) m h in
          ap (here key_order key_of m.0) (c.split-parts.ensures.after ∙ ap (λ j. above key_order key_of j rest) c.sought.ensures)
          ∙ here_above key_order key_total key_exact key_of c.in-Some.key m.0 rest up
          ∙ c.loop-key.invariant.same m (subst (λ (zs : Notes). Contains zs m) (sym steps) (Contains-there m n c.next.new.self h));
      so_far = ap (λ (zs : List Reading). zs ++ index_after c.split-parts.result.after.now c.next.new.self)
          (c.in_ok-add_made.ensures ∙ ap (λ (zs : List Reading). zs ++ made c.split-parts.result.here.now n) c.in_ok-add_handles.ensures)
          ∙ merged_more key_order key_of changed_key made c.loop-key.all.items rest c.split-parts.result.before.now c.split-parts.result.after.now (made c.split-parts.result.here.now n) n c.next.new.self c.loop-key.key-iterator
          steps (c.split-parts.ensures.before ∙ ap (λ j. below key_order key_of j rest) c.sought.ensures) (c.split-parts.ensures.after ∙ ap (λ j. above key_order key_of j rest) c.sought.ensures)
          (ap (λ (zs : List Reading). made zs n) (c.split-parts.ensures.here ∙ same))
          ∙ c.loop-key.invariant.so_far;
    }

pub returns : goal.returns
returns c = λ facts old going coming new change.
    let sorted : AreSorted c.args.changes = subst (λ (zs : Notes). AreSorted zs) c.changes.view_is (sorted_notes c.changes.inside.notes.entries c.into_iter-key-iterator.ensures.into_iter_gives.5) in
    let none : c.loop-key.key-iterator ≡ [] = c.in-None.ensures.steps.0 in
    let all : c.add_handles-2.new.all.items ≡ index_after c.args.self.now c.args.changes =
    c.in_ok-add_handles-2.ensures ∙ sym (ap (λ (zs : Notes). c.loop-key.all.items ++ index_after c.loop-key.rest.now zs) none) ∙ c.loop-key.invariant.so_far in
    subst (λ (zs : List Reading). IsIndexOf zs new) (sym all) (index_then facts c.args.self.now c.args.changes old going coming new change.index_of sorted change.notes_of change.edit)

pub invariant_of-result : goal.invariant_of-result
invariant_of-result c =
    let r = c.requires in
    let sorted : AreSorted c.args.changes = subst (λ (zs : Notes). AreSorted zs) c.changes.view_is (sorted_notes c.changes.inside.notes.entries c.into_iter-key-iterator.ensures.into_iter_gives.5) in
    let none : c.loop-key.key-iterator ≡ [] = c.in-None.ensures.steps.0 in
    let all : c.add_handles-2.new.all.items ≡ index_after c.args.self.now c.args.changes =
    c.in_ok-add_handles-2.ensures ∙ sym (ap (λ (zs : Notes). c.loop-key.all.items ++ index_after c.loop-key.rest.now zs) none) ∙ c.loop-key.invariant.so_far in
    subst (λ (zs : List Reading). AreEntriesInOrder zs) (sym all) (index_then r.0 c.args.self.now c.args.changes r.1 r.2 r.3 r.4 r.5.index_of sorted r.5.notes_of r.5.edit).order
