use Rattle.std.proofs.Common.{◌≡◌, ◌∙◌, ◌+◌, ◌++◌, ◌-◌, [], List, ap, arith, drop, length, rules, subst, sym, take}
use Rattle.std.proofs.lemmas.List.{nil_from_length, take_rest}
use Rattle.std.specs.declared.cmp.Ordering.TheVariants.{Less}
use Rattle.gql_ast.specs.declared.definition.DefinitionId.{DefinitionId}
use Rattle.gql_readers.specs.Chunks.{AreAhead, joined}
use Rattle.gql_readers.specs.Merged.{edited}
use Rattle.gql_readers.specs.Orders.{AreInOrder, id_order}
use Rattle.gql_readers.proofs.Chunking.{chunk_order, edited_more, rest_shorter, rest_within, suffix_order}
use Rattle.gql_readers.proofs.Merging.{pairs_none}
use Rattle.gql_readers.proofs.reader_list.ReaderList.edited.Goals as goal

pub groups-init : goal.groups-init
groups-init c =
    let same : joined c.as_slice-chunks.result.now ≡ c.args.self.now = ap joined c.as_slice-chunks.ensures.value ∙ c.self.view_is in
    let none : c.in_ok-all.all.items ≡ [] = search rules in
    record {
      chunks_fit = omega arith;
      left_fit = omega arith;
      order = subst (λ (zs : List DefinitionId). AreInOrder zs) (sym same) c.requires;
      so_far = ap (λ (zs : List (List DefinitionId)). joined zs ++ edited c.args.comes (joined c.as_slice-chunks.result.now) c.args.changed.now) none ∙ ap (λ (zs : List DefinitionId). edited c.args.comes zs c.args.changed.now) same;
    }

pub changes_ahead-count-requires : goal.changes_ahead-count-requires
changes_ahead-count-requires c = subst (λ (zs : List (List DefinitionId)). AreInOrder (joined zs)) (sym (take_rest c.groups.chunks.now (c.chunks_before-place.result + 1)))
    (suffix_order c.groups.chunks.now (c.chunks_before-place.result + 1) c.groups.invariant.order)

pub add_edited-requires : goal.add_edited-requires
add_edited-requires c = chunk_order c.args.comes c.groups.chunks.now c.chunks_before-place.result c.index-chunks-place.result c.chunks_before-place.ensures.within c.index-chunks-place.is c.groups.invariant.order

pub groups-smaller : goal.groups-smaller
groups-smaller c = rest_shorter c.groups.chunks.now (c.chunks_before-place.result + 1) (omega arith) (omega (arith, c.chunks_before-place.ensures.within))

pub groups-preserved : goal.groups-preserved
groups-preserved c =
    let cs = c.groups.chunks.now in
    let left = c.groups.left.now in
    let place = c.chunks_before-place.result in
    let count = c.changes_ahead-count.result in
    let chunk = c.index-chunks-place.result in
    let comes = c.args.comes in
    let done = c.add_edited.new.all.items in
    let after = take_rest cs (place + 1) in
    let rest = take (length left - count) (drop count left) in
    let ahead : AreAhead (take count left) (drop count left) (joined (drop (place + 1) cs)) =
    subst (λ (zs : List (List DefinitionId)). AreAhead (take count left) (drop count left) (joined zs)) after c.changes_ahead-count.ensures.ahead in
    record {
      chunks_fit = omega (arith, rest_within cs (place + 1), c.groups.invariant.chunks_fit);
      left_fit = omega (arith, rest_within left count, c.groups.invariant.left_fit);
      order = subst (λ (zs : List (List DefinitionId)). AreInOrder (joined zs)) (sym after) (suffix_order cs (place + 1) c.groups.invariant.order);
      so_far = ap (λ (zs : List (List DefinitionId)). joined done ++ edited comes (joined zs) rest) after
          ∙ ap (λ (zs : List DefinitionId). joined done ++ edited comes (joined (drop (place + 1) cs)) zs) (take_rest left count)
          ∙ edited_more comes cs place chunk c.chunks_before-place.ensures.within c.index-chunks-place.is c.groups.invariant.order left count c.chunks_before-place.ensures.next ahead
          c.groups.all.items c.add_chunks.new.all.items done c.in_ok-add_chunks.ensures c.in_ok-add_edited.ensures
          ∙ c.groups.invariant.so_far;
    }

pub edit-requires : goal.edit-requires
edit-requires c = pairs_none (λ (a b : DefinitionId). id_order a b ≡ Less)

pub returns : goal.returns
returns c =
    let comes = c.args.comes in
    let left = c.groups.left.now in
    let none : c.groups.chunks.now ≡ [] = nil_from_length c.groups.chunks.now (omega arith) in
    c.in_ok-add_pieces.ensures ∙ ap (λ (zs : List DefinitionId). joined c.groups.all.items ++ zs) c.in_ok-last.ensures
    ∙ ap (λ (cs : List (List DefinitionId)). joined c.groups.all.items ++ edited comes (joined cs) left) (sym none) ∙ c.groups.invariant.so_far
