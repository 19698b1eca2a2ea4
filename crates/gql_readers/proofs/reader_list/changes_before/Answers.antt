use Rattle.std.proofs.Common.{◌≡◌, ◌∙◌, ◌∷◌, ◌+◌, List, ap, drop, false, rules, subst, sym, true}
use Rattle.std.specs.Ordering.{is_lt}
use Rattle.std.proofs.lemmas.List.{drop_more}
use Rattle.gql_ast.specs.declared.definition.DefinitionId.{DefinitionId}
use Rattle.gql_facts.specs.ListMembers.{Contains-nil}
use Rattle.gql_readers.specs.Chunks.{IsNextFrom}
use Rattle.gql_readers.specs.Orders.{id_order}
use Rattle.gql_readers.proofs.Chunking.{before_more}
use Rattle.gql_readers.proofs.Merging.{is_less}
use Rattle.gql_readers.proofs.reader_list.changes_before.Goals as goal

pub loop-i-init : goal.loop-i-init
loop-i-init c = λ x m. absurd (Contains-nil x m)

pub returns-then-not-is_before-clause-next : goal.returns-then-not-is_before-clause-next
returns-then-not-is_before-clause-next c =
    let x = c.index-changed-i.result in
    let i = c.loop-i.i in
    let all = c.args.changed.now in
    let from : is_lt (id_order x c.args.id.now) ≡ false = search rules in
    subst (λ (zs : List DefinitionId). IsNextFrom c.args.id.now zs) (sym (drop_more all i x c.loop-i-test.true ∙ ap (λ z. z ∷ drop (i + 1) all) (sym c.index-changed-i.is))) from

pub loop-i-preserved : goal.loop-i-preserved
loop-i-preserved c =
    let x = c.index-changed-i.result in
    let low : is_lt (id_order x c.args.id.now) ≡ true = search rules in
    before_more c.args.id.now x c.args.changed.now c.loop-i.i c.loop-i-test.true c.index-changed-i.is (is_less (id_order x c.args.id.now) low) c.loop-i.invariant
