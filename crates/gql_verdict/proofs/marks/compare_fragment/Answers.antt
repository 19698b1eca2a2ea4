use Rattle.std.proofs.Common.{◌≡◌, ◌∙◌, ap, subst, sym, List, Bool}
use Rattle.gql_facts.specs.declared.key.Key.{Key}
use Rattle.gql_facts.specs.declared.key.Key.TheVariants as key
use Rattle.gql_verdict.specs.Marks.{IsCompared}
use Rattle.gql_verdict.proofs.Marking.{one_compared}
use Rattle.gql_verdict.proofs.marks.compare_fragment.Goals as goal
use Rattle.gql_verdict.proofs.marks.compare_fragment.Goals.{in-Some+in_ok-compare, in_default}

pub returns-clause-compared : goal.returns-clause-compared
returns-clause-compared g c = λ e m q.
    let F = g.W.World.facts c.args.world.now in
    let k : Key = key.FragmentOf c.in_ok-copy.field-0 in
    let named : e.key ≡ k = q ∙ ap key.FragmentOf (sym c.in_ok-copy.ensures) in
    elim c.match-find.branch [
      | in-Some+in_ok-compare w ↦ subst (λ (ms : List Bool). IsCompared F c.args.slots.now ms e) (sym w.marks-is)
          (one_compared F c.args.slots.now c.args.index.now c.requires.shelved w.compare.new.marks w.in-Some.entry.now k w.in-Some.ensures w.in_ok-compare.ensures.compared e m named)
      | in_default w ↦ absurd (w.in_default.ensures e m named)
    ]
