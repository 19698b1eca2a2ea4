use Rattle.std.proofs.Common.{◌∙◌, ℕ, inl, inr, subst, sym, List, bytes_eq, is_some, Contains}
use Rattle.std.proofs.lemmas.List.{take_all}
use Rattle.std.specs.HashMap as hash
use Rattle.gql_facts.specs.Worlds.{Facts}
use Rattle.gql_verdict.specs.Marks.{AreBroken, AreDone, IsFragmentCompared}
use Rattle.gql_verdict.proofs.Marking.{keep_compared, touched_fragment, unmarked_hold}
use Rattle.gql_verdict.proofs.Seen.{seen_more}
use Rattle.gql_verdict.proofs.marks.compare_touched.Goals as goal

pub compare_once-requires-clause-done : goal.compare_once-requires-clause-done
compare_once-requires-clause-done g c =
    subst (λ (G : Facts). AreDone G c.args.slots.now c.args.index.now c.loop-name.marks (λ n. is_some (hash.get_by (λ k. bytes_eq n k.now) c.loop-name.done)))
    (sym c.loop-name.invariant.same_facts) c.loop-name.invariant.done

pub loop-name-preserved : goal.loop-name-preserved
loop-name-preserved g c =
    let F = g.W.World.facts c.args.world.now in
    let S = c.args.slots.now in
    let E = c.args.index.now in
    let same = c.loop-name.invariant.same_facts in
    let after = c.compare_once.new.marks in
    record {
      same_facts = c.compare_once.ensures.facts ∙ same;
      same_names = c.compare_once.ensures.names ∙ c.loop-name.invariant.same_names;
      same_lent = c.compare_once.ensures.lent ∙ c.loop-name.invariant.same_lent;
      broken = subst (λ (G : Facts). AreBroken G S after) same c.compare_once.ensures.broken;
      done = subst (λ (G : Facts). AreDone G S E after (λ n. is_some (hash.get_by (λ k. bytes_eq n k.now) c.compare_once.new.done))) same c.in_ok-compare_once.ensures.done;
      compared = λ n m. elim (seen_more c.as_slice-name-items.result.now c.loop-name.name-index c.name-item.result c.loop-name-test.true c.name-item.is n m) [
        | inl o ↦ λ e h q. keep_compared F S c.loop-name.marks after e c.compare_once.ensures.kept (c.loop-name.invariant.compared n o e h q)
        | inr p ↦ subst (λ (x : List ℕ). IsFragmentCompared F S E after x) p (subst (λ (G : Facts). IsFragmentCompared G S E after c.name-item.result) same c.in_ok-compare_once.ensures.compared)
      ];
    }

pub returns-clause-marks : goal.returns-clause-marks
returns-clause-marks g c =
    let all = take_all _ _ c.loop-name-test.false ∙ c.as_slice-name-items.ensures in
    record {
      broken = c.loop-name.invariant.broken;
      hold = unmarked_hold (g.W.World.facts c.args.world.now) c.args.slots.now c.args.index.now c.requires.shelved c.args.edit.now c.loop-name.marks
          (λ e m y. let t = touched_fragment c.args.edit.now e.key y in c.loop-name.invariant.compared t.0 (subst (λ (ns : List (List ℕ)). Contains ns t.0) (sym all) t.2) e m t.1);
    }
