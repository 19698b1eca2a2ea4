use Rattle.std.proofs.Common.{◌≡◌, [], ◌∷◌, Contains, List, subst}
use Rattle.gql_facts.specs.declared.fact.FragmentFact.{FragmentFact}
use Rattle.gql_reads.specs.Records.{Kept}
use Rattle.gql_pairs.specs.Gathering.{Gathers}
use Rattle.gql_pairs.proofs.Gathered.{alone, gathers_all, gathers_more, one_of}
use Rattle.gql_pairs.proofs.gather.add_parts.Goals as goal

pub loop-part-preserved : goal.loop-part-preserved
loop-part-preserved c =
    let x = c.part-item.result in
    let b = c.loop-part.found.fragments.items in
    let d = c.add_once.new.found.fragments.items in
    record {
      names = c.in_ok-add_once.ensures.names;
      gathered = gathers_more (λ (p : Kept). p.fragment ∷ []) c.args.parts.now c.loop-part.part-index x c.loop-part-test.true c.part-item.is c.args.found.now.fragments.items b d
          c.loop-part.invariant.gathered (one_of x.fragment b d (subst (λ (f : FragmentFact). Gathers (λ g. g ≡ f) b d) c.fragment.ensures c.in_ok-add_once.ensures.gathered));
    }

pub returns-clause-gathered : goal.returns-clause-gathered
returns-clause-gathered c =
    let b = c.loop-part.found.fragments.items in
    subst (λ (l : List FragmentFact). Gathers (Contains l) c.args.found.now.fragments.items b) (alone (λ (p : Kept). p.fragment) c.args.parts.now)
    (gathers_all (λ (p : Kept). p.fragment ∷ []) c.args.parts.now c.loop-part.part-index c.args.found.now.fragments.items b c.loop-part-test.false c.loop-part.invariant.gathered)
