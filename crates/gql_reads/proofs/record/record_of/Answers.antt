use Rattle.std.proofs.Common.{◌≡◌, ◌∙◌, [], List, Contains, ap, inl, inr, subst, sym}
use Rattle.std.specs.Map.{keys_of}
use Rattle.indexmap.specs.IndexMap.{keys}
use Rattle.gql_facts.proofs.Walked.{added_from, added_new}
use Rattle.gql_facts.specs.ListMembers.{Contains-nil}
use Rattle.gql_facts.specs.Members.{Lists}
use Rattle.gql_facts.specs.OwnReads.{tree_reads}
use Rattle.gql_facts.specs.Scans.{add_keys}
use Rattle.gql_facts.specs.Worlds.{Facts}
use Rattle.gql_facts.specs.declared.key.Key.{Key}
use Rattle.gql_reads.specs.Closings.{AreAnswers}
use Rattle.gql_reads.proofs.Recorded.{recorded}
use Rattle.gql_reads.proofs.record.record_of.Goals as goal

-- the keys that were scanned are those that the nodes read
scanned : (old ks js : List Key) → old ≡ [] → ks ≡ add_keys old js → Lists ks (Contains js)
scanned old ks js none is =
    let e : ks ≡ add_keys [] js = is ∙ ap (λ l. add_keys l js) none in
    record {
      sound = λ k c. elim (added_from [] js k (subst (λ l. Contains l k) e c)) [ inl a ↦ absurd (Contains-nil k a) | inr b ↦ b ];
      complete = λ k c. subst (λ l. Contains l k) (sym e) (added_new [] js k c);
    }

pub returns-clause-seen : goal.returns-clause-seen
returns-clause-seen g c =
    let F = g.W.World.facts c.args.world.now in
    let same = c.scan_tree.ensures.facts in
    let none : keys c.new-answers.result ≡ [] = ap keys_of c.new-answers.ensures.empty in
    recorded F (g.W.World.names c.args.world.now) (g.met.W.World.is_world c.args.world.now) c.args.tree.now c.scan_tree.new.answers.entries c.in_ok-seen.seen
    c.in_ok-scan_tree.ensures.right (scanned (keys c.new-answers.result) (keys c.scan_tree.new.answers) (tree_reads F c.args.tree.now) none c.in_ok-scan_tree.ensures.asked)
    (subst (λ (G : Facts). AreAnswers G c.scan_tree.new.answers.entries c.in_ok-seen.seen) same c.in_ok-seen.ensures.answers)
