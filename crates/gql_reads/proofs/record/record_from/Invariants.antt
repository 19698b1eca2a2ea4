use Rattle.std.proofs.Common.{◌≡◌, ◌++◌, Contains, map}
use Rattle.gql_facts.specs.declared.fact.Fact.{Fact}
use Rattle.gql_facts.specs.declared.key.Key.{Key}
use Rattle.gql_facts.specs.Members.{Lists}
use Rattle.gql_reads.specs.Closings.{observation_of}
use Rattle.gql_reads.specs.Records.{IsTold}
use Rattle.gql_reads.specs.Tables.{AllHold, IsAnswer}
use Rattle.gql_reads.specs.declared.observation.Answer.{Answer}
use Rattle.gql_reads.proofs.record.record_from.Given as goal

abbrev pub invariant-loop-key : goal.invariant-loop-key
invariant-loop-key g l =
    let F = g.W.World.facts l.fn.world in
    record {
      same_facts : g.W.World.facts l.world ≡ F;
      same_names : g.W.World.names l.world ≡ g.W.World.names l.fn.world;
      same_lent : g.W.World.lent l.world ≡ g.W.World.lent l.fn.world;
      holds : AllHold F l.table;
      parts : l.table.parts ≡ l.fn.table.parts;
      left : (e : Key × Fact) → Contains l.key-iterator e → Contains l.fn.answers.entries e;
      so_far : map (λ (a : Answer). a.observation) l.found.items ++ map observation_of l.key-iterator ≡ map observation_of l.fn.answers.entries;
      right : (a : Answer) → Contains l.found.items a → IsAnswer F a.observation.key a;
      told : Lists l.spreads.items (IsTold l.found.items);
    }
