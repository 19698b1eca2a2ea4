use Rattle.std.proofs.Common.{List, [], subst, sym, take}
use Rattle.std.proofs.lemmas.List.{take_all}
use Rattle.gql_ast.specs.declared.definition.Definition.{Definition}
use Rattle.gql_reads.proofs.Takes.{one_more}
use Rattle.gql_usage.specs.Readers.{AreReaders, no_definitions}
use Rattle.gql_facts.specs.Presents.{facts_of_present}
use Rattle.gql_usage.specs.declared.reader.Reader.{Reader}
use Rattle.gql_usage.proofs.reader.readers_among.Goals as goal

pub loop-definition-init : goal.loop-definition-init
loop-definition-init c = record { holds = c.nothing_shared-shared.ensures _; so_far = subst (λ (xs : List Reader). AreReaders (facts_of_present c.args.question.now.present) c.args.question.now.removal.now [] xs) (sym c.new-readers.ensures.items) no_definitions }

pub add_reader-requires-clause-stored : goal.add_reader-requires-clause-stored
add_reader-requires-clause-stored c = (c.args.definitions.now, c.requires.stored, (c.loop-definition.definition-index, c.loop-definition-test.true, sym c.definition-item.is))

pub loop-definition-preserved : goal.loop-definition-preserved
loop-definition-preserved c = record {
  holds = c.in_ok-add_reader.ensures.shared;
  so_far = subst (λ (ds : List Definition). AreReaders (facts_of_present c.args.question.now.present) c.args.question.now.removal.now ds c.add_reader.new.readers.items)
      (sym (one_more c.args.definitions.now c.loop-definition.definition-index c.definition-item.result c.loop-definition-test.true c.definition-item.is))
      (c.in_ok-add_reader.ensures.adds (take c.loop-definition.definition-index c.args.definitions.now) c.loop-definition.invariant.so_far);
}

pub returns : goal.returns
returns c = record {
  readers = subst (λ (ds : List Definition). AreReaders (facts_of_present c.args.question.now.present) c.args.question.now.removal.now ds c.loop-definition.readers.items)
      (take_all _ _ c.loop-definition-test.false) c.loop-definition.invariant.so_far;
}
