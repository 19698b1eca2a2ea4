use Rattle.gql_usage.specs.Stored.{facts_of}
use Rattle.gql_usage.proofs.Reading.{none_exactly, ok_then, readers_as, stored_as}
use Rattle.gql_usage.proofs.reader.readers_of.Goals as goal

pub readers_among-requires : goal.readers_among-requires
readers_among-requires c = record { stored = stored_as _ _ c.present.ensures _ _ c.definitions.ensures _ c.requires.stored }

pub returns-clause-readers : goal.returns-clause-readers
returns-clause-readers c = ok_then c.readers_among.result (λ v h. readers_as _ _ c.present.ensures _ _ c.definitions.ensures _ _ h) c.readers_among.ensures.readers

pub returns-clause-none : goal.returns-clause-none
returns-clause-none c = ok_then c.readers_among.result
    (λ v h. none_exactly (facts_of c.args.stored.now) c.args.removal.now c.args.stored.now.definitions.items v.items c.requires.stored.fragments
    (readers_as _ _ c.present.ensures _ _ c.definitions.ensures _ _ h)) c.readers_among.ensures.readers
