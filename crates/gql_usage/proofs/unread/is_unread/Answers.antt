use Rattle.gql_usage.proofs.Reading.{stored_as, unread_as}
use Rattle.gql_usage.proofs.unread.is_unread.Goals as goal

pub breaks_none-requires : goal.breaks_none-requires
breaks_none-requires c = record { stored = stored_as _ _ c.present.ensures _ _ c.definitions.ensures _ c.requires.stored }

pub returns : goal.returns
returns c = unread_as _ _ c.present.ensures _ _ c.definitions.ensures _ c.breaks_none.result c.breaks_none.ensures
