use Rattle.gql_http.proofs.Pieces.{any_pieces_lem}
use Rattle.gql_http.proofs.laws.any_pieces.Goals as goal

pub returns : goal.returns
returns c = any_pieces_lem c.one_split.ensures c.more_bytes.ensures c.closed_drops.ensures c.nothing_is_unfinished.ensures
