use Rattle.gql_server.proofs.Growing.{grows_same}
use Rattle.gql_server.proofs.together.seat_of.Goals as goal

pub returns-in_default : goal.returns-in_default
returns-in_default g c =
    grows_same _ _ _ _ _ c.in_default.ensures.kept c.in_default.ensures.socket c.take_back.ensures

pub returns-in_default-new_piece : goal.returns-in_default-new_piece
returns-in_default-new_piece g c =
    grows_same _ _ _ _ _ c.in-Ok.ensures.kept c.in-Ok.ensures.socket c.take_back-in_default-new_piece.ensures
