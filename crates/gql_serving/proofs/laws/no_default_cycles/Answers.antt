use Rattle.gql_serving.proofs.Sound as sound
use Rattle.gql_serving.proofs.laws.no_default_cycles.Goals as goal

pub returns : goal.returns
returns c = λ files is_sound. sound.no_default_cycles files is_sound
