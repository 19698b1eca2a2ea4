use Rattle.gql_serving.proofs.Introspecting.{introspectable}
use Rattle.gql_serving.proofs.laws.introspection.Goals as goal

pub returns-clause-files : goal.returns-clause-files
returns-clause-files c = λ files sound. introspectable files sound

pub returns-clause-answers : goal.returns-clause-answers
returns-clause-answers c = λ files given n name t sound there has. c.answers_have_their_types.ensures files given n name t (introspectable files sound) there has
