-- The last tokens of a list.
use Rattle.std.proofs.Common.{◌≡◌, List, [], ◌∷◌, ◌++◌, refl, sym, ap, ◌∙◌, append_assoc}
use Rattle.gql_text.specs.Lexeme.{Lexeme}
use Rattle.gql_grammar.specs.Symbol.{IsRest}

pub whole_rest : (ts : List Lexeme) → IsRest ts ts
whole_rest ts = record { front = []; parts = refl }

pub same_rest : {us ts : List Lexeme} → us ≡ ts → IsRest us ts
same_rest h = record { front = []; parts = h }

pub rest_then : {vs us ts : List Lexeme} → IsRest vs us → IsRest us ts → IsRest vs ts
rest_then {vs = vs} h k = record { front = k.front ++ h.front; parts = append_assoc k.front h.front vs ∙ ap (λ r. k.front ++ r) h.parts ∙ k.parts }

pub rest_after : {us ts : List Lexeme} {t : Lexeme} → ts ≡ t ∷ us → IsRest us ts
rest_after {t = t} h = record { front = t ∷ []; parts = sym h }

pub ruleset rests = (rest_then, same_rest)
