-- The text of a literal parses to no other value.
use Rattle.std.proofs.Common.{◌≡◌, [], sym, ap, ◌∙◌, Ok}
use Rattle.gql_text.proofs.Readings.{lexed_one}
use Rattle.gql_parse.specs.Values.{value}
use Rattle.gql_printed.specs.Laws.{OnlySameValue}
use Rattle.gql_printed.specs.Same.{without_places}
use Rattle.gql_printed.proofs.Found.{same_value}
use Rattle.gql_printed.proofs.Printed.{written_parsed}

pub only_same_value : OnlySameValue
only_same_value limit c x h tokens parsed lexed derived =
    let t = written_parsed limit c x h lexed.short in
    let same : tokens ≡ t.tokens = lexed_one lexed t.lexed in
    let first = (value c).only tokens (Ok (parsed, [])) derived in
    let second = (value c).only t.tokens (Ok (t.parsed, [])) t.derived in
    let read = sym first ∙ ap (λ ts. (value c).read ts) same ∙ second in
    ap without_places (same_value parsed t.parsed [] [] read) ∙ t.same_value
