use Rattle.std.proofs.Common.{map, sym, subst, ◌∙◌}
use Rattle.std.proofs.lemmas.List.{take-map}
use Rattle.gql_text.specs.Lexeme.{lexeme}
use Rattle.gql_parse_sdl.specs.Placed.{Rising}
use Rattle.gql_parse_sdl.proofs.Rising.{rising_take}
use Rattle.gql_parse_sdl.proofs.document_file.from_tokens.Goals as goal

pub document-requires : goal.document-requires
document-requires c = record {
  rising = subst Rising (sym (c.new-cursor.ensures ∙ sym (take-map lexeme c.looked_at-looked.result c.args.tokens.now)))
      (rising_take c.looked_at-looked.result (map lexeme c.args.tokens.now) c.requires.rising);
}
