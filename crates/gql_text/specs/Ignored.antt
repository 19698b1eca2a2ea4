-- What is ignored between tokens, by the specification's productions (2.1.7, appendix B.1).
use Rattle.std.specs.Prelude.{ℕ, ◌≡◌, List, [], ◌∷◌, true}
use Rattle.std.specs.List.{list_all}
use Rattle.gql_text.specs.Chars.{is_break, is_source_byte}
use Rattle.gql_text.specs.Values.{is_white}

-- Ignored: UnicodeBOM (the bytes of U+FEFF), WhiteSpace, LineTerminator, Comma, or Comment, which
-- goes up to the end of its line. CR LF counts as two: each character is ignored by itself.
pub data IsIgnored : List ℕ → Type 0 where
  byte_order_mark : {text : List ℕ} → text ≡ 239 ∷ 187 ∷ 191 ∷ [] → IsIgnored text
  white_space : {text : List ℕ} {b : ℕ} → text ≡ b ∷ [] → is_white b ≡ true → IsIgnored text
  line_terminator : {text : List ℕ} {b : ℕ} → text ≡ b ∷ [] → is_break b ≡ true → IsIgnored text
  comma : {text : List ℕ} → text ≡ 44 ∷ [] → IsIgnored text
  comment : {text rest : List ℕ} → text ≡ 35 ∷ rest → list_all is_source_byte rest ≡ true
      → IsIgnored text
