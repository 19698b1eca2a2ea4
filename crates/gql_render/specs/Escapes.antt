-- Texts within the texts of a format: each character as it is, or as what stands for it there.
use Rattle.std.specs.Prelude.{ℕ, List, [], ◌∷◌, ◌==◌, codes, encode_utf8, if◌then◌else◌}
use Rattle.std.specs.List.{flat_map}
use Rattle.std.specs.Str.{chars}
use Rattle.gql_render.specs.declared.escapes.Format.{Format}
use Rattle.gql_render.specs.declared.escapes.Format.TheVariants.{Message, Property, Html, Markdown}

-- the bytes for a character: what stands for it, or itself if that is empty
abbrev pub written : ℕ → List ℕ → List ℕ
written c [] = encode_utf8 c
written c (b ∷ bs) = b ∷ bs

-- what stands for a character in the text of an annotation; empty for the character itself
abbrev pub message_escape : ℕ → List ℕ
message_escape c = if c == 37 then codes "%25" else if c == 13 then codes "%0D"
    else if c == 10 then codes "%0A" else []

-- what stands for a character in a property of an annotation; empty for the character itself
abbrev pub property_escape : ℕ → List ℕ
property_escape c = if c == 58 then codes "%3A" else if c == 44 then codes "%2C"
    else message_escape c

-- the entity for a character in HTML; empty for the character itself
abbrev pub html_entity : ℕ → List ℕ
html_entity c = if c == 38 then codes "&amp;" else if c == 60 then codes "&lt;"
    else if c == 62 then codes "&gt;" else if c == 34 then codes "&quot;"
    else if c == 39 then codes "&#39;" else []

-- the entity for a character that is markup in Markdown; empty for the character itself
abbrev pub markdown_entity : ℕ → List ℕ
markdown_entity c = if c == 96 then codes "&#96;" else if c == 42 then codes "&#42;"
    else if c == 95 then codes "&#95;" else if c == 91 then codes "&#91;"
    else if c == 93 then codes "&#93;" else if c == 124 then codes "&#124;"
    else if c == 92 then codes "&#92;" else if c == 126 then codes "&#126;"
    else if c == 10 then codes "&#10;" else if c == 13 then codes "&#13;"
    else html_entity c

-- what stands for a character in a format; empty for the character itself
abbrev pub escape_in : Format → ℕ → List ℕ
escape_in Message = message_escape
escape_in Property = property_escape
escape_in Html = html_entity
escape_in Markdown = markdown_entity

-- a text, each of its characters as it is or as what stands for it
unfoldable pub escaped : (ℕ → List ℕ) → List ℕ → List ℕ
escaped escape text = flat_map (λ c. written c (escape c)) (chars text)
