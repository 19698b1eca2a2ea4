-- Annotations of a build server of GitHub: the text of each, and those of a check.
use Rattle.std.specs.Prelude.{ℕ, ◌≡◌, ◌+◌, ◌-◌, ◌≤◌, List, [], ◌∷◌, ◌++◌, ◌==◌, length, map, take, codes, decimal, Option, Some, None, string_bytes, if◌then◌else◌}
use Rattle.std.specs.List.{flat_map}
use Rattle.gql_ast.specs.Rules.{name_of}
use Rattle.gql_render.specs.Escapes.{escaped, message_escape, property_escape}
use Rattle.gql_render.specs.Phrases.{first_words, count_text}
use Rattle.gql_render.specs.Picking.{picked}
use Rattle.gql_render.specs.Telling.{IsRanked}
use Rattle.gql_render.specs.declared.annotation.Annotation.{Annotation}
use Rattle.gql_render.specs.declared.annotation.Level.{Level}
use Rattle.gql_render.specs.declared.annotation.Level.TheVariants.{Error, Warning, Notice}
use Rattle.gql_render.specs.declared.annotation.Place.{Place}
use Rattle.gql_render.specs.declared.check.Check.{Check}

-- the word for a level
abbrev pub level_word : Level → List ℕ
level_word Error = codes "error"
level_word Warning = codes "warning"
level_word Notice = codes "notice"

-- a column, if there is one
abbrev pub column_text : Option ℕ → List ℕ
column_text None = []
column_text (Some n) = codes ",col=" ++ decimal n

-- a place
unfoldable pub place_text : Place → List ℕ
place_text p = codes "file=" ++ escaped property_escape p.file.now ++ codes ",line="
    ++ decimal p.line ++ column_text p.column ++ codes ","

-- a place, if there is one
abbrev pub place_text_if : Option Place → List ℕ
place_text_if None = []
place_text_if (Some p) = place_text p

-- the level, the place and the title of an annotation
unfoldable pub head_text : Annotation → List ℕ
head_text a = codes "::" ++ level_word a.level ++ codes " " ++ place_text_if a.place
    ++ codes "title=" ++ escaped property_escape a.title.now ++ codes "::"

-- an annotation
unfoldable pub annotation_text : Annotation → List ℕ
annotation_text a = head_text a ++ escaped message_escape (string_bytes a.text) ++ codes "\n"

-- the annotation that the documents of now are hidden; nothing where they are not
abbrev pub hidden_line : List ℕ → List ℕ
hidden_line [] = []
hidden_line (b ∷ bs) = codes "::error title=Documents::" ++ (b ∷ bs) ++ codes "\n"

-- how many annotations that is
abbrev pub hidden_count : List ℕ → ℕ
hidden_count [] = 0
hidden_count (b ∷ bs) = 1

-- the notice that this number of faults has no annotation
unfoldable pub more_text : ℕ → List ℕ
more_text n =
    codes "::notice title=More::and " ++ count_text n (codes "more fault") ++ codes "\n"

-- the notice that this number of faults has no annotation; nothing where there is none
abbrev pub more_line : ℕ → List ℕ
more_line n = if n == 0 then [] else more_text n

-- what is said of a check: first that the documents of now are hidden, if they are; then where
-- schema files differ; then faults; then how many faults have no annotation; then notices
unfoldable pub parts_text : List ℕ → List Annotation → List Annotation → ℕ → List ℕ → List ℕ
parts_text first changed faults others notices = hidden_line first
    ++ flat_map annotation_text changed ++ flat_map annotation_text faults ++ more_line others
    ++ notices

-- The faults that tell most are shown, in their order, each by an annotation with its rule, so many
-- that there are at most ten annotations beside notices, and the others are counted.
pub record AreAnnotations (check : Check) (text : List ℕ) : Type 0 where
  pub changed : List Annotation
  pub ranked : List ℕ
  pub shown : ℕ
  pub faults : List Annotation
  pub notices : List ℕ
  pub order : IsRanked check ranked
  pub few : hidden_count (first_words check) + length changed + shown ≤ 10
  pub rules : map (λ a. a.title.now) faults
      ≡ map (λ f. name_of f.rule) (picked check.now.now.findings.items (take shown ranked))
  pub parts : text
      ≡ parts_text (first_words check) changed faults (length ranked - shown) notices
