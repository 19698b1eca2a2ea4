-- The text of data without doubles.
use Rattle.std.proofs.Common.{◌≡◌, ◌||◌, ◌∷◌, ◌++◌, ◌∙◌, Bool, true, false, refl, ap}
use Rattle.json.specs.Print.{quoted}
use Rattle.serde_json.specs.Data as json
use Rattle.serde_json.specs.Data.{Data, Num, Items, no_items, item, Members, no_members, member}
use Rattle.serde_json.specs.Find.{is_float}
use Rattle.serde_json.specs.Written as written
use Rattle.serde_json.specs.Written.{comma_if, has_float, items_have_float, members_have_float}
use Rattle.gql_steps.specs.JsonText.{json_text, items_text, members_text, number_text}

or_first : (a b : Bool) → (a || b) ≡ false → a ≡ false
or_first true b e = cc
or_first false b e = refl

or_second : (a b : Bool) → (a || b) ≡ false → b ≡ false
or_second true b e = cc
or_second false b e = e

same_number : (n : Num) → is_float n ≡ false → number_text n ≡ written.number_text n
same_number (json.unsigned n) h = refl
same_number (json.negative z) h = refl
same_number (json.float x) h = cc

mutual
  pub same_text : (d : Data) → has_float d ≡ false → json_text d ≡ written.compact_text d
  same_text json.null h = refl
  same_text (json.boolean b) h = refl
  same_text (json.number n) h = same_number n h
  same_text (json.string s) h = refl
  same_text (json.array ds) h = ap (λ l. 91 ∷ l) (same_items false ds h)
  same_text (json.object ms) h = ap (λ l. 123 ∷ l) (same_members false ms h)

  same_items : (later : Bool) (ds : Items) → items_have_float ds ≡ false → items_text later ds ≡ written.items_text later ds
  same_items later no_items h = refl
  same_items later (item d ds) h =
      ap (λ l. comma_if later ++ (l ++ items_text true ds)) (same_text d (or_first (has_float d) (items_have_float ds) h))
      ∙ ap (λ l. comma_if later ++ (written.compact_text d ++ l)) (same_items true ds (or_second (has_float d) (items_have_float ds) h))

  same_members : (later : Bool) (ms : Members) → members_have_float ms ≡ false → members_text later ms ≡ written.members_text later ms
  same_members later no_members h = refl
  same_members later (member k d ms) h =
      ap (λ l. comma_if later ++ (quoted k ++ 58 ∷ (l ++ members_text true ms))) (same_text d (or_first (has_float d) (members_have_float ms) h))
      ∙ ap (λ l. comma_if later ++ (quoted k ++ 58 ∷ (written.compact_text d ++ l))) (same_members true ms (or_second (has_float d) (members_have_float ms) h))
