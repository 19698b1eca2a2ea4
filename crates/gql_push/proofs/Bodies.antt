-- Bodies that are UTF-8, and those that are not.
use Rattle.std.proofs.Common.{ℕ, ◌≡◌, ◌∙◌, List, Bool, true, false, cond, Option, Some, None, refl, sym, ap}
use Rattle.std.specs.Prelude.{IsUtf8}
use Rattle.std.specs.Str.{is_utf8}
use Rattle.std.proofs.lemmas.Str.{IsUtf8-from_is_utf8, is_utf8-from_IsUtf8}
use Rattle.serde_json.specs.Data.{Data, string}
use Rattle.serde_json.specs.Read.{read}
use Rattle.gql_push.specs.Batches.{text_in}
use Rattle.gql_push.specs.Replies.{value_in}

-- the value of a body that is UTF-8 is that of its text
pub text_value : (bytes text : List ℕ) (d : Option Data) → IsUtf8 bytes → text ≡ bytes → read text ≡ d → d ≡ value_in bytes
text_value bytes text d is same value =
    sym value ∙ ap read same ∙ sym (ap (λ b. cond b (read bytes) None) (is_utf8-from_IsUtf8 bytes is))

no_value_by : (bytes : List ℕ) (b : Bool) → is_utf8 bytes ≡ b → ¬ (IsUtf8 bytes) → None ≡ value_in bytes
no_value_by bytes true is not_text = absurd (not_text (IsUtf8-from_is_utf8 bytes is))
no_value_by bytes false is not_text = sym (ap (λ b. cond b (read bytes) None) is)

-- a body that is not UTF-8 has no value
pub no_value : (bytes : List ℕ) → ¬ (IsUtf8 bytes) → None ≡ value_in bytes
no_value bytes not_text = no_value_by bytes (is_utf8 bytes) refl not_text

-- a file that is text
pub text_of : (bytes text : List ℕ) (d : Data) → IsUtf8 bytes → text ≡ bytes → d ≡ string text → Some d ≡ text_in bytes
text_of bytes text d is same value =
    ap Some (value ∙ ap string same) ∙ sym (ap (λ b. cond b (Some (string bytes)) None) (is_utf8-from_IsUtf8 bytes is))

no_text_by : (bytes : List ℕ) (b : Bool) → is_utf8 bytes ≡ b → ¬ (IsUtf8 bytes) → None ≡ text_in bytes
no_text_by bytes true is not_text = absurd (not_text (IsUtf8-from_is_utf8 bytes is))
no_text_by bytes false is not_text = sym (ap (λ b. cond b (Some (string bytes)) None) is)

-- a file that is not
pub no_text : (bytes : List ℕ) → ¬ (IsUtf8 bytes) → None ≡ text_in bytes
no_text bytes not_text = no_text_by bytes (is_utf8 bytes) refl not_text
