-- A body of a batch says one edit, or is no batch.
use Rattle.std.proofs.Common.{◌≡◌, ℕ, List, Bool, true, false, Option, Some, None, refl, sym, ap, ◌∙◌}
use Rattle.json.specs.Json.{document}
use Rattle.gql_ast.specs.declared.profile.Profile.{Profile}
use Rattle.gql_registry.specs.Edits.{Edit}
use Rattle.serde_json.specs.Data.{Data}
use Rattle.serde_json.specs.Read.{read}
use Rattle.gql_http.specs.Batches.{Says, edit_in, is_once, reads, twice, not_json, not_text}
use Rattle.gql_http.specs.Editing.{Asks}
use Rattle.gql_http.specs.Routes.{EditKind, put, remove, put_data, batch}
use Rattle.gql_http.proofs.Joining.{some_same}

read_clash : (r : Option Data) (d : Data) → r ≡ Some d → r ≡ None → ⊥
read_clash r d x y = let clash : Some d ≡ None = sym x ∙ y in cc clash

truth_clash : (b : Bool) → b ≡ true → b ≡ false → ⊥
truth_clash b x y = let clash : true ≡ false = sym x ∙ y in cc clash

one_said : (most : ℕ) (body : List ℕ) (x y : Option Edit) → Says most body x → Says most body y → x ≡ y
one_said most body _ _ (reads {d = d} text is once) (reads {d = e} other also again) = ap (edit_in most) (some_same d e (sym is ∙ also))
one_said most body _ _ (reads text is once) (twice other more) = absurd (truth_clash (is_once (document body)) once more)
one_said most body _ _ (reads {d = d} text is once) (not_json other none) = absurd (read_clash (read body) d is none)
one_said most body _ _ (reads text is once) (not_text bad) = absurd (bad text)
one_said most body _ _ (twice text more) (reads other also again) = absurd (truth_clash (is_once (document body)) again more)
one_said most body _ _ (twice text more) (twice other again) = refl
one_said most body _ _ (twice text more) (not_json other none) = refl
one_said most body _ _ (twice text more) (not_text bad) = refl
one_said most body _ _ (not_json text none) (reads {d = e} other also again) = absurd (read_clash (read body) e also none)
one_said most body _ _ (not_json text none) (twice other more) = refl
one_said most body _ _ (not_json text none) (not_json other also) = refl
one_said most body _ _ (not_json text none) (not_text bad) = refl
one_said most body _ _ (not_text bad) (reads other also again) = absurd (bad other)
one_said most body _ _ (not_text bad) (twice other more) = refl
one_said most body _ _ (not_text bad) (not_json other none) = refl
one_said most body _ _ (not_text bad) (not_text also) = refl

-- a call asks for one edit, or for none
pub one_asked : (profile : Profile) (kind : EditKind) (body : List ℕ) (x y : Option Edit) → Asks profile kind body x → Asks profile kind body y → x ≡ y
one_asked profile (put side name) body x y h k = h ∙ sym k
one_asked profile (remove side name) body x y h k = h ∙ sym k
one_asked profile put_data body x y h k = h ∙ sym k
one_asked profile batch body x y h k = one_said profile.limits.name body x y h k
