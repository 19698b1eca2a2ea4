-- Names of files are text.
use Rattle.std.proofs.Common.{◌≡◌, ℕ, zero, suc, ◌<◌, ◌&&◌, slice_index, List, [], ◌∷◌, Bool, true, false, arith, refl}
use Rattle.std.specs.List.{list_all}
use Rattle.std.specs.Str.{IsAscii, IsUtf8}
use Rattle.std.proofs.lemmas.Str.{IsUtf8-from_ascii}
use Rattle.std.proofs.lemmas.Bool.Decides.{nat_tests}
use Rattle.gql_ast.specs.FileNames.{is_file_name, is_file_name_byte}

byte_is_ascii : (b : ℕ) → is_file_name_byte b ≡ true → b < 128
byte_is_ascii b h = grind (arith, nat_tests)

both : (a b : Bool) → (a && b) ≡ true → (a ≡ true) × (b ≡ true)
both true b h = (refl, h)
both false b h = cc

ascii_cons : (b : ℕ) (bs : List ℕ) → b < 128 → IsAscii bs → (i : ℕ) → slice_index (b ∷ bs) i < 128
ascii_cons b bs first rest zero = first
ascii_cons b bs first rest (suc i) = rest i

bytes_are_ascii : (bs : List ℕ) → list_all is_file_name_byte bs ≡ true → IsAscii bs
bytes_are_ascii [] h = λ i. omega arith
bytes_are_ascii (b ∷ bs) h =
    let parts = both (is_file_name_byte b) (list_all is_file_name_byte bs) h in
    ascii_cons b bs (byte_is_ascii b parts.0) (bytes_are_ascii bs parts.1)

pub name_is_text : (most : ℕ) (bs : List ℕ) → is_file_name most bs ≡ true → IsUtf8 bs
name_is_text most bs h = IsUtf8-from_ascii bs (bytes_are_ascii bs (both _ _ h).1)

by_test : (most : ℕ) (bs : List ℕ) (t : Bool) → is_file_name most bs ≡ t → (IsUtf8 bs → ⊥) → is_file_name most bs ≡ false
by_test most bs true h no_text = absurd (no_text (name_is_text most bs h))
by_test most bs false h no_text = h

-- bytes that are no text are no name
pub no_text_no_name : (most : ℕ) (bs : List ℕ) → (IsUtf8 bs → ⊥) → is_file_name most bs ≡ false
no_text_no_name most bs no_text = by_test most bs (is_file_name most bs) refl no_text
