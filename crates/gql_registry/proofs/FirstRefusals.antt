-- Which check stops an edit first, and which one a change fails first, once it has passed those before.
use Rattle.std.proofs.Common.{◌≡◌, ◌<◌, ◌≤◌, ◌≢◌, ◌||◌, inl, inr, ℕ, List, length, Bool, true, false, nat_lt, Option, Some, None, is_some, refl, sym, ◌∙◌, arith}
use Rattle.std.proofs.lemmas.Bool.Decides.{nat_tests}
use Rattle.std.specs.Prelude.{IsUtf8}
use Rattle.gql_text.specs.declared.place.Place.{Place}
use Rattle.gql_grammar.specs.declared.fault.SyntaxRefusal.{SyntaxRefusal}
use Rattle.gql_grammar.specs.declared.fault.SyntaxFault.{SyntaxFault}
use Rattle.gql_grammar.specs.declared.fault.SyntaxFault.TheVariants.{At}
use Rattle.gql_grammar.specs.declared.fault.SyntaxFault.TheVariants as fault
use Rattle.gql_ast.specs.FileMaps.{file_named}
use Rattle.gql_ast.specs.declared.definition.Document.{Document}
use Rattle.gql_ast.specs.declared.fault.FileSide.{FileSide}
use Rattle.gql_registry.specs.Checks.{IsChangeRefusal}
use Rattle.gql_registry.specs.DataBodies.{IsDataText, is_data}
use Rattle.gql_registry.specs.Edits.{put, remove, put_data, set_data, Stops, stale, spent, Fails, too_long, not_text, data_not_text, bad_data, bad_value, syntax, no_file, files_full, rank, IsExpected, IsFirstStop, IsFirstRefusal, IsAccepted}
use Rattle.gql_registry.specs.Refusals.{refusal_of}
use Rattle.gql_registry.specs.Sides.{IsFaultOn, files_on, limit_on}
use Rattle.gql_registry.specs.State.{State, last_revision, profile_of}
use Rattle.gql_registry.specs.declared.refusal.Refusal.{Refusal}
use Rattle.gql_registry.specs.declared.refusal.Refusal.TheVariants as refusal
use Rattle.serde_json.specs.Data.{Data}

-- ---- an edit

-- 206 comes before all others
pub first_stale : (s : State) (expected : ℕ) → expected ≢ s.revision → IsFirstStop s (Some expected) (refusal.Stale s.revision)
first_stale s expected apart = record { stops = stale apart; first = λ other _. omega arith }

after_stale : (s : State) (expected : Option ℕ) (r : Refusal) → IsExpected s expected → Stops s expected r → 1 ≤ rank r
after_stale s _ _ same (stale apart) = absurd (apart same)
after_stale s _ _ same (spent is) = omega arith

-- then 212
pub first_spent : (s : State) (expected : Option ℕ) → IsExpected s expected → s.revision ≡ last_revision → IsFirstStop s expected refusal.Spent
first_spent s expected same is = record { stops = spent is; first = λ other h. after_stale s expected other same h }

-- ---- a file that is put

after_none : (s : State) (side : FileSide) (name bytes : List ℕ) (r : Refusal) → Fails s (put side name bytes) r → 2 ≤ rank r
after_none s side name bytes _ (too_long long) = omega arith
after_none s side name bytes _ (not_text bad) = omega arith
after_none s side name bytes _ (syntax bad) = omega arith
after_none s side name bytes _ (files_full none many) = omega arith

-- 203 comes first
pub first_too_long : (s : State) (side : FileSide) (name bytes : List ℕ) → limit_on (profile_of s) side < length bytes → IsFirstRefusal s (put side name bytes) refusal.TooLong
first_too_long s side name bytes long = record { fails = too_long long; first = λ other h. after_none s side name bytes other h }

after_too_long : (s : State) (side : FileSide) (name bytes : List ℕ) (r : Refusal) → length bytes ≤ limit_on (profile_of s) side → Fails s (put side name bytes) r → 3 ≤ rank r
after_too_long s side name bytes _ short (too_long long) = absurd (omega arith)
after_too_long s side name bytes _ short (not_text bad) = omega arith
after_too_long s side name bytes _ short (syntax bad) = omega arith
after_too_long s side name bytes _ short (files_full none many) = omega arith

-- then 202
pub first_not_text : (s : State) (side : FileSide) (name bytes : List ℕ) → length bytes ≤ limit_on (profile_of s) side → (IsUtf8 bytes → ⊥) → IsFirstRefusal s (put side name bytes) refusal.NotText
first_not_text s side name bytes short bad = record { fails = not_text bad; first = λ other h. after_too_long s side name bytes other short h }

after_not_text : (s : State) (side : FileSide) (name bytes : List ℕ) (r : Refusal) → length bytes ≤ limit_on (profile_of s) side → IsUtf8 bytes → Fails s (put side name bytes) r → 4 ≤ rank r
after_not_text s side name bytes _ short text (too_long long) = absurd (omega arith)
after_not_text s side name bytes _ short text (not_text bad) = absurd (bad text)
after_not_text s side name bytes _ short text (syntax bad) = omega arith
after_not_text s side name bytes _ short text (files_full none many) = omega arith

-- then 201, unless an allocation failed
pub first_syntax : (s : State) (side : FileSide) (name bytes : List ℕ) (f : SyntaxFault) → length bytes ≤ limit_on (profile_of s) side → IsUtf8 bytes
    → ((number : SyntaxRefusal) (place : Place) → f ≡ At number place → IsFaultOn side name bytes (At number place)) → IsChangeRefusal s (put side name bytes) (refusal_of f)
first_syntax s side name bytes (fault.At number place) short text bad =
    inl (record { fails = syntax (bad number place refl); first = λ other h. after_not_text s side name bytes other short text h })
first_syntax s side name bytes fault.Memory short text bad = inr refl

after_syntax : (s : State) (side : FileSide) (name bytes : List ℕ) (r : Refusal) → length bytes ≤ limit_on (profile_of s) side → IsUtf8 bytes → ((f : SyntaxFault) → IsFaultOn side name bytes f → ⊥)
    → Fails s (put side name bytes) r → 6 ≤ rank r
after_syntax s side name bytes _ short text read (too_long long) = absurd (omega arith)
after_syntax s side name bytes _ short text read (not_text bad) = absurd (bad text)
after_syntax s side name bytes _ short text read (syntax bad) = absurd (read _ bad)
after_syntax s side name bytes _ short text read (files_full none many) = omega arith

-- then 205
pub first_files_full : (s : State) (side : FileSide) (name bytes : List ℕ) → length bytes ≤ limit_on (profile_of s) side → IsUtf8 bytes → ((f : SyntaxFault) → IsFaultOn side name bytes f → ⊥)
    → file_named (files_on side s.files) name ≡ None → (profile_of s).limits.files ≤ length (files_on side s.files) → IsFirstRefusal s (put side name bytes) refusal.FilesFull
first_files_full s side name bytes short text read none many =
    record { fails = files_full none many; first = λ other h. after_syntax s side name bytes other short text read h }

-- there is room for a file of the name
pub put_accepted : (s : State) (side : FileSide) (name bytes : List ℕ) → length bytes ≤ limit_on (profile_of s) side → IsUtf8 bytes → ((f : SyntaxFault) → IsFaultOn side name bytes f → ⊥)
    → (file_named (files_on side s.files) name ≡ None → (profile_of s).limits.files ≤ length (files_on side s.files) → ⊥) → IsAccepted s (put side name bytes)
put_accepted s side name bytes short text read room _ (too_long long) = omega arith
put_accepted s side name bytes short text read room _ (not_text bad) = bad text
put_accepted s side name bytes short text read room _ (syntax bad) = read _ bad
put_accepted s side name bytes short text read room _ (files_full none many) = room none many

-- ---- a file that is removed

-- 204 alone
pub first_no_file : (s : State) (side : FileSide) (name : List ℕ) → file_named (files_on side s.files) name ≡ None → IsFirstRefusal s (remove side name) refusal.NoFile
first_no_file s side name none = record { fails = no_file none; first = λ other h. alone other h }
  where
    alone : (r : Refusal) → Fails s (remove side name) r → 5 ≤ rank r
    alone _ (no_file none) = omega arith

pub removal_accepted : (s : State) (side : FileSide) (name : List ℕ) → (file_named (files_on side s.files) name ≡ None → ⊥) → IsAccepted s (remove side name)
removal_accepted s side name some _ (no_file none) = some none

-- ---- data that are put

-- 202
pub first_data_not_text : (s : State) (bytes : List ℕ) → (IsUtf8 bytes → ⊥) → IsFirstRefusal s (put_data bytes) refusal.NotText
first_data_not_text s bytes bad = record { fails = data_not_text bad; first = λ other h. after_none other h }
  where
    after_none : (r : Refusal) → Fails s (put_data bytes) r → 3 ≤ rank r
    after_none _ (data_not_text bad) = omega arith
    after_none _ (bad_data bad) = omega arith

-- then 207
pub first_bad_data : (s : State) (bytes : List ℕ) → IsUtf8 bytes → ((d : Data) → IsDataText (profile_of s) bytes d → ⊥) → IsFirstRefusal s (put_data bytes) refusal.BadData
first_bad_data s bytes text bad = record { fails = bad_data bad; first = λ other h. after_text other h }
  where
    after_text : (r : Refusal) → Fails s (put_data bytes) r → 4 ≤ rank r
    after_text _ (data_not_text bad) = absurd (bad text)
    after_text _ (bad_data bad) = omega arith

pub data_accepted : (s : State) (bytes : List ℕ) (d : Data) → IsUtf8 bytes → IsDataText (profile_of s) bytes d → IsAccepted s (put_data bytes)
data_accepted s bytes d text read _ (data_not_text bad) = bad text
data_accepted s bytes d text read _ (bad_data bad) = bad d read

-- a value: 207 alone
pub first_bad_value : (s : State) (d : Data) → is_data (profile_of s) d ≡ false → IsFirstRefusal s (set_data d) refusal.BadData
first_bad_value s d bad = record { fails = bad_value bad; first = λ other h. alone other h }
  where
    alone : (r : Refusal) → Fails s (set_data d) r → 4 ≤ rank r
    alone _ (bad_value bad) = omega arith

pub value_accepted : (s : State) (d : Data) → is_data (profile_of s) d ≡ true → IsAccepted s (set_data d)
value_accepted s d is _ (bad_value bad) = cc (sym is ∙ bad)

-- a value that is accepted is data
pub accepted_value : (s : State) (d : Data) → IsAccepted s (set_data d) → is_data (profile_of s) d ≡ true
accepted_value s d accepted = by (is_data (profile_of s) d) refl
  where
    by : (b : Bool) → is_data (profile_of s) d ≡ b → is_data (profile_of s) d ≡ true
    by true is = is
    by false is = absurd (accepted refusal.BadData (bad_value is))

-- ---- room

-- a name without room is new, and the side has as many files as it may have
pub no_room : (held : Option Document) (count most : ℕ) → (is_some held || nat_lt count most) ≡ false → (held ≡ None) × (most ≤ count)
no_room (Some d) count most full = absurd (cc full)
no_room None count most full = (refl, grind (arith, nat_tests))

-- and a name with room is not such a name
pub room : (held : Option Document) (count most : ℕ) → (is_some held || nat_lt count most) ≡ true → held ≡ None → most ≤ count → ⊥
room (Some d) count most has none many = absurd (cc none)
room None count most has none many = grind (arith, nat_tests)
