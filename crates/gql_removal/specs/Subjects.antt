-- The word for a part of a schema: its coordinate.
use Rattle.std.specs.Prelude.{ℕ, ◌≡◌, ◌≢◌, ◌<◌, ◌++◌, ◌∷◌, [], List, length, get_or, Option, Some, None}
use Rattle.gql_removal.specs.declared.subject.Subject.{Subject}
use Rattle.gql_removal.specs.declared.subject.Subject.TheVariants.{«Type» as a_type, Member, Argument, Directive, DirectiveArgument}

-- a name or another text, as its bytes
abbrev pub Name : Type 0
Name = List ℕ

-- the bytes `@`, `.`, `(`, `:` and `)`
abbrev pub at_sign : ℕ
at_sign = 64

abbrev pub dot : ℕ
dot = 46

abbrev pub opening : ℕ
opening = 40

abbrev pub colon : ℕ
colon = 58

abbrev pub closing : ℕ
closing = 41

-- the text begins with `@`
abbrev pub BeginsWithAt : Name → Type 0
BeginsWithAt text = (rest : Name) × (text ≡ at_sign ∷ rest)

-- the text has no such byte
abbrev pub HasNo : ℕ → Name → Type 0
HasNo byte text = (i : ℕ) → i < length text → get_or text i 0 ≢ byte

-- The part that a word without `(` names: a directive after `@`, or else a member after the first dot,
-- or else a type.
pub data NamesPlainly (word : Name) : Subject → Type 0 where
  a_directive : {name : Name} → word ≡ at_sign ∷ name → NamesPlainly word (Directive name)
  a_member : {of_type name : Name} → (BeginsWithAt word → ⊥) → HasNo dot of_type
      → word ≡ of_type ++ dot ∷ name → NamesPlainly word (Member of_type name)
  of_type : {name : Name} → (BeginsWithAt word → ⊥) → HasNo dot word → word ≡ name
      → NamesPlainly word (a_type name)

-- The part that is the argument of this name, by the word before `(`: an argument of a directive after
-- `@`, or else one of the field after the first dot. There is none without a dot.
pub data NamesArgument (front name : Name) : Option Subject → Type 0 where
  of_directive : {directive : Name} → front ≡ at_sign ∷ directive
      → NamesArgument front name (Some (DirectiveArgument directive name))
  of_field : {of_type field : Name} → (BeginsWithAt front → ⊥) → HasNo dot of_type
      → front ≡ of_type ++ dot ∷ field → NamesArgument front name (Some (Argument of_type field name))
  of_nothing : (BeginsWithAt front → ⊥) → HasNo dot front → NamesArgument front name None

-- The part that a word names. A word with `(` names an argument, and ends with `:)`; or it names
-- nothing.
pub data Names (word : Name) : Option Subject → Type 0 where
  plainly : {s : Subject} → HasNo opening word → NamesPlainly word s → Names word (Some s)
  an_argument : (front name : Name) {s : Option Subject} → HasNo opening front
      → word ≡ front ++ opening ∷ (name ++ colon ∷ closing ∷ []) → NamesArgument front name s
      → Names word s
  no_argument : (front rest : Name) → HasNo opening front → word ≡ front ++ opening ∷ rest
      → ((name : Name) → rest ≢ name ++ colon ∷ closing ∷ []) → Names word None
