-- One part of a text: the relations go on behind it.
use Rattle.std.proofs.Common.{◌≡◌, ℕ, ◌+◌, ◌-◌, ◌≤◌, List, [], ◌∷◌, ◌++◌, length, take, drop, drop-drop, append_assoc, sym, ap, ◌∙◌, arith, map}
use Rattle.std.specs.Prelude.{slice_range}
use Rattle.std.proofs.lemmas.List.{map-append, drop-take, take-take, take-append-drop, take_rest}
use Rattle.std.proofs.Math.ListN.{drop_of_length-le}
use Rattle.gql_text.specs.Place.{place_after}
use Rattle.gql_text.specs.Lexeme.{Lexeme, lexeme}
use Rattle.gql_text.specs.Lexis.{Stands, Tokens, at_end, dropped, token, Faulty, here, behind_dropped, behind_token}
use Rattle.gql_text.specs.declared.place.Place.{Place}
use Rattle.gql_text.specs.declared.token.Token as code
use Rattle.gql_text.specs.declared.token.Kind.{Kind}
use Rattle.gql_text.specs.declared.token.LexRefusal.{LexRefusal}
use Rattle.gql_text.specs.declared.front.Part.{Part}
use Rattle.gql_text.specs.declared.front.Part.TheVariants.{Dropped, Taken, Refused}

-- the bytes before, and n more
pub before_more : (s : List ℕ) (o n : ℕ) → take o s ++ take n (drop o s) ≡ take (o + n) s
before_more s o n =
    ap (λ t. take o s ++ t) (sym (drop-take o n s))
    ∙ ap (λ t. t ++ drop o (take (o + n) s)) (sym (take-take o (o + n) s (omega arith)))
    ∙ take-append-drop o (take (o + n) s)

pub tokens_dropped : (s : List ℕ) (o n : ℕ) (ts : List Lexeme) → Stands (drop o s) (Dropped n)
    → Tokens (take (o + n) s) (drop (o + n) s) ts → Tokens (take o s) (drop o s) ts
tokens_dropped s o n ts h r = dropped h (rw (before_more s o n, drop-drop n o s) r)

pub tokens_token : (s : List ℕ) (o n : ℕ) (kind : Kind) (ts : List Lexeme) → Stands (drop o s) (Taken kind n)
    → Tokens (take (o + n) s) (drop (o + n) s) ts
    → Tokens (take o s) (drop o s) (record { kind = kind; text = take n (drop o s); place = place_after (take o s) } ∷ ts)
tokens_token s o n kind ts h r = token h (rw (before_more s o n, drop-drop n o s) r)

pub faulty_dropped : (s : List ℕ) (o n : ℕ) (f : LexRefusal) (p : Place) → Stands (drop o s) (Dropped n)
    → Faulty (take (o + n) s) (drop (o + n) s) f p → Faulty (take o s) (drop o s) f p
faulty_dropped s o n f p h r = behind_dropped h (rw (before_more s o n, drop-drop n o s) r)

pub faulty_token : (s : List ℕ) (o n : ℕ) (kind : Kind) (f : LexRefusal) (p : Place) → Stands (drop o s) (Taken kind n)
    → Faulty (take (o + n) s) (drop (o + n) s) f p → Faulty (take o s) (drop o s) f p
faulty_token s o n kind f p h r = behind_token h (rw (before_more s o n, drop-drop n o s) r)

pub faulty_here : (s : List ℕ) (o n : ℕ) (f : LexRefusal) (p : Place) → Stands (drop o s) (Refused f n)
    → p ≡ place_after (take (o + n) s) → Faulty (take o s) (drop o s) f p
faulty_here s o n f p h e = here h (e ∙ ap place_after (sym (before_more s o n)))

-- a rest of a slice, as an expression with its range says it
pub stood : (s : List ℕ) (o : ℕ) (p : Part) → Stands (take (length s - o) (drop o s)) p → Stands (drop o s) p
stood s o p h = rw take_rest at h

-- behind the last byte there are no tokens
pub tokens_end : (s : List ℕ) (o : ℕ) → length s ≤ o → Tokens (take o s) (drop o s) []
tokens_end s o h = rw (drop_of_length-le s h) at_end

-- a part of a text between two offsets
pub slice_is : (s : List ℕ) (o n : ℕ) → slice_range s o (o + n) ≡ take n (drop o s)
slice_is s o n = let e : o + n - o ≡ n = omega arith in ap (λ k. take k (drop o s)) e

-- a token that says this text and this place
pub lexeme_is : (t : code.Token) (text : List ℕ) (place : Place) → t.text.now ≡ text → t.place ≡ place
    → lexeme t ≡ record { kind = t.kind; text = text; place = place }
lexeme_is t text place e h = ap (λ (x : List ℕ). record { kind = t.kind; text = x; place = t.place }) e ∙ ap (λ (y : Place). record { kind = t.kind; text = text; place = y }) h

-- one more token at the end
pub pushed : (s : List ℕ) (old new : List code.Token) (t : code.Token) (said : Lexeme) (ts : List Lexeme) → new ≡ old ++ t ∷ [] → lexeme t ≡ said
    → Tokens [] s (map lexeme old ++ said ∷ ts) → Tokens [] s (map lexeme new ++ ts)
pushed s old new t said ts e h r = rw (e, map-append, append_assoc) (rw h r)
