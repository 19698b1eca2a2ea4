-- The text of a literal, before other text, has tokens that derive a literal of the same value.
use Rattle.std.proofs.Common.{◌≡◌, ◌≢◌, ℕ, List, [], ◌∷◌, ◌++◌, length, map, append-nil, refl, sym, ap, ap₂, subst, ◌∙◌, Bool, true, false, inr}
use Rattle.std.specs.Prelude.{codes, not, bytes_eq}
use Rattle.std.proofs.lemmas.Slice.Eq.{bytes_eq-Decides}
use Rattle.gql_text.specs.Grammar.{IsName, IsInteger, IsFloat}
use Rattle.gql_text.specs.Kinds.{same_kind_other}
use Rattle.gql_text.specs.Lexeme.{Lexeme}
use Rattle.gql_text.specs.Lexis.{Stands, Tokens, at_end}
use Rattle.gql_text.specs.Marks.{plain_part}
use Rattle.gql_text.specs.Place.{place_after}
use Rattle.gql_text.specs.Values.{text_value}
use Rattle.gql_text.specs.declared.place.Place.{Place}
use Rattle.gql_text.specs.declared.token.Kind.{Kind}
use Rattle.gql_text.specs.declared.token.Kind.TheVariants as k
use Rattle.gql_text.specs.declared.front.Part.TheVariants.{Taken}
use Rattle.gql_text.proofs.Grammars.{name_token, integer_token, float_token}
use Rattle.gql_text.proofs.StringRules.{string_text as value_of_string}
use Rattle.gql_ast.specs.LiteralTexts.{literal_text, string_text, comma_if, comma_list, with_commas, object_field_text, text_variable, text_int, text_float, text_string, text_boolean, text_null, text_enum, text_list, text_object}
use Rattle.gql_ast.specs.declared.literal.Literal.{Literal}
use Rattle.gql_ast.specs.declared.literal.Literal.TheVariants as l
use Rattle.gql_ast.specs.declared.literal.ObjectField.{ObjectField}
use Rattle.gql_grammar.specs.Symbol.{Phrase, Derives, before, sees}
use Rattle.gql_grammar.specs.Repetition.{Items}
use Rattle.gql_parse.specs.Values.{value, list_of, object_of, object_field_of, word_value}
use Rattle.gql_printed.specs.Laws.{WrittenIsParsed}
use Rattle.gql_printed.specs.Same.{no_place, without_places}
use Rattle.gql_printed.specs.Written.{IsEnumName, IsWritten, variable, int, float, string, boolean, null, enum, list, object, AreWritten, no_items, item, AreWrittenFields, no_fields, field}
use Rattle.gql_printed.proofs.Strings.{string_is as is_string}
use Rattle.gql_printed.proofs.Followed.{Ends, followed}
use Rattle.gql_printed.proofs.Quoted.{string_followed}
use Rattle.gql_printed.proofs.Unplaced.{of_variable, of_int, of_float, of_string, of_boolean, of_null, of_enum, of_list, of_object, field_without_places}
use Rattle.gql_printed.proofs.Steps.{lexeme_at, next, mark, space, comma_skipped, apart, joined}
use Rattle.gql_printed.proofs.Tokens.{by_rule, closed, token_is, name_is, int_is, float_is, string_is, word_is, variable_is}

-- no list and no object ends where the tokens begin
record GoesOn (ts : List Lexeme) : Type 0 where
  list : before k.RightBracket ts ≡ true
  object : before k.RightBrace ts ≡ true

-- after these bytes the text has tokens; the first of them derive an item that differs from x by
-- its places alone, and the later ones are left
record ReadFrom {A : Type 0} (symbol : Phrase A) (bare : A → A) (x : A) (front text : List ℕ)
    (later : List Lexeme) : Type 0 where
  tokens : List Lexeme
  parsed : A
  lexed : Tokens front text tokens
  derived : Derives symbol tokens parsed later
  same : bare parsed ≡ bare x
  goes_on : GoesOn tokens

-- so it is before any text that has tokens and does not continue this one
Reads : {A : Type 0} → Phrase A → (A → A) → A → List ℕ → Type 0
Reads symbol bare x text = (front rest : List ℕ) (later : List Lexeme) → Ends rest
    → Tokens (front ++ text) rest later → ReadFrom symbol bare x front (text ++ rest) later

abbrev IsRead : Bool → Literal → Type 0
IsRead c x = Reads (value c) without_places x (literal_text x)

-- ---- one token

-- a literal whose text is one token
one_token : (c : Bool) (x : Literal) (k : Kind) (text : List ℕ) (parsed : Place → Literal)
    → literal_text x ≡ text
    → ((rest : List ℕ) → Ends rest → Stands (text ++ rest) (Taken k (length text)))
    → ((p : Place) (ts : List Lexeme)
    → Derives (value c) (record { kind = k; text = text; place = p } ∷ ts) (parsed p) ts)
    → ((p : Place) → without_places (parsed p) ≡ without_places x)
    → ((p : Place) (ts : List Lexeme) → GoesOn (record { kind = k; text = text; place = p } ∷ ts))
    → IsRead c x
unfolding Reads
one_token c x k text parsed is stands derives same on =
    subst (λ t. Reads (value c) without_places x t) (sym is) (λ front rest later ends t. record {
      tokens = lexeme_at k text front ∷ later;
      parsed = parsed (place_after front);
      lexed = next k text front rest later (stands rest ends) t;
      derived = derives (place_after front) later;
      same = same (place_after front);
      goes_on = on (place_after front) later;
    })

-- a token of any other kind
goes : (kind : Kind) → kind ≢ k.RightBracket → kind ≢ k.RightBrace
    → (text : List ℕ) (p : Place) (ts : List Lexeme)
    → GoesOn (record { kind = kind; text = text; place = p } ∷ ts)
unfolding before sees
goes kind w v text p ts = record {
  list = ap not (same_kind_other kind k.RightBracket w);
  object = ap not (same_kind_other kind k.RightBrace v);
}

name_followed : (text rest : List ℕ) → IsName text → Ends rest
    → Stands (text ++ rest) (Taken k.Name (length text))
name_followed text rest n ends =
    followed k.Name (λ e. cc) (λ e. cc) text rest (name_token text n) ends

int_read : (c : Bool) (p : Place) (text : List ℕ) → IsInteger text → IsRead c (l.Int p text)
int_read c p text n =
    one_token c (l.Int p text) k.IntValue text (λ q. l.Int q text) (text_int p text)
    (λ rest ends. followed k.IntValue (λ e. cc) (λ e. cc) text rest (integer_token text n) ends)
    (int_is c text) (λ q. of_int q text ∙ sym (of_int p text))
    (goes k.IntValue (λ e. cc) (λ e. cc) text)

float_read : (c : Bool) (p : Place) (text : List ℕ) → IsFloat text → IsRead c (l.Float p text)
float_read c p text n =
    one_token c (l.Float p text) k.FloatValue text (λ q. l.Float q text) (text_float p text)
    (λ rest ends. followed k.FloatValue (λ e. cc) (λ e. cc) text rest (float_token text n) ends)
    (float_is c text) (λ q. of_float q text ∙ sym (of_float p text))
    (goes k.FloatValue (λ e. cc) (λ e. cc) text)

string_read : (c : Bool) (p : Place) (v : List ℕ) → IsRead c (l.String p v)
string_read c p v = one_token c (l.String p v) k.StringValue (string_text v)
    (λ q. l.String q (text_value (string_text v))) (text_string p v)
    (λ rest ends. string_followed v rest ends)
    (string_is c (string_text v))
    (λ q. of_string q (text_value (string_text v))
    ∙ ap (λ t. l.String no_place t) (value_of_string (string_text v) v (is_string v))
    ∙ sym (of_string p v))
    (goes k.StringValue (λ e. cc) (λ e. cc) (string_text v))

word_read : (c : Bool) (x : Literal) (text : List ℕ) (parsed : Place → Literal)
    → literal_text x ≡ text → IsName text
    → ((p : Place) → word_value (record { kind = k.Name; text = text; place = p }) ≡ parsed p)
    → ((p : Place) → without_places (parsed p) ≡ without_places x) → IsRead c x
word_read c x text parsed is n by same =
    one_token c x k.Name text parsed is (λ rest ends. name_followed text rest n ends)
    (λ p ts. word_is c text p (parsed p) ts (by p)) same (goes k.Name (λ e. cc) (λ e. cc) text)

boolean_read : (c : Bool) (p : Place) (b : Bool) → IsRead c (l.Boolean p b)
boolean_read c p true =
    word_read c (l.Boolean p true) (codes "true") (λ q. l.Boolean q true) (text_boolean p true)
    (record { first = 116; rest = codes "rue"; parts = refl; starts = refl; continues = refl })
    (λ q. refl) (λ q. of_boolean q true ∙ sym (of_boolean p true))
boolean_read c p false =
    word_read c (l.Boolean p false) (codes "false") (λ q. l.Boolean q false) (text_boolean p false)
    (record { first = 102; rest = codes "alse"; parts = refl; starts = refl; continues = refl })
    (λ q. refl) (λ q. of_boolean q false ∙ sym (of_boolean p false))

null_read : (c : Bool) (p : Place) → IsRead c (l.Null p)
null_read c p = word_read c (l.Null p) (codes "null") (λ q. l.Null q) (text_null p)
    (record { first = 110; rest = codes "ull"; parts = refl; starts = refl; continues = refl })
    (λ q. refl) (λ q. of_null q ∙ sym (of_null p))

other_word : (text word : List ℕ) (b : Bool) → bytes_eq text word ≡ b → text ≢ word → b ≡ false
other_word text word true e other = absurd (other ((bytes_eq-Decides text word).0 e))
other_word text word false e other = refl

differs : (text word : List ℕ) → text ≢ word → bytes_eq text word ≡ false
differs text word other = other_word text word (bytes_eq text word) refl other

enum_value : (text : List ℕ) (p : Place) → IsEnumName text
    → word_value (record { kind = k.Name; text = text; place = p }) ≡ l.Enum p text
enum_value text p n = rw (
  differs text (codes "true") n.not_true,
  differs text (codes "false") n.not_false,
  differs text
      (codes "null") n.not_null,
) refl

enum_read : (c : Bool) (p : Place) (text : List ℕ) → IsEnumName text → IsRead c (l.Enum p text)
enum_read c p text n = word_read c (l.Enum p text) text (λ q. l.Enum q text)
    (text_enum p text) n.is_name (λ q. enum_value text q n)
    (λ q. of_enum q text ∙ sym (of_enum p text))

-- ---- `$` and a name

variable_read : (p : Place) (n : List ℕ) → IsName n → IsRead false (l.Variable p n)
unfolding Reads plain_part
variable_read p n is = subst (λ t. Reads (value false) without_places (l.Variable p n) t)
    (sym (text_variable p n)) (λ front rest later ends t. record {
      tokens =
          lexeme_at k.Dollar (codes "$") front
          ∷ lexeme_at k.Name n (front ++ codes "$") ∷ later;
      parsed = l.Variable (place_after front) n;
      lexed = mark k.Dollar 36 front (n ++ rest)
          (lexeme_at k.Name n (front ++ codes "$") ∷ later) refl refl
          (next k.Name n (front ++ codes "$") rest later (name_followed n rest is ends)
          (apart front (codes "$") n rest later t));
      derived = variable_is n (place_after front) (place_after (front ++ codes "$")) later;
      same = of_variable (place_after front) n ∙ sym (of_variable p n);
      goes_on =
          goes k.Dollar (λ e. cc) (λ e. cc) (codes "$") (place_after front)
          (lexeme_at k.Name n (front ++ codes "$") ∷ later);
    })

-- ---- items with commas between them

abbrev Each : {A : Type 0} → (A → Type 0) → List A → Type 0
Each P [] = Unit {0}
Each P (x ∷ xs) = P x × Each P xs

module _ {A : Type 0} (symbol : Phrase A) (bare : A → A) (text_of : A → List ℕ)
    (test : List Lexeme → Bool) (goes : (ts : List Lexeme) → GoesOn ts → test ts ≡ true) where
  record ItemsFrom (xs : List A) (front text : List ℕ) (later : List Lexeme) : Type 0 where
    tokens : List Lexeme
    parsed : List A
    lexed : Tokens front text tokens
    derived : Items test symbol.Allows tokens parsed later
    same : map bare parsed ≡ map bare xs

  -- after an item the rest of the items continues no token
  ends_after : (texts : List (List ℕ)) (rest : List ℕ) → Ends rest
      → Ends (comma_list true texts ++ rest)
  ends_after [] rest ends = ends
  ends_after (t ∷ ts) rest ends = refl

  items_read : (xs : List A) → Each (λ x. Reads symbol bare x (text_of x)) xs
      → (started : Bool) (front rest : List ℕ) (later : List Lexeme) → Ends rest
      → Tokens (front ++ comma_list started (map text_of xs)) rest later
      → ItemsFrom xs front (comma_list started (map text_of xs) ++ rest) later
  unfolding Reads
  items_read [] h started front rest later ends t =
      record {
        tokens = later;
        parsed = [];
        lexed =
            subst (λ xs. Tokens xs rest later) (append-nil front) t;
        derived = refl;
        same = refl;
      }
  items_read (x ∷ xs) h started front rest later ends t =
      let a : List ℕ = comma_if started in
      let b : List ℕ = text_of x in
      let c : List ℕ = comma_list true (map text_of xs) in
      let others = items_read xs h.1 true ((front ++ a) ++ b) rest later ends
      (apart (front ++ a) b c rest later (apart front a (b ++ c) rest later t)) in
      let first = h.0 (front ++ a) (c ++ rest) others.tokens (ends_after (map text_of xs) rest ends)
      (others.lexed) in
      record {
        tokens = first.tokens;
        parsed = first.parsed ∷ others.parsed;
        lexed = joined front a (b ++ c) rest first.tokens
            (comma_skipped started front ((b ++ c) ++ rest) first.tokens
            (joined (front ++ a) b c rest first.tokens first.lexed));
        derived = (goes first.tokens first.goes_on, others.tokens, first.derived, others.derived);
        same = ap₂ (λ y ys. y ∷ ys) first.same others.same;
      }

-- ---- lists

list_is : (c : Bool) (p q : Place) (items : List Literal) (inner later : List Lexeme)
    → Items (before k.RightBracket) (value c).Allows inner items
    (record { kind = k.RightBracket; text = codes "]"; place = q } ∷ later)
    → Derives (value c) (record { kind = k.LeftBracket; text = codes "["; place = p } ∷ inner)
    (l.List p items) later
unfolding list_of
list_is c p q items inner later h =
    let first : Lexeme = record { kind = k.LeftBracket; text = codes "["; place = p } in
    let last : Lexeme = record { kind = k.RightBracket; text = codes "]"; place = q } in
    by_rule c (first ∷ inner) later (l.List p items)
    (inr (
      first,
      inner,
      token_is first inner,
      inr (
        items,
        last ∷ later,
        (items, refl, h, closed last later),
        inr
            (last, later, token_is last later, refl),
      ),
    ))

list_read : (c : Bool) (p : Place) (items : List Literal) → Each (IsRead c) items
    → IsRead c (l.List p items)
unfolding Reads plain_part
list_read c p items h = subst (λ t. Reads (value c) without_places (l.List p items) t)
    (sym (text_list p items)) (λ front rest later ends t.
    let text : List ℕ = with_commas (map literal_text items) in
    let start : List ℕ = front ++ codes "[" in
    let close : Lexeme = lexeme_at k.RightBracket (codes "]") (start ++ text) in
    let inner = items_read (value c) without_places literal_text (before k.RightBracket)
    (λ ts on. on.list) items h false start (93 ∷ rest) (close ∷ later) refl
    (mark k.RightBracket 93 (start ++ text) rest later refl refl
    (apart start text (codes "]") rest later
    (apart front (codes "[") (text ++ codes "]") rest later t))) in
    record {
      tokens = lexeme_at k.LeftBracket (codes "[") front ∷ inner.tokens;
      parsed = l.List (place_after front) inner.parsed;
      lexed = mark k.LeftBracket 91 front ((text ++ codes "]") ++ rest) inner.tokens refl refl
          (joined start text (codes "]") rest inner.tokens inner.lexed);
      derived = list_is c (place_after front)
          (place_after (start ++ text)) inner.parsed inner.tokens later inner.derived;
      same = of_list (place_after front) inner.parsed ∙ ap (λ xs. l.List no_place xs) inner.same
          ∙ sym (of_list p items);
      goes_on = goes k.LeftBracket (λ e. cc) (λ e. cc) (codes "[") (place_after front) inner.tokens;
    })

-- ---- objects

field_is : (c : Bool) (n : List ℕ) (p q : Place) (x : Literal) (inner later : List Lexeme)
    → Derives (value c) inner x later
    → Derives (object_field_of (value c))
    (record { kind = k.Name; text = n; place = p }
    ∷ record { kind = k.Colon; text = codes ":"; place = q } ∷ inner)
    (record { name = record { place = p; text = n }; value = x }) later
unfolding object_field_of
field_is c n p q x inner later h =
    let colon : Lexeme = record { kind = k.Colon; text = codes ":"; place = q } in
    inr (
      record { place = p; text = n },
      colon ∷ inner,
      name_is n p (colon ∷ inner),
      inr
          (colon, inner, token_is colon inner, inr (x, later, h, refl)),
    )

abbrev IsFieldRead : Bool → ObjectField → Type 0
IsFieldRead c f = Reads (object_field_of (value c)) field_without_places f (object_field_text f)

field_read : (c : Bool) (f : ObjectField) → IsName f.name.text → IsRead c f.value → IsFieldRead c f
unfolding Reads plain_part
field_read c f is h front rest later ends t =
    let n : List ℕ = f.name.text in
    let v : List ℕ = literal_text f.value in
    let start : List ℕ = front ++ n in
    let inner = h (start ++ codes ": ") rest later ends
    (apart start (codes ": ") v rest later (apart front n (codes ": " ++ v) rest later t)) in
    let colon : Lexeme = lexeme_at k.Colon (codes ":") start in
    let spaced : Tokens (start ++ codes ":") (32 ∷ (v ++ rest)) inner.tokens = space
    (start ++ codes ":") (v ++ rest) inner.tokens
    (apart start (codes ":") (codes " ") (v ++ rest) inner.tokens inner.lexed) in
    record {
      tokens = lexeme_at k.Name n front ∷ colon ∷ inner.tokens;
      parsed =
          record { name = record { place = place_after front; text = n }; value = inner.parsed };
      lexed = joined front n (codes ": " ++ v) rest _
          (next k.Name n front ((codes ": " ++ v) ++ rest) (colon ∷ inner.tokens)
          (name_followed n ((codes ": " ++ v) ++ rest) is refl)
          (mark k.Colon 58 start (32 ∷ (v ++ rest)) inner.tokens refl refl spaced));
      derived = field_is c n (place_after front)
          (place_after start) inner.parsed inner.tokens later inner.derived;
      same = ap
          (λ x. record { name = record { place = no_place; text = n }; value = x }) inner.same;
      goes_on = goes k.Name (λ e. cc) (λ e. cc) n (place_after front) (colon ∷ inner.tokens);
    }

object_is : (c : Bool) (p q : Place) (fields : List ObjectField) (inner later : List Lexeme)
    → Items (before k.RightBrace) (object_field_of (value c)).Allows inner fields
    (record { kind = k.RightBrace; text = codes "}"; place = q } ∷ later)
    → Derives (value c) (record { kind = k.LeftBrace; text = codes "{"; place = p } ∷ inner)
    (l.Object p fields) later
unfolding object_of
object_is c p q fields inner later h =
    let first : Lexeme = record { kind = k.LeftBrace; text = codes "{"; place = p } in
    let last : Lexeme = record { kind = k.RightBrace; text = codes "}"; place = q } in
    by_rule c (first ∷ inner) later (l.Object p fields)
    (inr (
      first,
      inner,
      token_is first inner,
      inr (
        fields,
        last ∷ later,
        (fields, refl, h, closed last later),
        inr
            (last, later, token_is last later, refl),
      ),
    ))

object_read : (c : Bool) (p : Place) (fields : List ObjectField) → Each (IsFieldRead c) fields
    → IsRead c (l.Object p fields)
unfolding Reads plain_part
object_read c p fields h = subst (λ t. Reads (value c) without_places (l.Object p fields) t)
    (sym (text_object p fields)) (λ front rest later ends t.
    let text : List ℕ = with_commas (map object_field_text fields) in
    let start : List ℕ = front ++ codes "{" in
    let close : Lexeme = lexeme_at k.RightBrace (codes "}") (start ++ text) in
    let inner = items_read (object_field_of (value c)) field_without_places object_field_text
    (before k.RightBrace) (λ ts on. on.object) fields h false start (125 ∷ rest)
    (close ∷ later) refl
    (mark k.RightBrace 125 (start ++ text) rest later refl refl
    (apart start text (codes "}") rest later
    (apart front (codes "{") (text ++ codes "}") rest later t))) in
    record {
      tokens = lexeme_at k.LeftBrace (codes "{") front ∷ inner.tokens;
      parsed = l.Object (place_after front) inner.parsed;
      lexed = mark k.LeftBrace 123 front ((text ++ codes "}") ++ rest) inner.tokens refl refl
          (joined start text (codes "}") rest inner.tokens inner.lexed);
      derived = object_is c (place_after front)
          (place_after (start ++ text)) inner.parsed inner.tokens later inner.derived;
      same = of_object (place_after front) inner.parsed ∙ ap (λ xs. l.Object no_place xs) inner.same
          ∙ sym (of_object p fields);
      goes_on = goes k.LeftBrace (λ e. cc) (λ e. cc) (codes "{") (place_after front) inner.tokens;
    })

-- ---- all literals

variable_unless_constant : (c : Bool) (p : Place) (n : List ℕ) → c ≡ false → IsName n
    → IsRead c (l.Variable p n)
variable_unless_constant c p n is h =
    subst (λ b. IsRead b (l.Variable p n)) (sym is) (variable_read p n h)

mutual
  read : {c : Bool} {x : Literal} → IsWritten c x → IsRead c x
  read {c} (variable p n is free h) =
      subst (IsRead c) (sym is) (variable_unless_constant c p n free h)
  read {c} (int p t is h) = subst (IsRead c) (sym is) (int_read c p t h)
  read {c} (float p t is h) = subst (IsRead c) (sym is) (float_read c p t h)
  read {c} (string p t is) = subst (IsRead c) (sym is) (string_read c p t)
  read {c} (boolean p b is) = subst (IsRead c) (sym is) (boolean_read c p b)
  read {c} (null p is) = subst (IsRead c) (sym is) (null_read c p)
  read {c} (enum p n is h) = subst (IsRead c) (sym is) (enum_read c p n h)
  read {c} (list p xs is h) = subst (IsRead c) (sym is) (list_read c p xs (read_items h))
  read {c} (object p fs is h) = subst (IsRead c) (sym is) (object_read c p fs (read_fields h))

  read_items : {c : Bool} {xs : List Literal} → AreWritten c xs → Each (IsRead c) xs
  read_items no_items = tt
  read_items (item h hs) = (read h, read_items hs)

  read_fields : {c : Bool} {fs : List ObjectField} → AreWrittenFields c fs → Each (IsFieldRead c) fs
  read_fields no_fields = tt
  read_fields {c} (field {f = f} n h hs) = (field_read c f n (read h), read_fields hs)

pub written_parsed : WrittenIsParsed
unfolding Reads
written_parsed limit c x h short =
    let r = read h [] [] [] refl at_end in
    record {
      tokens = r.tokens;
      parsed = r.parsed;
      lexed = record {
        short = short;
        tokens_of =
            subst (λ text. Tokens [] text r.tokens) (append-nil (literal_text x)) r.lexed;
      };
      derived = r.derived;
      same_value = r.same;
    }
