-- A literal that the tokens of a text derive is one that a document can write.
use Rattle.std.proofs.Common.{◌≡◌, ℕ, zero, suc, List, [], ◌∷◌, ◌++◌, length, refl, sym, ap, subst, ◌∙◌, Bool, true, false, true≢false, cond, Ok, Err, inl, inr}
use Rattle.std.specs.Prelude.{codes, bytes_eq}
use Rattle.std.proofs.lemmas.Slice.Eq.{bytes_eq-Decides}
use Rattle.gql_text.specs.Grammar.{IsName}
use Rattle.gql_text.specs.Kinds.{same_kind_true}
use Rattle.gql_text.specs.Laws.{IsToken}
use Rattle.gql_text.specs.Lexeme.{Lexeme}
use Rattle.gql_text.specs.Lexis.{Tokens, at_end, dropped, token as taken_token}
use Rattle.gql_text.specs.Values.{text_value}
use Rattle.gql_text.specs.declared.token.Kind.{Kind}
use Rattle.gql_text.specs.declared.token.Kind.TheVariants as k
use Rattle.gql_text.proofs.Grammars.{token_name, token_integer, token_float}
use Rattle.gql_text.proofs.Longest.{alone}
use Rattle.gql_ast.specs.declared.literal.Literal.{Literal}
use Rattle.gql_ast.specs.declared.literal.Literal.TheVariants as l
use Rattle.gql_ast.specs.declared.literal.ObjectField.{ObjectField}
use Rattle.gql_ast.specs.declared.text.Name.{Name}
use Rattle.gql_grammar.specs.Symbol.{Symbol, Phrase, Outcome, Derives, ◌>>=◌, pure, token, sees, before}
use Rattle.gql_grammar.specs.Repetition.{Items, any_while}
use Rattle.gql_grammar.specs.Recursion.{nested, recursive}
use Rattle.gql_parse.specs.Names.{name, name_of}
use Rattle.gql_parse.specs.Values.{value, value_of, value_by, variable_unless, variable as variable_phrase, int as int_phrase, float as float_phrase, string as string_phrase, block_string, word_literal, word_value, list_of, object_of, object_field_of}
use Rattle.gql_printed.specs.Laws.{FoundIsWritten}
use Rattle.gql_printed.specs.Written.{IsWritten, variable, int, float, string, boolean, null, enum, list, object, AreWritten, no_items, item, AreWrittenFields, no_fields, field}

abbrev Each : {A : Type 0} → (A → Type 0) → List A → Type 0
Each P [] = Unit {0}
Each P (x ∷ xs) = P x × Each P xs

each_front : {A : Type 0} (P : A → Type 0) (xs ys : List A) → Each P (xs ++ ys) → Each P xs
each_front P [] ys h = tt
each_front P (x ∷ xs) ys h = (h.0, each_front P xs ys h.1)

each_back : {A : Type 0} (P : A → Type 0) (xs ys : List A) → Each P (xs ++ ys) → Each P ys
each_back P [] ys h = h
each_back P (x ∷ xs) ys h = each_back P xs ys h.1

-- a token's text alone is that token
abbrev IsOwn : Lexeme → Type 0
IsOwn t = IsToken t.kind t.text

tokens_own : {front rest : List ℕ} {ts : List Lexeme} → Tokens front rest ts → Each IsOwn ts
tokens_own at_end = tt
tokens_own (dropped s t) = tokens_own t
tokens_own (taken_token {rest = rest} {kind = kind} {n = n} s t) =
    (alone rest kind n s, tokens_own t)

-- ---- what a symbol derives

-- this holds of what the symbol derives, and the tokens left are tokens still
abbrev Finds : {A : Type 0} {d : ℕ → ℕ} {s : Bool} → Symbol d s A → (A → Type 0) → Type 0
Finds {A} symbol P = (ts rest : List Lexeme) (x : A) → Derives symbol ts x rest → Each IsOwn ts
    → P x × Each IsOwn rest

value_or : {A : Type 0} → A → Outcome A → A
value_or a (Ok r) = r.0
value_or a (Err e) = a

rest_of : {A : Type 0} → Outcome A → List Lexeme
rest_of (Ok r) = r.1
rest_of (Err e) = e

pub same_value : {A : Type 0} (a b : A) (us vs : List Lexeme)
    → ◌≡◌ {A = Outcome A} (Ok (a, us)) (Ok (b, vs)) → a ≡ b
unfolding value_or
same_value a b us vs e = ap (λ o. value_or a o) e

pub same_rest : {A : Type 0} (a b : A) (us vs : List Lexeme)
    → ◌≡◌ {A = Outcome A} (Ok (a, us)) (Ok (b, vs)) → us ≡ vs
unfolding rest_of
same_rest a b us vs e = ap (λ o. rest_of o) e

finds_token : (kind : Kind) (ts rest : List Lexeme) (t : Lexeme) → Derives (token kind) ts t rest
    → Each IsOwn ts → IsToken kind t.text × Each IsOwn rest
unfolding token sees
finds_token kind [] rest t h own = absurd (cc)
finds_token kind (u ∷ us) rest t h own = (
  subst (λ j. IsToken j t.text) (same_kind_true u.kind kind h.0)
      (subst (λ (y : Lexeme). IsToken u.kind y.text) h.1 own.0),
  subst
      (λ ws. Each IsOwn ws) h.2 own.1,
)

-- a value of one token
finds_one : {A : Type 0} (kind : Kind) (f : Lexeme → A) (P : A → Type 0)
    → ((t : Lexeme) → IsToken kind t.text → P (f t)) → Finds (token kind >>= (λ t. pure (f t))) P
finds_one kind f P g ts rest x (inl h) own = absurd (let e = h.2 in cc)
finds_one kind f P g ts rest x (inr h) own =
    let found = finds_token kind ts h.1 h.0 h.2 own in (
      subst P (same_value (f h.0) x h.1 rest h.3) (g h.0 found.0),
      subst (λ ws. Each IsOwn ws)
          (same_rest (f h.0) x h.1 rest h.3) found.1,
    )

finds_items : {A : Type 0} (test : List Lexeme → Bool) (symbol : Phrase A) (P : A → Type 0)
    → Finds symbol P → (xs : List A) (ts rest : List Lexeme) → Items test symbol.Allows ts xs rest
    → Each IsOwn ts
    → Each P xs × Each IsOwn rest
finds_items test symbol P f [] ts rest h own = (tt, subst (λ ws. Each IsOwn ws) h own)
finds_items test symbol P f (x ∷ xs) ts rest h own =
    let first = f ts h.1 x h.2 own in
    let others = finds_items test symbol P f xs h.1 rest h.3 first.1 in
    ((first.0, others.0), others.1)

finds_name : (ts rest : List Lexeme) (n : Name) → Derives name ts n rest → Each IsOwn ts
    → IsName n.text × Each IsOwn rest
unfolding name
finds_name ts rest n h own = finds_one k.Name name_of (λ (m : Name). IsName m.text)
    (λ t own. token_name t.text own) ts rest n h own

-- ---- by the form

module _ (c : Bool) where
  of_word_at : (t : Lexeme) → IsName t.text → (a b d : Bool) → bytes_eq t.text (codes "true") ≡ a
      → bytes_eq t.text (codes "false") ≡ b → bytes_eq t.text (codes "null") ≡ d
      → IsWritten c
      (cond a (l.Boolean t.place true)
      (cond b (l.Boolean t.place false) (cond d (l.Null t.place) (l.Enum t.place t.text))))
  of_word_at t n true b d x y z = boolean t.place true refl
  of_word_at t n false true d x y z = boolean t.place false refl
  of_word_at t n false false true x y z = null t.place refl
  of_word_at t n false false false x y z = enum t.place t.text refl (record {
    is_name = n;
    not_true = λ e. true≢false (sym ((bytes_eq-Decides t.text (codes "true")).1 e) ∙ x);
    not_false = λ e. true≢false (sym ((bytes_eq-Decides t.text (codes "false")).1 e) ∙ y);
    not_null = λ e. true≢false (sym ((bytes_eq-Decides t.text (codes "null")).1 e) ∙ z);
  })

  of_word : (t : Lexeme) → IsToken k.Name t.text → IsWritten c (word_value t)
  of_word t own = of_word_at t (token_name t.text own) (bytes_eq t.text (codes "true"))
      (bytes_eq t.text (codes "false")) (bytes_eq t.text (codes "null")) refl refl refl

  finds_variable : (b : Bool) → c ≡ b → Finds (variable_unless b) (IsWritten c)
  unfolding variable_phrase
  finds_variable true is ts rest x h own = absurd (cc)
  finds_variable false is ts rest x (inl h) own = absurd (let e = h.2 in cc)
  finds_variable false is ts rest x (inr h) own = by h.3 where
    first : IsToken k.Dollar h.0.text × Each IsOwn h.1
    first = finds_token k.Dollar ts h.1 h.0 h.2 own

    by : Derives (name >>= (λ (n : Name). pure (l.Variable h.0.place n.text))) h.1 x rest
        → IsWritten c x × Each IsOwn rest
    by (inl g) = absurd (let e = g.2 in cc)
    by (inr g) =
        let found = finds_name h.1 g.1 g.0 g.2 first.1 in (
          variable h.0.place g.0.text
              (sym (same_value (l.Variable h.0.place g.0.text) x g.1 rest g.3)) is found.0,
          subst (λ ws. Each IsOwn ws)
              (same_rest (l.Variable h.0.place g.0.text) x g.1 rest g.3) found.1,
        )

  are_written : (xs : List Literal) → Each (IsWritten c) xs → AreWritten c xs
  are_written [] h = no_items
  are_written (x ∷ xs) h = item h.0 (are_written xs h.1)

  abbrev IsField : ObjectField → Type 0
  IsField f = IsName f.name.text × IsWritten c f.value

  are_written_fields : (fs : List ObjectField) → Each IsField fs → AreWrittenFields c fs
  are_written_fields [] h = no_fields
  are_written_fields (f ∷ fs) h = field h.0.0 h.0.1 (are_written_fields fs h.1)

  module _ (inner : Phrase Literal) (found : Finds inner (IsWritten c)) where
    finds_list : Finds (list_of inner) (IsWritten c)
    unfolding list_of
    finds_list ts rest x (inl h) own = absurd (let e = h.2 in cc)
    finds_list ts rest x (inr h) own = items h.3 where
      first : IsToken k.LeftBracket h.0.text × Each IsOwn h.1
      first = finds_token k.LeftBracket ts h.1 h.0 h.2 own

      closing : (xs : List Literal) (us : List Lexeme) → Each (IsWritten c) xs → Each IsOwn us
          → Derives (token k.RightBracket >>= (λ _. pure (l.List h.0.place xs))) us x rest
          → IsWritten c x × Each IsOwn rest
      closing xs us hs own (inl g) = absurd (let e = g.2 in cc)
      closing xs us hs own (inr g) =
          let last = finds_token k.RightBracket us g.1 g.0 g.2 own in (
            list h.0.place xs (sym (same_value (l.List h.0.place xs) x g.1 rest g.3))
                (are_written xs hs),
            subst (λ ws. Each IsOwn ws)
                (same_rest (l.List h.0.place xs) x g.1 rest g.3) last.1,
          )

      items : Derives
          (any_while (before k.RightBracket) inner >>=
          (λ xs. token k.RightBracket >>= (λ _. pure (l.List h.0.place xs)))) h.1 x rest
          → IsWritten c x × Each IsOwn rest
      items (inl g) = absurd (let e = g.2 in cc)
      items (inr g) =
          let those = finds_items (before k.RightBracket) inner
          (IsWritten c) found g.2.0 h.1 g.1 g.2.2 first.1 in
          closing g.0 g.1 (subst (λ xs. Each (IsWritten c) xs) g.2.1 those.0) those.1 g.3

    abbrev made : Name → Literal → ObjectField
    made n x = record { name = n; value = x }

    finds_field : Finds (object_field_of inner) IsField
    unfolding object_field_of
    finds_field ts rest f (inl h) own = absurd (let e = h.2 in cc)
    finds_field ts rest f (inr h) own = colon h.3 where
      first : IsName h.0.text × Each IsOwn h.1
      first = finds_name ts h.1 h.0 h.2 own

      given : (us : List Lexeme) → Each IsOwn us
          → Derives (inner >>= (λ x. pure (made h.0 x))) us f rest → IsField f × Each IsOwn rest
      given us own (inl g) = absurd (let e = g.2 in cc)
      given us own (inr g) =
          let v = found us g.1 g.0 g.2 own in (
            subst IsField (same_value (made h.0 g.0) f g.1 rest g.3) (first.0, v.0),
            subst
                (λ ws. Each IsOwn ws) (same_rest (made h.0 g.0) f g.1 rest g.3) v.1,
          )

      colon : Derives (token k.Colon >>= (λ _. inner >>= (λ x. pure (made h.0 x)))) h.1 f rest
          → IsField f × Each IsOwn rest
      colon (inl g) = absurd (let e = g.2 in cc)
      colon (inr g) = given g.1 (finds_token k.Colon h.1 g.1 g.0 g.2 first.1).1 g.3

    finds_object : Finds (object_of inner) (IsWritten c)
    unfolding object_of
    finds_object ts rest x (inl h) own = absurd (let e = h.2 in cc)
    finds_object ts rest x (inr h) own = fields h.3 where
      first : IsToken k.LeftBrace h.0.text × Each IsOwn h.1
      first = finds_token k.LeftBrace ts h.1 h.0 h.2 own

      closing : (fs : List ObjectField) (us : List Lexeme) → Each IsField fs → Each IsOwn us
          → Derives (token k.RightBrace >>= (λ _. pure (l.Object h.0.place fs))) us x rest
          → IsWritten c x × Each IsOwn rest
      closing fs us hs own (inl g) = absurd (let e = g.2 in cc)
      closing fs us hs own (inr g) =
          let last = finds_token k.RightBrace us g.1 g.0 g.2 own in (
            object h.0.place fs (sym (same_value (l.Object h.0.place fs) x g.1 rest g.3))
                (are_written_fields fs hs),
            subst (λ ws. Each IsOwn ws)
                (same_rest (l.Object h.0.place fs) x g.1 rest g.3) last.1,
          )

      fields : Derives
          (any_while (before k.RightBrace) (object_field_of inner) >>=
          (λ fs. token k.RightBrace >>= (λ _. pure (l.Object h.0.place fs)))) h.1 x rest
          → IsWritten c x × Each IsOwn rest
      fields (inl g) = absurd (let e = g.2 in cc)
      fields (inr g) =
          let those = finds_items (before k.RightBrace)
          (object_field_of inner) IsField finds_field g.2.0 h.1 g.1 g.2.2 first.1 in
          closing g.0 g.1 (subst (λ fs. Each IsField fs) g.2.1 those.0) those.1 g.3

    finds_by : (kind : Kind) → Finds (value_by c inner kind) (IsWritten c)
    unfolding int_phrase float_phrase string_phrase block_string word_literal
    finds_by k.Dollar = finds_variable c refl
    finds_by k.IntValue = finds_one k.IntValue (λ t. l.Int t.place t.text) (IsWritten c)
        (λ t own. int t.place t.text refl (token_integer t.text own))
    finds_by k.FloatValue = finds_one k.FloatValue (λ t. l.Float t.place t.text) (IsWritten c)
        (λ t own. float t.place t.text refl (token_float t.text own))
    finds_by k.StringValue = finds_one k.StringValue (λ t. l.String t.place (text_value t.text))
        (IsWritten c) (λ t own. string t.place (text_value t.text) refl)
    finds_by k.BlockString = finds_one k.BlockString (λ t. l.String t.place (text_value t.text))
        (IsWritten c) (λ t own. string t.place (text_value t.text) refl)
    finds_by k.Name = finds_one k.Name word_value (IsWritten c) (λ t own. of_word t own)
    finds_by k.LeftBracket = finds_list
    finds_by k.LeftBrace = finds_object
    finds_by _ = λ ts rest x h own. absurd (cc)

  finds_nested : (n : ℕ) → Finds (nested (value_of c) n) (IsWritten c)
  unfolding nested
  finds_nested zero = λ ts rest x h own. absurd (cc)
  finds_nested (suc n) =
      λ ts rest x h own. finds_by (nested (value_of c) n) (finds_nested n) _ ts rest x h own

  finds_value : Finds (value c) (IsWritten c)
  unfolding value recursive
  finds_value ts rest x h own = finds_nested (suc (length ts)) ts rest x h own

-- a literal that is found in a text
pub found_written : FoundIsWritten
found_written limit c source x f =
    let own = tokens_own f.lexed.tokens_of in
    let part = each_front IsOwn f.part f.later
    (each_back IsOwn f.earlier (f.part ++ f.later)
    (subst (λ ts. Each IsOwn ts) (sym f.parts) own)) in
    (finds_value c f.part f.rest x f.derived part).0
