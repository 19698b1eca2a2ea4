-- How many levels a literal's tokens open: as many as its lists and objects are nested.
use Rattle.std.proofs.Common.{◌≡◌, ◌≤◌, ℕ, zero, suc, ◌+◌, List, [], ◌∷◌, length, map, refl, sym, ap, ap₂, subst, ◌∙◌, arith, Bool, true, false, cond, inl, inr}
use Rattle.std.specs.Prelude.{codes, max, bytes_eq}
use Rattle.gql_text.specs.Kinds.{same_kind_true}
use Rattle.gql_text.specs.Lexeme.{Lexeme}
use Rattle.gql_text.specs.Values.{text_value}
use Rattle.gql_text.specs.declared.place.Place.{Place}
use Rattle.gql_text.specs.declared.token.Kind.{Kind}
use Rattle.gql_text.specs.declared.token.Kind.TheVariants as k
use Rattle.gql_ast.specs.declared.literal.Literal.{Literal, fold-Literal}
use Rattle.gql_ast.specs.declared.literal.Literal.TheOpen.{Literal-F, ObjectField-F}
use Rattle.gql_ast.specs.declared.literal.Literal.TheFolds.{fold-roll-Literal, fold_out-ObjectField}
use Rattle.gql_ast.specs.declared.literal.Literal.TheVariants as l
use Rattle.gql_ast.specs.declared.literal.ObjectField.{ObjectField, fold-ObjectField}
use Rattle.gql_ast.specs.declared.text.Name.{Name}
use Rattle.gql_grammar.specs.Levels.{shift, depth_from}
use Rattle.gql_grammar.specs.Symbol.{Symbol, Phrase, Derives, ◌>>=◌, pure, token, sees, before}
use Rattle.gql_grammar.specs.Repetition.{Items, any_while}
use Rattle.gql_grammar.specs.Recursion.{nested, recursive}
use Rattle.gql_parse.specs.Names.{name, name_of}
use Rattle.gql_parse.specs.Values.{value, value_of, value_by, variable_unless, variable, int, float, string, block_string, word_literal, word_value, list_of, object_of, object_field_of}
use Rattle.gql_printed.proofs.Found.{same_value, same_rest}

-- the greatest of the numbers
abbrev pub most : List ℕ → ℕ
most [] = 0
most (n ∷ ns) = max n (most ns)

abbrev nesting_at : Literal-F ℕ ℕ → ℕ
nesting_at (Literal-F.Variable place text) = 0
nesting_at (Literal-F.Int place text) = 0
nesting_at (Literal-F.Float place text) = 0
nesting_at (Literal-F.String place text) = 0
nesting_at (Literal-F.Boolean place truth) = 0
nesting_at (Literal-F.Null place) = 0
nesting_at (Literal-F.Enum place text) = 0
nesting_at (Literal-F.List place items) = suc (most items)
nesting_at (Literal-F.Object place fields) = suc (most fields)

abbrev nesting_of_field : ObjectField-F ℕ ℕ → ℕ
nesting_of_field f = f.value

-- how deep the lists and objects of a literal are nested
pub nesting : Literal → ℕ
nesting = fold-Literal ℕ ℕ nesting_at nesting_of_field

abbrev pub field_nesting : ObjectField → ℕ
field_nesting f = nesting f.value

pub of_variable : (p : Place) (n : List ℕ) → nesting (l.Variable p n) ≡ 0
unfolding nesting
of_variable p n = ap nesting (sym (l.rolls-Variable p n))
    ∙ fold-roll-Literal ℕ ℕ nesting_at nesting_of_field (Literal-F.Variable p n)

pub of_int : (p : Place) (t : List ℕ) → nesting (l.Int p t) ≡ 0
unfolding nesting
of_int p t = ap nesting (sym (l.rolls-Int p t))
    ∙ fold-roll-Literal ℕ ℕ nesting_at nesting_of_field (Literal-F.Int p t)

pub of_float : (p : Place) (t : List ℕ) → nesting (l.Float p t) ≡ 0
unfolding nesting
of_float p t = ap nesting (sym (l.rolls-Float p t))
    ∙ fold-roll-Literal ℕ ℕ nesting_at nesting_of_field (Literal-F.Float p t)

pub of_string : (p : Place) (t : List ℕ) → nesting (l.String p t) ≡ 0
unfolding nesting
of_string p t = ap nesting (sym (l.rolls-String p t))
    ∙ fold-roll-Literal ℕ ℕ nesting_at nesting_of_field (Literal-F.String p t)

pub of_boolean : (p : Place) (b : Bool) → nesting (l.Boolean p b) ≡ 0
unfolding nesting
of_boolean p b = ap nesting (sym (l.rolls-Boolean p b))
    ∙ fold-roll-Literal ℕ ℕ nesting_at nesting_of_field (Literal-F.Boolean p b)

pub of_null : (p : Place) → nesting (l.Null p) ≡ 0
unfolding nesting
of_null p = ap nesting (sym (l.rolls-Null p))
    ∙ fold-roll-Literal ℕ ℕ nesting_at nesting_of_field (Literal-F.Null p)

pub of_enum : (p : Place) (n : List ℕ) → nesting (l.Enum p n) ≡ 0
unfolding nesting
of_enum p n = ap nesting (sym (l.rolls-Enum p n))
    ∙ fold-roll-Literal ℕ ℕ nesting_at nesting_of_field (Literal-F.Enum p n)

pub of_list : (p : Place) (items : List Literal)
    → nesting (l.List p items) ≡ suc (most (map nesting items))
unfolding nesting
of_list p items = ap nesting (sym (l.rolls-List p items))
    ∙ fold-roll-Literal ℕ ℕ nesting_at nesting_of_field (Literal-F.List p items)

fields_of : (fields : List ObjectField)
    → map (fold-ObjectField ℕ ℕ nesting_at nesting_of_field) fields ≡ map field_nesting fields
unfolding nesting
fields_of [] = refl
fields_of (f ∷ fields) =
    ap (λ t. t ∷ map (fold-ObjectField ℕ ℕ nesting_at nesting_of_field) fields)
    (fold_out-ObjectField ℕ ℕ nesting_at nesting_of_field f)
    ∙ ap (λ ts. field_nesting f ∷ ts) (fields_of fields)

pub of_object : (p : Place) (fields : List ObjectField)
    → nesting (l.Object p fields) ≡ suc (most (map field_nesting fields))
unfolding nesting
of_object p fields = ap nesting (sym (l.rolls-Object p fields))
    ∙ fold-roll-Literal ℕ ℕ nesting_at nesting_of_field (Literal-F.Object p fields)
    ∙ ap (λ ns. suc (most ns)) (fields_of fields)

-- ---- of tokens

-- the part opens so many levels over those that are open
abbrev pub Opens : {A : Type 0} {d : ℕ → ℕ} {s : Bool} → Symbol d s A → (A → ℕ) → Type 0
Opens {A} symbol levels = (ts rest : List Lexeme) (x : A) → Derives symbol ts x rest → (n : ℕ)
    → depth_from n ts ≡ max (n + levels x) (depth_from n rest)

pub at_least : (n : ℕ) (ts : List Lexeme) → n ≤ depth_from n ts
at_least n [] = omega arith
at_least n (t ∷ ts) = omega arith

opens_token : (kind : Kind) (ts rest : List Lexeme) (t : Lexeme) → Derives (token kind) ts t rest
    → (n : ℕ) → depth_from n ts ≡ max n (depth_from (shift kind n) rest)
unfolding token sees
opens_token kind [] rest t h n = absurd (cc)
opens_token kind (u ∷ us) rest t h n =
    ap₂ (λ j ws. max n (depth_from (shift j n) ws)) (same_kind_true u.kind kind h.0) h.2

-- a token that opens and closes nothing
opens_one : {A : Type 0} (levels : A → ℕ) (kind : Kind) (f : Lexeme → A)
    → ((n : ℕ) → shift kind n ≡ n) → ((t : Lexeme) → levels (f t) ≡ 0)
    → Opens (token kind >>= (λ t. pure (f t))) levels
opens_one levels kind f still none ts rest x (inl h) n = absurd (let e = h.2 in cc)
opens_one levels kind f still none ts rest x (inr h) n =
    let step = opens_token kind ts h.1 h.0 h.2 n in
    let no_level : levels x ≡ 0 = sym (ap levels (same_value (f h.0) x h.1 rest h.3)) ∙ none h.0 in
    let same : n ≡ n + levels x = omega (arith, no_level) in
    step ∙ ap₂ (λ m ws. max n (depth_from m ws)) (still n) (same_rest (f h.0) x h.1 rest h.3)
    ∙ ap (λ m. max m (depth_from n rest)) same

opens_items : {A : Type 0} (levels : A → ℕ) (test : List Lexeme → Bool) (symbol : Phrase A)
    → Opens symbol levels → (xs : List A) (ts rest : List Lexeme)
    → Items test symbol.Allows ts xs rest → (n : ℕ)
    → depth_from n ts ≡ max (n + most (map levels xs)) (depth_from n rest)
opens_items levels test symbol f [] ts rest h n =
    omega (arith, at_least n rest, ap (depth_from n) h)
opens_items levels test symbol f (x ∷ xs) ts rest h n =
    omega (arith, f ts h.1 x h.2 n, opens_items levels test symbol f xs h.1 rest h.3 n)

opens_name : (ts rest : List Lexeme) (x : Name) → Derives name ts x rest → (n : ℕ)
    → depth_from n ts ≡ max n (depth_from n rest)
unfolding name
opens_name ts rest x h n = let e = opens_one (λ (m : Name). 0) k.Name name_of (λ m. refl)
    (λ t. refl) ts rest x h n in omega (arith, e)

no_word_level : (p : Place) (text : List ℕ) (a b d : Bool)
    → nesting
    (cond a (l.Boolean p true) (cond b (l.Boolean p false) (cond d (l.Null p) (l.Enum p text)))) ≡ 0
no_word_level p text true b d = of_boolean p true
no_word_level p text false true d = of_boolean p false
no_word_level p text false false true = of_null p
no_word_level p text false false false = of_enum p text

opens_variable : (b : Bool) → Opens (variable_unless b) nesting
unfolding variable
opens_variable true ts rest x h n = absurd (cc)
opens_variable false ts rest x (inl h) n = absurd (let e = h.2 in cc)
opens_variable false ts rest x (inr h) n = by h.3 where
  by : Derives (name >>= (λ (m : Name). pure (l.Variable h.0.place m.text))) h.1 x rest
      → depth_from n ts ≡ max (n + nesting x) (depth_from n rest)
  by (inl g) = absurd (let e = g.2 in cc)
  by (inr g) =
      let made : Literal = l.Variable h.0.place g.0.text in
      let first = opens_token k.Dollar ts h.1 h.0 h.2 n in
      let second = opens_name h.1 g.1 g.0 g.2 n in
      let none : nesting x ≡ 0 = sym (ap nesting (same_value made x g.1 rest g.3))
      ∙ of_variable h.0.place g.0.text in
      let same : depth_from n g.1
      ≡ depth_from n rest = ap (depth_from n) (same_rest made x g.1 rest g.3) in
      omega (arith, first, second, none, same)

module _ (inner : Phrase Literal) (opens : Opens inner nesting) where
  opens_list : Opens (list_of inner) nesting
  unfolding list_of
  opens_list ts rest x (inl h) n = absurd (let e = h.2 in cc)
  opens_list ts rest x (inr h) n = items h.3 where
    closing : (xs : List Literal) (us : List Lexeme)
        → depth_from (suc n) h.1 ≡ max (suc n + most (map nesting xs)) (depth_from (suc n) us)
        → Derives (token k.RightBracket >>= (λ _. pure (l.List h.0.place xs))) us x rest
        → depth_from n ts ≡ max (n + nesting x) (depth_from n rest)
    closing xs us middle (inl g) = absurd (let e = g.2 in cc)
    closing xs us middle (inr g) =
        let made : Literal = l.List h.0.place xs in
        let first = opens_token k.LeftBracket ts h.1 h.0 h.2 n in
        let last = opens_token k.RightBracket us g.1 g.0 g.2 (suc n) in
        let levels : nesting x
        ≡ suc (most (map nesting xs)) = sym (ap nesting (same_value made x g.1 rest g.3))
        ∙ of_list h.0.place xs in
        let same : depth_from n g.1
        ≡ depth_from n rest = ap (depth_from n) (same_rest made x g.1 rest g.3) in
        omega (arith, first, middle, last, levels, same, at_least n rest)

    items : Derives
        (any_while (before k.RightBracket) inner >>=
        (λ xs. token k.RightBracket >>= (λ _. pure (l.List h.0.place xs)))) h.1 x rest
        → depth_from n ts ≡ max (n + nesting x) (depth_from n rest)
    items (inl g) = absurd (let e = g.2 in cc)
    items (inr g) = closing g.0 g.1
        (subst (λ xs. depth_from (suc n) h.1
        ≡ max (suc n + most (map nesting xs)) (depth_from (suc n) g.1)) g.2.1
        (opens_items nesting (before k.RightBracket) inner opens g.2.0 h.1 g.1 g.2.2 (suc n))) g.3

  abbrev made_field : Name → Literal → ObjectField
  made_field n x = record { name = n; value = x }

  opens_field : Opens (object_field_of inner) field_nesting
  unfolding object_field_of
  opens_field ts rest f (inl h) n = absurd (let e = h.2 in cc)
  opens_field ts rest f (inr h) n = colon h.3 where
    given : (us : List Lexeme) → depth_from n h.1 ≡ max n (depth_from n us)
        → Derives (inner >>= (λ x. pure (made_field h.0 x))) us f rest
        → depth_from n ts ≡ max (n + field_nesting f) (depth_from n rest)
    given us middle (inl g) = absurd (let e = g.2 in cc)
    given us middle (inr g) =
        let first = opens_name ts h.1 h.0 h.2 n in
        let last = opens us g.1 g.0 g.2 n in
        let levels : field_nesting f
        ≡ nesting g.0 =
        sym (ap field_nesting (same_value (made_field h.0 g.0) f g.1 rest g.3)) in
        let same : depth_from n g.1
        ≡ depth_from n rest =
        ap (depth_from n) (same_rest (made_field h.0 g.0) f g.1 rest g.3) in
        omega (arith, first, middle, last, levels, same)

    colon : Derives (token k.Colon >>= (λ _. inner >>= (λ x. pure (made_field h.0 x)))) h.1 f rest
        → depth_from n ts ≡ max (n + field_nesting f) (depth_from n rest)
    colon (inl g) = absurd (let e = g.2 in cc)
    colon (inr g) = given g.1 (opens_token k.Colon h.1 g.1 g.0 g.2 n) g.3

  opens_object : Opens (object_of inner) nesting
  unfolding object_of
  opens_object ts rest x (inl h) n = absurd (let e = h.2 in cc)
  opens_object ts rest x (inr h) n = fields h.3 where
    closing : (fs : List ObjectField) (us : List Lexeme)
        → depth_from (suc n) h.1 ≡ max (suc n + most (map field_nesting fs)) (depth_from (suc n) us)
        → Derives (token k.RightBrace >>= (λ _. pure (l.Object h.0.place fs))) us x rest
        → depth_from n ts ≡ max (n + nesting x) (depth_from n rest)
    closing fs us middle (inl g) = absurd (let e = g.2 in cc)
    closing fs us middle (inr g) =
        let made : Literal = l.Object h.0.place fs in
        let first = opens_token k.LeftBrace ts h.1 h.0 h.2 n in
        let last = opens_token k.RightBrace us g.1 g.0 g.2 (suc n) in
        let levels : nesting x
        ≡ suc (most (map field_nesting fs)) = sym (ap nesting (same_value made x g.1 rest g.3))
        ∙ of_object h.0.place fs in
        let same : depth_from n g.1
        ≡ depth_from n rest = ap (depth_from n) (same_rest made x g.1 rest g.3) in
        omega (arith, first, middle, last, levels, same, at_least n rest)

    fields : Derives
        (any_while (before k.RightBrace) (object_field_of inner) >>=
        (λ fs. token k.RightBrace >>= (λ _. pure (l.Object h.0.place fs)))) h.1 x rest
        → depth_from n ts ≡ max (n + nesting x) (depth_from n rest)
    fields (inl g) = absurd (let e = g.2 in cc)
    fields (inr g) = closing g.0 g.1
        (subst (λ fs. depth_from (suc n) h.1
        ≡ max (suc n + most (map field_nesting fs)) (depth_from (suc n) g.1)) g.2.1
        (opens_items field_nesting (before k.RightBrace)
        (object_field_of inner) opens_field g.2.0 h.1 g.1 g.2.2 (suc n))) g.3

  opens_by : (c : Bool) (kind : Kind) → Opens (value_by c inner kind) nesting
  unfolding int float string block_string word_literal
  opens_by c k.Dollar = opens_variable c
  opens_by c k.IntValue = opens_one nesting k.IntValue (λ t. l.Int t.place t.text) (λ n. refl)
      (λ t. of_int t.place t.text)
  opens_by c k.FloatValue = opens_one nesting k.FloatValue (λ t. l.Float t.place t.text) (λ n. refl)
      (λ t. of_float t.place t.text)
  opens_by c k.StringValue = opens_one nesting k.StringValue
      (λ t. l.String t.place (text_value t.text)) (λ n. refl)
      (λ t. of_string t.place (text_value t.text))
  opens_by c k.BlockString = opens_one nesting k.BlockString
      (λ t. l.String t.place (text_value t.text)) (λ n. refl)
      (λ t. of_string t.place (text_value t.text))
  opens_by c k.Name = opens_one nesting k.Name word_value (λ n. refl)
      (λ t. no_word_level t.place t.text (bytes_eq t.text (codes "true"))
      (bytes_eq t.text (codes "false")) (bytes_eq t.text (codes "null")))
  opens_by c k.LeftBracket = opens_list
  opens_by c k.LeftBrace = opens_object
  opens_by c _ = λ ts rest x h n. absurd (cc)

opens_nested : (c : Bool) (m : ℕ) → Opens (nested (value_of c) m) nesting
unfolding nested
opens_nested c zero = λ ts rest x h n. absurd (cc)
opens_nested c (suc m) =
    λ ts rest x h n. opens_by (nested (value_of c) m) (opens_nested c m) c _ ts rest x h n

pub opens_value : (c : Bool) → Opens (value c) nesting
unfolding value recursive
opens_value c ts rest x h n = opens_nested c (suc (length ts)) ts rest x h n
