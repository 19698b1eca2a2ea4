-- Punctuators are those of the grammar.
use Rattle.std.proofs.Common.{◌≡◌, ◌≢◌, ℕ, ◌+◌, List, [], ◌∷◌, length, drop, refl, sym, ap, subst, ◌∙◌, arith, false, Option, Some, None, inl, inr}
use Rattle.std.specs.List.{prefix_len}
use Rattle.std.specs.Char.{is_ascii_digit}
use Rattle.std.specs.Prelude.{◌==◌, ◌&&◌, not}
use Rattle.std.proofs.lemmas.Bool.{eqb-true}
use Rattle.std.proofs.lemmas.Bool.Decides.{nat_tests}
use Rattle.std.proofs.lemmas.List.{nil_from_length}
use Rattle.gql_text.specs.Chars.{is_name_start, is_break, is_blank, is_source_byte, begins}
use Rattle.gql_text.specs.Marks.{mark_kind, mark_part, dots_part, plain_part}
use Rattle.gql_text.specs.Number.{number_part}
use Rattle.gql_text.specs.Lexis.{Stands, block_string, string, plain}
use Rattle.gql_text.specs.Laws.{IsToken}
use Rattle.gql_text.specs.Grammar.{mark_text}
use Rattle.gql_text.specs.declared.token.Kind.{Kind}
use Rattle.gql_text.specs.declared.token.Kind.TheVariants.{EndOfText, Bang, Dollar, Ampersand, LeftParenthesis, RightParenthesis, Ellipsis, Colon, Equals, At, LeftBracket, RightBracket, LeftBrace, Pipe, RightBrace, Name, IntValue, FloatValue, StringValue, BlockString}
use Rattle.gql_text.specs.declared.front.Part.{Part}
use Rattle.gql_text.specs.declared.front.Part.TheVariants.{Taken}
use Rattle.gql_text.proofs.Runs.{chosen}
use Rattle.gql_text.proofs.Cuts.{both_of}
use Rattle.gql_text.proofs.Longest.{order_none}
use Rattle.gql_text.proofs.Grammars.{run_kind_is, number_whole}

mark_alone : (b : ℕ) (k : Kind) → plain_part b [] ≡ Taken k 1 → (b == 34) ≡ false → IsToken k (b ∷ [])
mark_alone b k e h = plain refl h (sym e)

some_is : {A : Type 0} (P : A → Type 0) (a b : A) → Some a ≡ Some b → P a → P b
some_is P a b e p = let same : a ≡ b = cc in subst P same p

pub mark_token : (k : Kind) (m : List ℕ) → mark_text k ≡ Some m → IsToken k m
unfolding plain_part
mark_token Bang m e = some_is (IsToken Bang) (33 ∷ []) m e (plain refl refl refl)
mark_token Dollar m e = some_is (IsToken Dollar) (36 ∷ []) m e (plain refl refl refl)
mark_token Ampersand m e = some_is (IsToken Ampersand) (38 ∷ []) m e (plain refl refl refl)
mark_token LeftParenthesis m e = some_is (IsToken LeftParenthesis) (40 ∷ []) m e (plain refl refl refl)
mark_token RightParenthesis m e = some_is (IsToken RightParenthesis) (41 ∷ []) m e (plain refl refl refl)
mark_token Colon m e = some_is (IsToken Colon) (58 ∷ []) m e (plain refl refl refl)
mark_token Equals m e = some_is (IsToken Equals) (61 ∷ []) m e (plain refl refl refl)
mark_token At m e = some_is (IsToken At) (64 ∷ []) m e (plain refl refl refl)
mark_token LeftBracket m e = some_is (IsToken LeftBracket) (91 ∷ []) m e (plain refl refl refl)
mark_token RightBracket m e = some_is (IsToken RightBracket) (93 ∷ []) m e (plain refl refl refl)
mark_token LeftBrace m e = some_is (IsToken LeftBrace) (123 ∷ []) m e (plain refl refl refl)
mark_token Pipe m e = some_is (IsToken Pipe) (124 ∷ []) m e (plain refl refl refl)
mark_token RightBrace m e = some_is (IsToken RightBrace) (125 ∷ []) m e (plain refl refl refl)
mark_token Ellipsis m e = some_is (IsToken Ellipsis) (46 ∷ 46 ∷ 46 ∷ []) m e (plain refl refl refl)
mark_token EndOfText m e = absurd (cc)
mark_token Name m e = absurd (cc)
mark_token IntValue m e = absurd (cc)
mark_token FloatValue m e = absurd (cc)
mark_token StringValue m e = absurd (cc)
mark_token BlockString m e = absurd (cc)

-- the byte of a punctuator of one byte
pub mark_byte : (k : Kind) (b : ℕ) → mark_kind b ≡ Some k → mark_text k ≡ Some (b ∷ [])
mark_byte Bang b e = ap (λ x. Some (x ∷ [])) (let same : 33 ≡ b = grind (arith, nat_tests) in same)
mark_byte Dollar b e = ap (λ x. Some (x ∷ [])) (let same : 36 ≡ b = grind (arith, nat_tests) in same)
mark_byte Ampersand b e = ap (λ x. Some (x ∷ [])) (let same : 38 ≡ b = grind (arith, nat_tests) in same)
mark_byte LeftParenthesis b e = ap (λ x. Some (x ∷ [])) (let same : 40 ≡ b = grind (arith, nat_tests) in same)
mark_byte RightParenthesis b e = ap (λ x. Some (x ∷ [])) (let same : 41 ≡ b = grind (arith, nat_tests) in same)
mark_byte Colon b e = ap (λ x. Some (x ∷ [])) (let same : 58 ≡ b = grind (arith, nat_tests) in same)
mark_byte Equals b e = ap (λ x. Some (x ∷ [])) (let same : 61 ≡ b = grind (arith, nat_tests) in same)
mark_byte At b e = ap (λ x. Some (x ∷ [])) (let same : 64 ≡ b = grind (arith, nat_tests) in same)
mark_byte LeftBracket b e = ap (λ x. Some (x ∷ [])) (let same : 91 ≡ b = grind (arith, nat_tests) in same)
mark_byte RightBracket b e = ap (λ x. Some (x ∷ [])) (let same : 93 ≡ b = grind (arith, nat_tests) in same)
mark_byte LeftBrace b e = ap (λ x. Some (x ∷ [])) (let same : 123 ≡ b = grind (arith, nat_tests) in same)
mark_byte Pipe b e = ap (λ x. Some (x ∷ [])) (let same : 124 ≡ b = grind (arith, nat_tests) in same)
mark_byte RightBrace b e = ap (λ x. Some (x ∷ [])) (let same : 125 ≡ b = grind (arith, nat_tests) in same)
mark_byte EndOfText b e = absurd (grind (arith, nat_tests))
mark_byte Name b e = absurd (grind (arith, nat_tests))
mark_byte IntValue b e = absurd (grind (arith, nat_tests))
mark_byte FloatValue b e = absurd (grind (arith, nat_tests))
mark_byte StringValue b e = absurd (grind (arith, nat_tests))
mark_byte BlockString b e = absurd (grind (arith, nat_tests))
mark_byte Ellipsis b e = absurd (grind (arith, nat_tests))

dots_text : (k : Kind) (i : ℕ) (bs : List ℕ) → dots_part bs ≡ Taken k i → i ≡ 1 + length bs → mark_text k ≡ Some (46 ∷ bs)
dots_text k i [] e w = absurd (cc)
dots_text k i (b ∷ []) e w = absurd (cc)
dots_text k i (b ∷ c ∷ bs) e w = elim (chosen (b == 46 && c == 46) e) [
  | inl h ↦
      let f = h.1 in let kind : Ellipsis ≡ k = cc in let three : 3 ≡ i = cc in
      let two = both_of (b == 46) (c == 46) h.0 in
      let none : bs ≡ [] = nil_from_length bs (omega (arith, three, w)) in
      sym (ap mark_text kind) ∙ ap (λ x. Some (46 ∷ x ∷ 46 ∷ [])) (sym (eqb-true b 46 two.0)) ∙ ap (λ x. Some (46 ∷ b ∷ x ∷ [])) (sym (eqb-true c 46 two.1)) ∙ ap (λ xs. Some (46 ∷ b ∷ c ∷ xs)) (sym none)
  | inr h ↦ absurd (let f = h.1 in cc)
]

one_mark : (k : Kind) (i b : ℕ) (bs : List ℕ) (o : Option Kind) → mark_kind b ≡ o → mark_part o ≡ Taken k i → i ≡ 1 + length bs → mark_text k ≡ Some (b ∷ bs)
one_mark k i b bs (Some j) m e w =
    let kind : j ≡ k = cc in let one : 1 ≡ i = cc in
    let none : bs ≡ [] = nil_from_length bs (omega (arith, one, w)) in
    mark_byte k b (m ∙ ap (λ x. Some x) kind) ∙ ap (λ xs. Some (b ∷ xs)) (sym none)
one_mark k i b bs None m e w = absurd (cc)

-- a kind of punctuator is no name and no number
pub record IsMark (k : Kind) : Type 0 where
  pub no_name : Name ≢ k
  pub no_int : IntValue ≢ k
  pub no_float : FloatValue ≢ k
  pub no_string : StringValue ≢ k
  pub no_block : BlockString ≢ k

word_kind : (k : Kind) (m : List ℕ) → mark_text k ≡ Some m → (j : Kind) → mark_text j ≡ None → j ≢ k
word_kind k m e j h = λ same. absurd (let t = ap mark_text same in cc)

marks : (k : Kind) (m : List ℕ) → mark_text k ≡ Some m → IsMark k
marks k m e = record { no_name = word_kind k m e Name refl; no_int = word_kind k m e IntValue refl; no_float = word_kind k m e FloatValue refl; no_string = word_kind k m e StringValue refl; no_block = word_kind k m e BlockString refl }

no_number : (k : Kind) (n i : ℕ) (bs : List ℕ) → IsMark k → i ≡ n + length bs → number_part n bs ≡ Taken k i → ⊥
no_number k n i bs w h e = let r = number_whole k n i bs e h in elim (r.kinds) [ inl x ↦ w.no_int x.1 | inr x ↦ w.no_float x.1 ]

plain_mark : (k : Kind) (i b : ℕ) (bs : List ℕ) → IsMark k → i ≡ 1 + length bs → plain_part b bs ≡ Taken k i → mark_text k ≡ Some (b ∷ bs)
unfolding plain_part
plain_mark k i b bs w n e = elim (chosen (is_blank b) e) [
  | inl h ↦ absurd (let f = h.1 in cc)
  | inr h ↦ elim (chosen (is_name_start b) h.1) [
    | inl g ↦ absurd (let f = g.1 in w.no_name cc)
    | inr g ↦ elim (chosen (b == 45) g.1) [
      | inl d ↦ absurd (no_number k 1 i bs w n d.1)
      | inr d ↦ elim (chosen (is_ascii_digit b) d.1) [
        | inl u ↦ absurd (no_number k 0 i (b ∷ bs) w (omega (arith, n)) u.1)
        | inr u ↦ elim (chosen (b == 35) u.1) [
          | inl v ↦ absurd (elim (chosen (begins (λ c. not (is_break c)) (drop (prefix_len is_source_byte bs) bs)) v.1) [ inl x ↦ let f = x.1 in cc | inr x ↦ let f = x.1 in cc ])
          | inr v ↦ elim (chosen (b == 46) v.1) [
            | inl x ↦ dots_text k i bs x.1 n ∙ ap (λ c. Some (c ∷ bs)) (sym (eqb-true b 46 x.0))
            | inr x ↦ elim (chosen (b == 239) x.1) [
              | inl y ↦ absurd (order_none bs k i y.1)
              | inr y ↦ one_mark k i b bs (mark_kind b) refl y.1 n
            ]
          ]
        ]
      ]
    ]
  ]
]

marked : {text : List ℕ} {p : Part} (k : Kind) → IsMark k → Stands text p → p ≡ Taken k (length text) → mark_text k ≡ Some text
marked k w (block_string e r) h = absurd (w.no_block (run_kind_is _ BlockString r k _ h))
marked k w (string e r) h = absurd (w.no_string (run_kind_is _ StringValue r k _ h))
marked k w (plain {b = b} {bs = bs} x y e) h = plain_mark k (length (b ∷ bs)) b bs w (omega arith) (sym e ∙ h)

pub token_mark : (k : Kind) (m text : List ℕ) → mark_text k ≡ Some m → IsToken k text → text ≡ m
token_mark k m text e s = let same = marked k (marks k m e) s refl in cc
