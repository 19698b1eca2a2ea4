-- Whether bytes are a head of the grammar is decided.
use Rattle.std.proofs.Common.{◌≡◌, ◌⊎◌, inl, inr, ℕ, zero, suc, ◌≤◌, ◌<◌, List, [], ◌∷◌, ◌++◌, length, refl, sym, ap, ◌∙◌, subst, arith, Bool, true, false, append_assoc, eqb-true, eq-eqb}
use Rattle.std.specs.Prelude.{◌==◌, IsUtf8}
use Rattle.std.specs.List.{list_all, flat_map}
use Rattle.std.specs.Str.{is_utf8}
use Rattle.std.proofs.lemmas.Str.{IsUtf8-from_is_utf8, is_utf8-from_IsUtf8}
use Rattle.std.proofs.lemmas.List.Sums.{AllPass-from_list_all, list_all-from_AllPass}
use Rattle.std.proofs.lemmas.List.Elements.{All-cons, All-nil, All-head, All-tail}
use Rattle.std.proofs.lemmas.Bool.Decides.{leb_tells}
use Rattle.httparse.specs.Grammar.{LineEnd, crlf, lf, print_end, print_blank, print_version, Field, print_field, IsField, AllPass, is_token_byte, is_uri_byte, is_value_byte, print_section, ReadsSection, RequestHead}
use Rattle.httparse.specs.Pieces.{Stops, is_newline, FieldLine}
use Rattle.httparse.proofs.GrammarLemmas.{RequestTree, request_head, request_pieces, request_from_pieces}
use Rattle.gql_wire.specs.Head.{Outcome, HasOutcome, IsRead, unread, read, outcome_of, parts_of}

-- a fact or its refutation
abbrev pub Dec : Type 0 → Type 0
Dec P = P ⊎ (P → ⊥)

via : {P Q : Type 0} → (P → Q) → (Q → P) → Dec P → Dec Q
via f g (inl p) = inl (f p)
via f g (inr n) = inr (λ q. n (g q))

both_of : {P Q : Type 0} → Dec P → Dec Q → Dec (P × Q)
both_of (inl p) (inl q) = inl (p, q)
both_of (inl p) (inr n) = inr (λ w. n w.1)
both_of (inr n) d = inr (λ w. n w.0)

one_of : {P Q : Type 0} → Dec P → Dec Q → Dec (P ⊎ Q)
one_of (inl p) d = inl (inl p)
one_of (inr n) (inl q) = inl (inr q)
one_of (inr n) (inr m) = inr (λ w. elim w [ inl p ↦ n p | inr q ↦ m q ])

is_true : (b : Bool) → Dec (b ≡ true)
is_true true = inl refl
is_true false = inr (λ e. absurd (cc))

same_number : (m n : ℕ) → Dec (m ≡ n)
same_number m n = via (λ e. eqb-true m n e) (λ e. eq-eqb m n e) (is_true (m == n))

at_most : (m n : ℕ) → Dec (m ≤ n)
at_most m n = elim (leb_tells m n) [ inl w ↦ inl w.1 | inr w ↦ inr (λ h. absurd (omega (arith, w.1))) ]

all_pass : (test : ℕ → Bool) (bytes : List ℕ) → Dec (AllPass test bytes)
all_pass test bytes = via (AllPass-from_list_all test bytes) (list_all-from_AllPass test bytes) (is_true (list_all test bytes))

is_text : (bytes : List ℕ) → Dec (IsUtf8 bytes)
is_text bytes = via (IsUtf8-from_is_utf8 bytes) (is_utf8-from_IsUtf8 bytes) (is_true (is_utf8 bytes))

-- some cut of the bytes in two has the property
abbrev Cuts : (List ℕ → List ℕ → Type 0) → List ℕ → Type 0
Cuts P bytes = (a : List ℕ) × (b : List ℕ) × (bytes ≡ a ++ b) × P a b

nil_cut : (P : List ℕ → List ℕ → Type 0) (a b : List ℕ) → [] ≡ a ++ b → P a b → P [] []
nil_cut P [] b e p = subst (λ (z : List ℕ). P [] z) (sym e) p
nil_cut P (x ∷ a) b e p = absurd (cc)

cons_cut : (P : List ℕ → List ℕ → Type 0) (x : ℕ) (xs a b : List ℕ) → x ∷ xs ≡ a ++ b → P a b → (P [] (x ∷ xs) → ⊥) → (Cuts (λ a b. P (x ∷ a) b) xs → ⊥) → ⊥
cons_cut P x xs [] b e p n m = n (subst (λ (z : List ℕ). P [] z) (sym e) p)
cons_cut P x xs (y ∷ a) b e p n m = let first : y ≡ x = cc in let rest : xs ≡ a ++ b = cc in m (a, b, rest, subst (λ (z : ℕ). P (z ∷ a) b) first p)

cuts : (P : List ℕ → List ℕ → Type 0) (bytes : List ℕ) → ((a b : List ℕ) → Dec (P a b)) → Dec (Cuts P bytes)
cuts P [] dec = elim (dec [] []) [ inl p ↦ inl ([], [], refl, p) | inr n ↦ inr (λ w. n (nil_cut P w.0 w.1 w.2 w.3)) ]
cuts P (x ∷ xs) dec = elim (dec [] (x ∷ xs)) [
  | inl p ↦ inl ([], x ∷ xs, refl, p)
  | inr n ↦ elim (cuts (λ a b. P (x ∷ a) b) xs (λ a b. dec (x ∷ a) b)) [
    | inl w ↦ inl (x ∷ w.0, w.1, ap (λ (z : List ℕ). x ∷ z) w.2, w.3)
    | inr m ↦ inr (λ w. cons_cut P x xs w.0 w.1 w.2 w.3 n m)
  ]
]

-- the bytes begin so, and the rest has the property
abbrev Begins : List ℕ → (List ℕ → Type 0) → List ℕ → Type 0
Begins front P bytes = (b : List ℕ) × (bytes ≡ front ++ b) × P b

begins : (front : List ℕ) (P : List ℕ → Type 0) (bytes : List ℕ) → ((b : List ℕ) → Dec (P b)) → Dec (Begins front P bytes)
begins [] P bytes dec = via (λ p. (bytes, refl, p)) (λ w. subst P (sym w.1) w.2) (dec bytes)
begins (c ∷ front) P [] dec = inr (λ w. absurd (let e : [] ≡ c ∷ (front ++ w.0) = w.1 in cc))
begins (c ∷ front) P (x ∷ xs) dec = elim (same_number x c) [
  | inl e ↦ via (λ w. (w.0, (let t = w.1 in cc), w.2)) (λ w. (w.0, (let t = w.1 in cc), w.2)) (begins front P xs dec)
  | inr n ↦ inr (λ w. n (let t = w.1 in cc))
]

-- the bytes begin with a line end, and the rest has the property
abbrev EndThen : (List ℕ → Type 0) → List ℕ → Type 0
EndThen P bytes = Begins (print_end crlf) P bytes ⊎ Begins (print_end lf) P bytes

end_then : (P : List ℕ → Type 0) (bytes : List ℕ) → ((b : List ℕ) → Dec (P b)) → Dec (EndThen P bytes)
end_then P bytes dec = one_of (begins (print_end crlf) P bytes dec) (begins (print_end lf) P bytes dec)

-- the same, for some line end
some_end : (P : List ℕ → Type 0) (bytes : List ℕ) → EndThen P bytes → (end : LineEnd) × Begins (print_end end) P bytes
some_end P bytes (inl w) = (crlf, w)
some_end P bytes (inr w) = (lf, w)

this_end : (P : List ℕ → Type 0) (bytes : List ℕ) (end : LineEnd) → Begins (print_end end) P bytes → EndThen P bytes
this_end P bytes crlf w = inl w
this_end P bytes lf w = inr w

-- ---- sections

-- the bytes are a section of at most so many fields
abbrev Lines : ℕ → List ℕ → Type 0
Lines n bytes = (fields : List Field) × (end : LineEnd) × ReadsSection bytes fields end [] × (length fields ≤ n)

abbrev IsNone : List ℕ → Type 0
IsNone bytes = bytes ≡ []

is_none : (bytes : List ℕ) → Dec (IsNone bytes)
is_none [] = inl refl
is_none (x ∷ xs) = inr (λ e. absurd (cc))

-- a field line, and then the property
abbrev FieldThen : (List ℕ → Type 0) → List ℕ → Type 0
FieldThen P bytes = (f : Field) × (rest : List ℕ) × FieldLine f bytes rest × P rest

-- the same, by its parts
abbrev ValueThen : (List ℕ → Type 0) → List ℕ → List ℕ → Type 0
ValueThen P raw bytes = AllPass is_value_byte raw × EndThen P bytes

abbrev NameThen : (List ℕ → Type 0) → List ℕ → List ℕ → Type 0
NameThen P name bytes = (0 < length name) × AllPass is_token_byte name × Begins (58 ∷ []) (Cuts (ValueThen P)) bytes

name_then : (P : List ℕ → Type 0) → ((b : List ℕ) → Dec (P b)) → (name bytes : List ℕ) → Dec (NameThen P name bytes)
name_then P dec name bytes =
    via (λ w. (w.0, w.1.0, w.1.1)) (λ w. (w.0, (w.1, w.2)))
    (both_of (at_most 1 (length name)) (both_of (all_pass is_token_byte name)
    (begins (58 ∷ []) (Cuts (ValueThen P)) bytes (λ b. cuts (ValueThen P) b (λ raw c. both_of (all_pass is_value_byte raw) (end_then P c dec))))))

field_line : (name raw end rest bytes : List ℕ) → bytes ≡ name ++ ((58 ∷ []) ++ (raw ++ (end ++ rest))) → bytes ≡ (name ++ 58 ∷ raw ++ end) ++ rest
field_line name raw end rest bytes e = e ∙ sym (append_assoc (name ++ 58 ∷ raw) end rest ∙ append_assoc name (58 ∷ raw) (end ++ rest))

field_parts : (name raw end rest bytes : List ℕ) → bytes ≡ (name ++ 58 ∷ raw ++ end) ++ rest → bytes ≡ name ++ ((58 ∷ []) ++ (raw ++ (end ++ rest)))
field_parts name raw end rest bytes e = e ∙ (append_assoc (name ++ 58 ∷ raw) end rest ∙ append_assoc name (58 ∷ raw) (end ++ rest))

field_of : (P : List ℕ → Type 0) (bytes : List ℕ) → Cuts (NameThen P) bytes → FieldThen P bytes
field_of P bytes w =
    let name = w.0 in let value = w.3.2 in let cut = value.2 in let ended = some_end P cut.1 cut.3.1 in
    let f : Field = record { name = name; raw = cut.0; end = ended.0 } in (
      f,
      ended.1.0,
      (
        record { name = (w.3.0, w.3.1); raw = cut.3.0 },
        field_line name cut.0 (print_end ended.0) ended.1.0 bytes
            (w.2 ∙ ap (λ (z : List ℕ). name ++ z) (value.1 ∙ ap (λ (z : List ℕ). 58 ∷ z) (cut.2 ∙ ap (λ (z : List ℕ). cut.0 ++ z) ended.1.1))),
      ),
      ended.1.2,
    )

of_field : (P : List ℕ → Type 0) (bytes : List ℕ) → FieldThen P bytes → Cuts (NameThen P) bytes
of_field P bytes (f, rest, line, p) =
    let after = f.raw ++ (print_end f.end ++ rest) in (
      f.name,
      (58 ∷ []) ++ after,
      field_parts f.name f.raw (print_end f.end) rest bytes line.1,
      (line.0.name.0, line.0.name.1, (after, refl, (f.raw, print_end f.end ++ rest, refl, (line.0.raw, this_end P (print_end f.end ++ rest) f.end (rest, refl, p))))),
    )

field_then : (P : List ℕ → Type 0) → ((b : List ℕ) → Dec (P b)) → (bytes : List ℕ) → Dec (FieldThen P bytes)
field_then P dec bytes = via (field_of P bytes) (of_field P bytes) (cuts (NameThen P) bytes (name_then P dec))

lines_of : (n : ℕ) (bytes : List ℕ) → EndThen IsNone bytes ⊎ FieldThen (Lines n) bytes → Lines (suc n) bytes
lines_of n bytes (inl w) =
    let ended = some_end IsNone bytes w in
    ([], ended.0, (All-nil IsField, ended.1.1 ∙ ap (λ (z : List ℕ). print_end ended.0 ++ z) ended.1.2), omega arith)
lines_of n bytes (inr (f, rest, line, (fs, end, section, few))) = (
  f ∷ fs,
  end,
  (
    All-cons IsField f fs line.0 section.0,
    line.1 ∙ ap (λ (z : List ℕ). print_field f ++ z) section.1 ∙ sym (ap (λ (z : List ℕ). z ++ []) (append_assoc (print_field f) (flat_map print_field fs) (print_end end)) ∙ append_assoc (print_field f) (print_section fs end) []),
  ),
  omega arith,
)

of_lines : (n : ℕ) (bytes : List ℕ) → Lines (suc n) bytes → EndThen IsNone bytes ⊎ FieldThen (Lines n) bytes
of_lines n bytes ([], end, section, few) = inl (this_end IsNone bytes end ([], section.1, refl))
of_lines n bytes (f ∷ fs, end, section, few) =
    inr (
      f,
      print_section fs end ++ [],
      (
        All-head IsField f fs section.0,
        section.1 ∙ (ap (λ (z : List ℕ). z ++ []) (append_assoc (print_field f) (flat_map print_field fs) (print_end end)) ∙ append_assoc (print_field f) (print_section fs end) []),
      ),
      (fs, end, (All-tail IsField f fs section.0, refl), omega arith),
    )

no_lines : (bytes : List ℕ) → Lines zero bytes → EndThen IsNone bytes
no_lines bytes ([], end, section, few) = this_end IsNone bytes end ([], section.1, refl)
no_lines bytes (f ∷ fs, end, section, few) = absurd (omega arith)

none_of : (bytes : List ℕ) → EndThen IsNone bytes → Lines zero bytes
none_of bytes w =
    let ended = some_end IsNone bytes w in
    ([], ended.0, (All-nil IsField, ended.1.1 ∙ ap (λ (z : List ℕ). print_end ended.0 ++ z) ended.1.2), omega arith)

lines : (n : ℕ) (bytes : List ℕ) → Dec (Lines n bytes)
lines zero bytes = via (none_of bytes) (no_lines bytes) (end_then IsNone bytes is_none)
lines (suc n) bytes = via (lines_of n bytes) (of_lines n bytes) (one_of (end_then IsNone bytes is_none) (field_then (Lines n) (lines n) bytes))

-- ---- start lines

-- what follows the version, the target, the method and the empty lines
abbrev AfterVersion : List ℕ → Type 0
AfterVersion = EndThen (Lines 32)

abbrev AfterTarget : List ℕ → Type 0
AfterTarget bytes = Begins (print_version 0) AfterVersion bytes ⊎ Begins (print_version 1) AfterVersion bytes

abbrev TargetThen : List ℕ → List ℕ → Type 0
TargetThen word bytes = (0 < length word) × AllPass is_uri_byte word × IsUtf8 word × Begins (32 ∷ []) AfterTarget bytes

abbrev MethodThen : List ℕ → List ℕ → Type 0
MethodThen word bytes = (0 < length word) × AllPass is_token_byte word × Begins (32 ∷ []) (Cuts TargetThen) bytes

-- empty lines
abbrev IsBlank : List ℕ → Type 0
IsBlank bytes = (ends : List LineEnd) × (bytes ≡ print_blank ends)

abbrev BlankThen : List ℕ → List ℕ → Type 0
BlankThen blank bytes = IsBlank blank × Stops is_newline bytes × Cuts MethodThen bytes

after_version : (bytes : List ℕ) → Dec (AfterVersion bytes)
after_version bytes = end_then (Lines 32) bytes (lines 32)

after_target : (bytes : List ℕ) → Dec (AfterTarget bytes)
after_target bytes = one_of (begins (print_version 0) AfterVersion bytes after_version) (begins (print_version 1) AfterVersion bytes after_version)

target_then : (word bytes : List ℕ) → Dec (TargetThen word bytes)
target_then word bytes = via (λ w. (w.0, w.1.0, w.1.1.0, w.1.1.1)) (λ w. (w.0, (w.1, (w.2, w.3))))
    (both_of (at_most 1 (length word)) (both_of (all_pass is_uri_byte word) (both_of (is_text word) (begins (32 ∷ []) AfterTarget bytes after_target))))

method_then : (word bytes : List ℕ) → Dec (MethodThen word bytes)
method_then word bytes = via (λ w. (w.0, w.1.0, w.1.1)) (λ w. (w.0, (w.1, w.2)))
    (both_of (at_most 1 (length word)) (both_of (all_pass is_token_byte word) (begins (32 ∷ []) (Cuts TargetThen) bytes (λ b. cuts TargetThen b target_then))))

more_blank : (x : ℕ) (xs : List ℕ) (ends : List LineEnd) → x ∷ xs ≡ print_blank ends → ((x ≡ 10) × IsBlank xs) ⊎ ((x ≡ 13) × Begins (10 ∷ []) IsBlank xs)
more_blank x xs [] e = absurd (cc)
more_blank x xs (lf ∷ ends) e = inl ((let t : x ∷ xs ≡ 10 ∷ print_blank ends = e in cc), (ends, (let t : x ∷ xs ≡ 10 ∷ print_blank ends = e in cc)))
more_blank x xs (crlf ∷ ends) e = inr ((let t : x ∷ xs ≡ 13 ∷ 10 ∷ print_blank ends = e in cc), (print_blank ends, (let t : x ∷ xs ≡ 13 ∷ 10 ∷ print_blank ends = e in cc), (ends, refl)))

blank_of : (x : ℕ) (xs : List ℕ) → ((x ≡ 10) × IsBlank xs) ⊎ ((x ≡ 13) × Begins (10 ∷ []) IsBlank xs) → IsBlank (x ∷ xs)
blank_of x xs (inl (e, w)) = (lf ∷ w.0, (let t = w.1 in cc))
blank_of x xs (inr (e, w)) = (crlf ∷ w.2.0, (let t = w.1 in let u = w.2.1 in cc))

is_blank : (bytes : List ℕ) → Dec (IsBlank bytes)
is_blank [] = inl ([], refl)
is_blank (x ∷ []) = via (blank_of x []) (λ w. more_blank x [] w.0 w.1) (one_of (both_of (same_number x 10) (is_blank [])) (both_of (same_number x 13) (inr (λ w. absurd (let e : [] ≡ 10 ∷ w.0 = w.1 in cc)))))
is_blank (x ∷ y ∷ xs) = via (blank_of x (y ∷ xs)) (λ w. more_blank x (y ∷ xs) w.0 w.1)
    (one_of (both_of (same_number x 10) (is_blank (y ∷ xs))) (both_of (same_number x 13)
    (via (λ w. (xs, (let e = w.0 in cc), w.1)) (λ w. ((let e : y ∷ xs ≡ 10 ∷ w.0 = w.1 in cc), (let e : w.0 ≡ xs = (let d : y ∷ xs ≡ 10 ∷ w.0 = w.1 in cc) in subst IsBlank e w.2)))
    (both_of (same_number y 10) (is_blank xs)))))

stops : (bytes : List ℕ) → Dec (Stops is_newline bytes)
stops [] = inr (λ e. e)
stops (b ∷ bytes) = elim (is_true (is_newline b)) [ inl t ↦ inr (λ f. absurd (let bad : true ≡ false = sym t ∙ f in cc)) | inr n ↦ inl (not_true (is_newline b) n) ]
  where
    not_true : (b : Bool) → (b ≡ true → ⊥) → b ≡ false
    not_true true n = absurd (n refl)
    not_true false n = refl

blank_then : (blank bytes : List ℕ) → Dec (BlankThen blank bytes)
blank_then blank bytes = via (λ w. (w.0, w.1.0, w.1.1)) (λ w. (w.0, (w.1, w.2)))
    (both_of (is_blank blank) (both_of (stops bytes) (cuts MethodThen bytes method_then)))

-- ---- heads

-- some version, and what follows it
abbrev SomeVersion : List ℕ → Type 0
SomeVersion bytes = (minor : ℕ) × (minor ≤ 1) × Begins (print_version minor) AfterVersion bytes

some_version : (bytes : List ℕ) → AfterTarget bytes → SomeVersion bytes
some_version bytes (inl w) = (0, omega arith, w)
some_version bytes (inr w) = (1, omega arith, w)

this_version : (minor : ℕ) (bytes : List ℕ) → minor ≤ 1 → Begins (print_version minor) AfterVersion bytes → AfterTarget bytes
this_version zero bytes h w = inl w
this_version (suc zero) bytes h w = inr w
this_version (suc (suc n)) bytes h w = absurd (omega arith)

head_of : (buf : List ℕ) → Cuts BlankThen buf → (h : RequestHead) × IsRead buf h
head_of buf (blank, m1, cut, ((ends, is), stop, (method, rest1, cut1, (some, token, (m2, space, (target, rest2, cut2, (some2, uri, text, (m3, space2, after)))))))) =
    let version = some_version m3 after in
    let ended = some_end (Lines 32) version.2.0 version.2.2 in
    let section = ended.1.2 in
    let tree : RequestTree = ((ends, (method, (target, (version.0, ended.0)))), (section.0, section.1)) in (
      request_head tree,
      record {
        reads = request_from_pieces buf tree [] (
          ended.1.0,
          (
            m1,
            (cut ∙ ap (λ (z : List ℕ). z ++ m1) is, stop),
            (
              m2,
              (some, token, cut1 ∙ ap (λ (z : List ℕ). method ++ z) space),
              (
                m3,
                ((some2, uri, cut2 ∙ ap (λ (z : List ℕ). target ++ z) space2), text),
                (version.2.0, (version.1, version.2.1), ended.1.1),
              ),
            ),
          ),
          section.2,
        );
        few = section.3;
      },
    )

of_head : (buf : List ℕ) (h : RequestHead) → IsRead buf h → Cuts BlankThen buf
of_head buf h whole =
    let (m0, (m1, blank, (m2, method, (m3, target, (m4, version, ended)))), section) = request_pieces buf h [] whole.reads in (
      print_blank h.blank,
      m1,
      blank.0,
      (
        (h.blank, refl),
        blank.1,
        (
          h.method,
          32 ∷ m2,
          method.2,
          (
            method.0,
            method.1,
            (
              m2,
              refl,
              (
                h.target,
                32 ∷ m3,
                target.0.2,
                (
                  target.0.0,
                  target.0.1,
                  target.1,
                  (
                    m3,
                    refl,
                    this_version h.minor m3 version.0 (m4, version.1, this_end (Lines 32) m4 h.line_end (m0, ended, (h.fields, h.last, section, whole.few))),
                  ),
                ),
              ),
            ),
          ),
        ),
      ),
    )

-- bytes are a head, or are none
pub some_outcome : {limit : ℕ} → (head : List ℕ) → (outcome : Outcome) × HasOutcome limit head outcome
some_outcome {limit} head = elim (cuts BlankThen head blank_then) [
  | inl w ↦ let found = head_of head w in (outcome_of limit (parts_of found.0), read found.1)
  | inr n ↦ (_, unread (λ h reads few. n (of_head head h (record { reads = reads; few = few }))))
]
