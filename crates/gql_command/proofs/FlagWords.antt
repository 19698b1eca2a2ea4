-- What clap makes of the first word of a level whose flags are its own, for help and for the
-- version.
use Rattle.std.proofs.Common.{◌≡◌, ◌⊎◌, ◌∙◌, ◌==◌, ◌||◌, ◌+◌, ℕ, Bool, true, false, zero, suc, List, [], ◌∷◌, Option, Some, None, refl, sym, ap, subst, inl, inr, arith, cond, codes, length, drop}
use Rattle.std.specs.Prelude.{encode_utf8, slice_get, unwrap_or, if◌then◌else◌}
use Rattle.std.specs.List.{list_any, before_first, position_or_len}
use Rattle.std.specs.Str.{bytes_eq, chars}
use Rattle.std.proofs.lemmas.Bool.{eqb-true, false_from_ne_true}
use Rattle.std.proofs.lemmas.Slice.Eq.{bytes_eq-Decides}
use Rattle.clap.specs.Lexer.{long_of, name_and_value, short_of}
use Rattle.clap.specs.Walk.{arg_by_long, arg_by_short, Held, Names, Rule, Step, Text, bundle_met, idle, long_or_other, nothing_held, plain, subcommand_met, value, walk_from, Outcome, after_flag, has_long, has_short}
use Rattle.clap.specs.Simple.{Shape, filled, help_rule, version_rule}
use Rattle.clap.specs.Kinds.{IsAmong, Kinds, or_else}
use Rattle.clap.specs.Faults.{flag_word_fault, long_fault, short_fault, flags_fault, step_fault, turn_fault}
use Rattle.clap.specs.declared.error.kind.ErrorKind.TheVariants.{DisplayHelp, DisplayVersion, InvalidSubcommand, TooManyValues, UnknownArgument}
use Rattle.gql_command.specs.CommandLine.{IsHelpFlag, IsShortFlag, IsVersionFlag}
use Rattle.clap.specs.declared.error.kind.ErrorKind.{ErrorKind}

-- no error is a call for help or for the version
abbrev pub NoRequest : Kinds → Type 0
NoRequest kinds = (IsAmong DisplayHelp kinds → ⊥) × (IsAmong DisplayVersion kinds → ⊥)

-- there is an error, and none is such a call
abbrev pub OnlyRefuses : Kinds → Type 0
OnlyRefuses [] = ⊥
OnlyRefuses (k ∷ ks) = NoRequest (k ∷ ks)

-- the two flags that clap adds
abbrev pub help : Rule
help = filled help_rule

abbrev pub version : Rule
version = filled version_rule

-- the flags of a level that has a version or has none
abbrev pub flags : Bool → List Rule
flags false = help ∷ []
flags true = help ∷ version ∷ []

-- the word is a flag for the version, at a level that has a version
abbrev pub IsVersionAt : Bool → Text → Type 0
IsVersionAt v word = (v ≡ true) × IsVersionFlag word

-- the word asks for help or for the version, and this is its one error
abbrev pub AsksBy : Bool → Text → Kinds → Type 0
AsksBy v word kinds = (IsHelpFlag word × (kinds ≡ DisplayHelp ∷ []))
    ⊎ (IsVersionAt v word × (kinds ≡ DisplayVersion ∷ []))

-- what a word that is no subcommand and not `--` comes to, before it is taken for a value
abbrev Flagged : Bool → Text → Kinds → Held × Step → Type 0
Flagged v word kinds met = AsksBy v word kinds
    ⊎ (OnlyRefuses kinds ⊎ ((kinds ≡ []) × (met ≡ (nothing_held, value))))

-- an error alone that is no such call
pub one_refusal : (k : ErrorKind) → (DisplayHelp ≡ k → ⊥) → (DisplayVersion ≡ k → ⊥) → OnlyRefuses (k ∷ [])
one_refusal k h v = (
  λ among. elim among [ inl e ↦ h e | inr none ↦ none ],
  λ among. elim among [ inl e ↦ v e | inr none ↦ none ],
)

pub no_unknown : OnlyRefuses (UnknownArgument ∷ [])
no_unknown = one_refusal UnknownArgument (λ e. cc) (λ e. cc)

pub no_many : OnlyRefuses (TooManyValues ∷ [])
no_many = one_refusal TooManyValues (λ e. cc) (λ e. cc)

or_false : (a b : Bool) → (a || b) ≡ false → (a ≡ false) × (b ≡ false)
or_false false b e = (refl, e)
or_false true b e = cc

pub or_nothing : (b : Bool) → (b || false) ≡ true → b ≡ true
or_nothing true e = refl
or_nothing false e = e

-- the part before the first such byte is the whole text, where there is none
before_none : (p : ℕ → Bool) (xs : List ℕ) → list_any p xs ≡ false → before_first p xs ≡ xs
before_none p [] none = refl
before_none p (x ∷ xs) none =
    let both = or_false (p x) (list_any p xs) none in
    let next : 1 + position_or_len p xs ≡ suc (position_or_len p xs) = omega arith in
    rw (both.0, next) (ap (λ l. x ∷ l) (before_none p xs both.1))

none_if : (b : Bool) (t : Text) → (if b then Some t else None) ≡ None → b ≡ false
none_if false t e = refl
none_if true t e = cc

-- ---- a flag

abbrev IsFlagged : Bool → Bool → Text → Type 0
IsFlagged v again word = Flagged v word (flag_word_fault (flags v) again (long_of word) word nothing_held)
    (long_or_other (flags v) idle word (long_of word) nothing_held)

-- the flag that a name finds: help, the version or none
abbrev found : Bool → Bool → Option Rule
found b c = cond b (Some help) (cond c (Some version) None)

-- a long flag is one of the two with no value, or is refused
long_case : (c : List Rule) (again b1 b2 : Bool) (v : Option Text) (A B T : Type 0) → (b1 ≡ true → v ≡ None → A) → (b2 ≡ true → v ≡ None → B)
    → ((A × (long_fault c again (found b1 b2) v nothing_held ≡ DisplayHelp ∷ []))
    ⊎ (B × (long_fault c again (found b1 b2) v nothing_held ≡ DisplayVersion ∷ [])))
    ⊎ (OnlyRefuses (long_fault c again (found b1 b2) v nothing_held) ⊎ T)
long_case c again false false v A B T a b = inr (inl no_unknown)
long_case c again true b2 (Some t) A B T a b = inr (inl no_many)
long_case c again false true (Some t) A B T a b = inr (inl no_many)
long_case c again true b2 None A B T a b = inl (inl (a refl refl, refl))
long_case c again false true None A B T a b = inl (inr (b refl refl, refl))

-- a name with no value is the whole of the text after the hyphens
pub whole_name : (name word : Text) → bytes_eq name (name_and_value word).0 ≡ true → (name_and_value word).1 ≡ None → 45 ∷ 45 ∷ word ≡ 45 ∷ 45 ∷ name
whole_name name word same none =
    let is : name ≡ (name_and_value word).0 = (bytes_eq-Decides _ _).0 same in
    let all : (name_and_value word).0 ≡ word = before_none (λ x. x == 61) word (none_if _ _ none) in
    ap (λ t. 45 ∷ 45 ∷ t) (sym (is ∙ all))

-- a word that begins with two hyphens
double : (v again : Bool) (rest : Text) → IsFlagged v again (45 ∷ 45 ∷ rest)
double false again [] = inr (inr (refl, refl))
double true again [] = inr (inr (refl, refl))
double false again (z ∷ zs) =
    long_case (flags false) again (has_long help (name_and_value (z ∷ zs)).0) false (name_and_value (z ∷ zs)).1 _ _ _
    (λ b n. inl (whole_name (codes "help") (z ∷ zs) (or_nothing _ b) n)) (λ b n. cc)
double true again (z ∷ zs) =
    long_case (flags true) again (has_long help (name_and_value (z ∷ zs)).0) (has_long version (name_and_value (z ∷ zs)).0) (name_and_value (z ∷ zs)).1 _ _ _
    (λ b n. inl (whole_name (codes "help") (z ∷ zs) (or_nothing _ b) n))
    (λ b n. (refl, inl (whole_name (codes "version") (z ∷ zs) (or_nothing _ b) n)))

-- a short flag is one of the two, or is refused
short_case : (c : List Rule) (again b1 b2 : Bool) (rest : Text) (next : Held → Kinds) (A B T : Type 0) → (b1 ≡ true → A) → (b2 ≡ true → B)
    → ((A × (short_fault c again (found b1 b2) rest nothing_held next ≡ DisplayHelp ∷ []))
    ⊎ (B × (short_fault c again (found b1 b2) rest nothing_held next ≡ DisplayVersion ∷ [])))
    ⊎ (OnlyRefuses (short_fault c again (found b1 b2) rest nothing_held next) ⊎ T)
short_case c again false false rest next A B T a b = inr (inl no_unknown)
short_case c again true b2 rest next A B T a b = inl (inl (a refl, refl))
short_case c again false true rest next A B T a b = inl (inr (b refl, refl))

-- the first character of a short flag
abbrev Begins : ℕ → Text → Type 0
Begins x text = slice_get (chars text) 0 ≡ Some x

same_char : (a x : ℕ) → (a == x) ≡ true → ◌≡◌ {A = Option ℕ} (Some x) (Some a)
same_char a x e = ap (λ y. Some y) (sym (eqb-true a x e))

-- of a bundle of flags the first decides
bundle_of : (v again : Bool) (k : ℕ) (text : Text) (o : Option ℕ) → slice_get (chars text) 0 ≡ o
    → ((Begins 104 text × (flags_fault (flags v) again k text 0 nothing_held ≡ DisplayHelp ∷ []))
    ⊎ (((v ≡ true) × Begins 86 text) × (flags_fault (flags v) again k text 0 nothing_held ≡ DisplayVersion ∷ [])))
    ⊎ (OnlyRefuses (flags_fault (flags v) again k text 0 nothing_held)
    ⊎ ((flags_fault (flags v) again k text 0 nothing_held ≡ []) × (bundle_met (flags v) k text 0 plain nothing_held ≡ (nothing_held, plain))))
unfolding flags_fault bundle_met
bundle_of v again zero text o first = inr (inr (refl, refl))
bundle_of v again (suc k) text None first = inr (inr (rw first refl, rw first refl))
bundle_of false again (suc k) text (Some x) first =
    rw first (short_case (flags false) again (has_short help x) false _ _ _ _ _ (λ b. same_char 104 x (or_nothing _ b)) (λ b. cc))
bundle_of true again (suc k) text (Some x) first =
    rw first (short_case (flags true) again (has_short help x) (has_short version x) _ _ _ _ _
    (λ b. same_char 104 x (or_nothing _ b)) (λ b. (refl, same_char 86 x (or_nothing _ b))))

-- a word that is no flag
no_flag : (v again : Bool) (word : Text) → long_of word ≡ None → short_of word ≡ None → IsFlagged v again word
no_flag v again word long short = rw (long, short) (inr (inr (refl, refl)))

short_word : (v again : Bool) (word text : Text) → word ≡ 45 ∷ text → long_of word ≡ None → short_of word ≡ Some text → IsFlagged v again word
short_word v again word text is long short = rw (long, short) (elim (bundle_of v again (length text) text _ refl) [
  | inl (inl p) ↦ inl (inl (inr (text, is, p.0), p.1))
  | inl (inr p) ↦ inl (inr ((p.0.0, inr (text, is, p.0.1)), p.1))
  | inr (inl r) ↦ inr (inl r)
  | inr (inr q) ↦ inr (inr (q.0, ap (λ (m : Held × Outcome). after_flag (flags v) idle word m.0 m.1) q.1))
])

pub not_long : (x : ℕ) (xs : Text) → (x == 45) ≡ false → long_of (x ∷ xs) ≡ None
not_long x xs other = rw other refl

pub not_short : (x : ℕ) (xs : Text) → (x == 45) ≡ false → short_of (x ∷ xs) ≡ None
not_short x xs other = rw other refl

pub one_hyphen : (y : ℕ) (ys : Text) → (y == 45) ≡ false → long_of (45 ∷ y ∷ ys) ≡ None
one_hyphen y ys other = rw other refl

pub bundle_word : (y : ℕ) (ys : Text) → (y == 45) ≡ false → short_of (45 ∷ y ∷ ys) ≡ Some (y ∷ ys)
bundle_word y ys other = rw other refl

-- a word that begins with a hyphen
hyphen : (v again : Bool) (rest : Text) → IsFlagged v again (45 ∷ rest)
hyphen false again [] = inr (inr (refl, refl))
hyphen true again [] = inr (inr (refl, refl))
hyphen v again (y ∷ ys) = go (y == 45) refl
  where
    go : (b : Bool) → (y == 45) ≡ b → IsFlagged v again (45 ∷ y ∷ ys)
    go true e = subst (λ (x : ℕ). IsFlagged v again (45 ∷ x ∷ ys)) (sym (eqb-true y 45 e)) (double v again ys)
    go false e = short_word v again _ (y ∷ ys) refl (one_hyphen y ys e) (bundle_word y ys e)

-- any word
any_word_of : (v again : Bool) (word : Text) → IsFlagged v again word
any_word_of v again [] = inr (inr (refl, refl))
any_word_of v again (x ∷ xs) = go (x == 45) refl
  where
    go : (b : Bool) → (x == 45) ≡ b → IsFlagged v again (x ∷ xs)
    go true e = subst (λ (y : ℕ). IsFlagged v again (y ∷ xs)) (sym (eqb-true x 45 e)) (hyphen v again xs)
    go false e = no_flag v again _ (not_long x xs e) (not_short x xs e)

-- ---- a flag for help or for the version

tail_of : (xs ys : Text) → 45 ∷ xs ≡ 45 ∷ ys → xs ≡ ys
tail_of xs ys e = ap (λ (t : Text). drop 1 t) e

-- a character that is no hyphen
abbrev IsOther : ℕ → Type 0
IsOther x = ◌≡◌ {A = ℕ} 45 x → ⊥

no_hyphen_first : (x : ℕ) (rest : Text) → IsOther x → Begins x (45 ∷ rest) → ⊥
unfolding chars
no_hyphen_first x [] other first = other (ap (λ (o : Option ℕ). unwrap_or o 45) first)
no_hyphen_first x (y ∷ ys) other first = other (ap (λ (o : Option ℕ). unwrap_or o 45) first)

-- a short flag whose first character finds the argument `a`, the use of which is an error
bundle_fault_of : (c : List Rule) (again : Bool) (a : Rule) (kinds : Kinds) (char : ℕ) → IsOther char → arg_by_short c char ≡ Some a
    → ((rest : Text) (next : Held → Kinds) → short_fault c again (Some a) rest nothing_held next ≡ kinds)
    → (text : Text) → Begins char text → flag_word_fault c again (long_of (45 ∷ text)) (45 ∷ text) nothing_held ≡ kinds
unfolding chars flags_fault
bundle_fault_of c again a kinds char other short uses [] first = cc
bundle_fault_of c again a kinds char other short uses (y ∷ ys) first = go (y == 45) refl
  where
    past : ℕ → Text
    past x = drop (length (encode_utf8 x)) (y ∷ ys)

    go : (b : Bool) → (y == 45) ≡ b → flag_word_fault c again (long_of (45 ∷ y ∷ ys)) (45 ∷ y ∷ ys) nothing_held ≡ kinds
    go true e = absurd (no_hyphen_first char ys other (subst (λ (x : ℕ). Begins char (x ∷ ys)) (eqb-true y 45 e) first))
    go false e = rw (one_hyphen y ys e, bundle_word y ys e, first, short) (uses (past char) (flags_fault c again (length ys) (past char) 0))

-- the level's rules have the flag for help
abbrev pub FindsHelp : List Rule → Type 0
FindsHelp c = (arg_by_long c (codes "help") ≡ Some help) × (arg_by_short c 104 ≡ Some help)

help_word_fault : (c : List Rule) (again : Bool) (word : Text) → FindsHelp c → IsHelpFlag word
    → flag_word_fault c again (long_of word) word nothing_held ≡ DisplayHelp ∷ []
help_word_fault c again word finds is = elim is [
  | inl e ↦ rw (e, finds.0) refl
  | inr p ↦ rw p.1 (bundle_fault_of c again help (DisplayHelp ∷ []) 104 (λ e. omega arith) finds.1 (λ rest next. refl) p.0 p.2)
]

version_word_fault : (again : Bool) (word : Text) → IsVersionFlag word
    → flag_word_fault (flags true) again (long_of word) word nothing_held ≡ DisplayVersion ∷ []
version_word_fault again word is = elim is [
  | inl e ↦ rw e refl
  | inr p ↦ rw p.1 (bundle_fault_of (flags true) again version (DisplayVersion ∷ []) 86 (λ e. omega arith) refl (λ rest next. refl) p.0 p.2)
]

short_is_no_dash : (char : ℕ) (word : Text) → IsOther char → IsShortFlag char word → bytes_eq word (codes "--") ≡ false
short_is_no_dash char word other p = rw p.1 (false_from_ne_true _ (λ same.
    let is = tail_of p.0 (45 ∷ []) ((bytes_eq-Decides _ _).0 same) in
    no_hyphen_first char [] other (subst (λ (t : Text). Begins char t) is p.2)))

pub help_is_no_dash : (word : Text) → IsHelpFlag word → bytes_eq word (codes "--") ≡ false
help_is_no_dash word is = elim is [ inl e ↦ rw e refl | inr p ↦ short_is_no_dash 104 word (λ e. omega arith) p ]

pub version_is_no_dash : (word : Text) → IsVersionFlag word → bytes_eq word (codes "--") ≡ false
version_is_no_dash word is = elim is [ inl e ↦ rw e refl | inr p ↦ short_is_no_dash 86 word (λ e. omega arith) p ]

pub help_has_hyphen : (word : Text) → IsHelpFlag word → (rest : Text) × (word ≡ 45 ∷ rest)
help_has_hyphen word is = elim is [ inl e ↦ (codes "-help", e) | inr p ↦ (p.0, p.1) ]

pub version_has_hyphen : (word : Text) → IsVersionFlag word → (rest : Text) × (word ≡ 45 ∷ rest)
version_has_hyphen word is = elim is [ inl e ↦ (codes "-version", e) | inr p ↦ (p.0, p.1) ]

-- ---- the first word of a level

pub refused_first : (a b : Kinds) → OnlyRefuses a → OnlyRefuses (or_else a b)
refused_first [] b r = absurd r
refused_first (k ∷ ks) b r = r

no_two : (k : ErrorKind) → (k ≡ UnknownArgument → ⊥) → (k ≡ InvalidSubcommand → ⊥) → IsAmong k (UnknownArgument ∷ InvalidSubcommand ∷ []) → ⊥
no_two k a b among = elim among [ inl e ↦ a e | inr (inl e) ↦ b e | inr (inr none) ↦ none ]

pub stray : (is_leaf : Bool) → OnlyRefuses (if is_leaf then UnknownArgument ∷ [] else UnknownArgument ∷ InvalidSubcommand ∷ [])
stray true = no_unknown
stray false = (no_two DisplayHelp (λ e. cc) (λ e. cc), no_two DisplayVersion (λ e. cc) (λ e. cc))

-- the word is no subcommand and not `--`: its error, and then that of its step
pub turn_is : (b : Shape) (names : Names) (word : Text) → subcommand_met names idle word ≡ None → bytes_eq word (codes "--") ≡ false
    → turn_fault b names (walk_from nothing_held) word ≡ or_else (flag_word_fault b.rules b.args_override_self (long_of word) word nothing_held)
    (step_fault b 1 (long_or_other b.rules idle word (long_of word) nothing_held).0 (long_or_other b.rules idle word (long_of word) nothing_held).1)
turn_is b names word none dash = rw (none, dash) refl

-- a level's first word that is a flag for help
pub first_help_flag : (b : Shape) (names : Names) (word : Text) → FindsHelp b.rules → subcommand_met names idle word ≡ None → IsHelpFlag word
    → turn_fault b names (walk_from nothing_held) word ≡ DisplayHelp ∷ []
first_help_flag b names word finds none is =
    rw (turn_is b names word none (help_is_no_dash word is), help_word_fault b.rules b.args_override_self word finds is) refl

module _ (v : Bool) (b : Shape) (names : Names) (word : Text) where
  -- a level with no argument of its own
  abbrev level : Shape
  level = record b { rules = flags v }

  stray_first : OnlyRefuses (step_fault level 1 nothing_held value)
  stray_first = elim v as (λ (u : Bool). OnlyRefuses (step_fault (record b { rules = flags u }) 1 nothing_held value)) [
    | true ↦ stray b.is_leaf
    | false ↦ stray b.is_leaf
  ]

  -- its first word that is no subcommand and not `--` asks for help or the version, or is refused
  pub first_word : subcommand_met names idle word ≡ None → bytes_eq word (codes "--") ≡ false
      → AsksBy v word (turn_fault level names (walk_from nothing_held) word) ⊎ OnlyRefuses (turn_fault level names (walk_from nothing_held) word)
  first_word none dash = rw (turn_is level names word none dash) (elim (any_word_of v b.args_override_self word) [
    | inl (inl p) ↦ inl (inl (p.0, rw p.1 refl))
    | inl (inr p) ↦ inl (inr (p.0, rw p.1 refl))
    | inr (inl r) ↦ inr (refused_first _ _ r)
    | inr (inr q) ↦ inr (rw (q.0, q.1) stray_first)
  ])

-- a level's first word that is a flag for the version
pub first_version_flag : (b : Shape) (names : Names) (word : Text) → subcommand_met names idle word ≡ None → IsVersionFlag word
    → turn_fault (level true b names word) names (walk_from nothing_held) word ≡ DisplayVersion ∷ []
first_version_flag b names word none is =
    rw (turn_is (level true b names word) names word none (version_is_no_dash word is), version_word_fault b.args_override_self word is) refl
