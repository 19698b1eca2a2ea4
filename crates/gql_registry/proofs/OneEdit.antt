-- An edit has one answer, and leaves one state.
use Rattle.std.proofs.Common.{◌≡◌, ◌≢◌, ◌<◌, ◌≤◌, ◌+◌, ℕ, zero, suc, List, [], ◌∷◌, length, take, Ok, Err, Option, Some, refl, sym, ap, ap₂, subst, ◌∙◌, arith}
use Rattle.std.specs.Prelude.{slice_get}
use Rattle.gql_text.specs.Lexis.{longest_text}
use Rattle.gql_text.specs.declared.place.Place.{Place}
use Rattle.gql_grammar.specs.declared.fault.SyntaxRefusal.{SyntaxRefusal}
use Rattle.gql_grammar.specs.declared.fault.SyntaxFault.{SyntaxFault}
use Rattle.gql_grammar.specs.declared.fault.SyntaxFault.TheVariants.{At}
use Rattle.gql_ast.specs.declared.definition.Document.{Document}
use Rattle.gql_ast.specs.declared.fault.FileSide.{FileSide}
use Rattle.gql_ast.specs.declared.fault.FileSide.TheVariants.{Schema, Documents}
use Rattle.gql_parse_sdl.specs.SchemaFiles.{IsSchemaFile, IsSchemaFault}
use Rattle.gql_parse_sdl.specs.DocumentFiles.{IsDocumentFile, IsDocumentFault}
use Rattle.gql_registry.specs.Edits.{Change, Edit, put, remove, put_data, set_data, Stops, stale, spent, Fails, too_long, not_text, data_not_text, bad_data, bad_value, syntax, no_file, files_full, rank, IsFirstStop, IsInTime, IsFirstRefusal, IsAccepted, Leaves, MakesAll, done, step, Accepts, IsRefusedAt, IsRefused, stopped, at_change, memory, Reports}
use Rattle.gql_registry.specs.Laws.{OneReport, OneEdit, OneLoad}
use Rattle.gql_registry.specs.Sides.{IsFileOn, IsFaultOn, with_put}
use Rattle.gql_registry.specs.State.{State, at_revision, last_revision, with_data, with_files}
use Rattle.gql_registry.specs.declared.change.EditRefusal.{EditRefusal}
use Rattle.gql_registry.specs.declared.refusal.Refusal.{Refusal}
use Rattle.gql_registry.specs.declared.refusal.Refusal.TheVariants as refusal
use Rattle.gql_registry.specs.declared.registry.Edited.{Edited}
use Rattle.serde_json.specs.Data.{Data}

-- what the laws of the parsers say of every text
pub record OneReading : Type 0 where
  pub document : (side : FileSide) (name bytes : List ℕ) (a b : Document) → IsFileOn side name bytes a → IsFileOn side name bytes b → a ≡ b
  pub fault : (side : FileSide) (name bytes : List ℕ) (f g : SyntaxFault) → IsFaultOn side name bytes f → IsFaultOn side name bytes g → f ≡ g

-- from the laws of each parser
pub one_reading : ((limit : ℕ) (name bytes : List ℕ) (a b : Document) → IsSchemaFile limit name bytes a → IsSchemaFile limit name bytes b → a ≡ b)
    → ((limit : ℕ) (name bytes : List ℕ) (f g : SyntaxFault) → IsSchemaFault limit name bytes f → IsSchemaFault limit name bytes g → f ≡ g)
    → ((limit : ℕ) (name bytes : List ℕ) (a b : Document) → IsDocumentFile limit name bytes a → IsDocumentFile limit name bytes b → a ≡ b)
    → ((limit : ℕ) (name bytes : List ℕ) (f g : SyntaxFault) → IsDocumentFault limit name bytes f → IsDocumentFault limit name bytes g → f ≡ g)
    → OneReading
one_reading schema_tree schema_fault document_tree document_fault = record { document = trees; fault = faults }
  where
    trees : (side : FileSide) (name bytes : List ℕ) (a b : Document) → IsFileOn side name bytes a → IsFileOn side name bytes b → a ≡ b
    trees Schema = schema_tree longest_text
    trees Documents = document_tree longest_text

    faults : (side : FileSide) (name bytes : List ℕ) (f g : SyntaxFault) → IsFaultOn side name bytes f → IsFaultOn side name bytes g → f ≡ g
    faults Schema = schema_fault longest_text
    faults Documents = document_fault longest_text

same_syntax : (m n : SyntaxRefusal) (p q : Place) → At m p ≡ At n q → refusal.Syntax m p ≡ refusal.Syntax n q
same_syntax m n p q e =
    let numbers : m ≡ n = cc in
    let places : p ≡ q = cc in
    ap₂ (λ a b. refusal.Syntax a b) numbers places

some_same : (d e : Data) → Some d ≡ Some e → d ≡ e
some_same d e same = cc same

-- two stops that are tested at the same time are one
same_stop : (s : State) (expected : Option ℕ) (r q : Refusal) → Stops s expected r → Stops s expected q → rank r ≡ rank q → r ≡ q
same_stop s _ _ _ (stale apart) (stale other) same = refl
same_stop s _ _ _ (stale apart) (spent is) same = absurd (omega arith)
same_stop s _ _ _ (spent is) (stale apart) same = absurd (omega arith)
same_stop s _ _ _ (spent is) (spent other) same = refl

one_stop : (s : State) (expected : Option ℕ) (r q : Refusal) → IsFirstStop s expected r → IsFirstStop s expected q → r ≡ q
one_stop s expected r q x y =
    let low : rank r ≤ rank q = x.first q y.stops in
    let high : rank q ≤ rank r = y.first r x.stops in
    same_stop s expected r q x.stops y.stops (omega arith)

-- an edit that comes in time is not stopped
pub not_stopped : (s : State) (expected : Option ℕ) (r : Refusal) → IsInTime s expected → Stops s expected r → ⊥
not_stopped s _ _ time (stale apart) = apart time.present
not_stopped s expected _ time (spent is) = let left : s.revision < last_revision = time.left in omega arith

-- ---- changes in turn

some_change : {c d : Change} → Some c ≡ Some d → c ≡ d
some_change same = cc same

pub no_change : (c : Change) (n : ℕ) → slice_get [] n ≡ Some c → ⊥
no_change c n is = cc is

abbrev refused_with : ℕ → Refusal → EditRefusal
refused_with at r = record { at = at; refusal = r }

same_edit_refusal : (m n : ℕ) (r q : Refusal) → m ≡ n → r ≡ q → refused_with m r ≡ refused_with n q
same_edit_refusal m n r q same is = ap₂ (λ k x. refused_with k x) same is

-- the first change is refused in the state before it
pub head_refused : (s : State) (c : Change) (cs : Edit) (r : Refusal) → IsRefusedAt s (c ∷ cs) 0 r → IsFirstRefusal s c r
head_refused s c cs r h = by h.before h.there h.first
  where
    by : {left : State} {change : Change} → MakesAll s [] left → Some c ≡ Some change → IsFirstRefusal left change r → IsFirstRefusal s c r
    by done is first = subst (λ x. IsFirstRefusal s x r) (sym (some_change is)) first

-- the first change is accepted where a later one is refused
head_accepted : (s : State) (c : Change) (cs : Edit) (at : ℕ) (r : Refusal) → IsRefusedAt s (c ∷ cs) (suc at) r → IsAccepted s c
head_accepted s c cs at r h = by h.before
  where
    by : {left : State} → MakesAll s (c ∷ take at cs) left → IsAccepted s c
    by (step accepted leaves rest) = accepted

module _ (one : OneReading) where
  -- checks that are made at the same time give the same refusal
  same_refusal : (s : State) (c : Change) (r q : Refusal) → Fails s c r → Fails s c q → rank r ≡ rank q → r ≡ q
  same_refusal s _ _ _ (too_long long) (too_long other) same = refl
  same_refusal s _ _ _ (too_long long) (not_text bad) same = absurd (omega arith)
  same_refusal s _ _ _ (too_long long) (syntax bad) same = absurd (omega arith)
  same_refusal s _ _ _ (too_long long) (files_full none many) same = absurd (omega arith)
  same_refusal s _ _ _ (not_text bad) (too_long long) same = absurd (omega arith)
  same_refusal s _ _ _ (not_text bad) (not_text other) same = refl
  same_refusal s _ _ _ (not_text bad) (syntax fault) same = absurd (omega arith)
  same_refusal s _ _ _ (not_text bad) (files_full none many) same = absurd (omega arith)
  same_refusal s _ _ _ (syntax bad) (too_long long) same = absurd (omega arith)
  same_refusal s _ _ _ (syntax bad) (not_text other) same = absurd (omega arith)
  same_refusal s _ _ _ (syntax {side = side} {name = name} {bytes = bytes} {number = m} {place = p} bad) (syntax {number = n} {place = q} other) same =
      same_syntax m n p q (one.fault side name bytes (At m p) (At n q) bad other)
  same_refusal s _ _ _ (syntax bad) (files_full none many) same = absurd (omega arith)
  same_refusal s _ _ _ (no_file none) (no_file other) same = refl
  same_refusal s _ _ _ (files_full none many) (too_long long) same = absurd (omega arith)
  same_refusal s _ _ _ (files_full none many) (not_text bad) same = absurd (omega arith)
  same_refusal s _ _ _ (files_full none many) (syntax bad) same = absurd (omega arith)
  same_refusal s _ _ _ (files_full none many) (files_full other so_many) same = refl
  same_refusal s _ _ _ (data_not_text bad) (data_not_text other) same = refl
  same_refusal s _ _ _ (data_not_text bad) (bad_data other) same = absurd (omega arith)
  same_refusal s _ _ _ (bad_data bad) (data_not_text other) same = absurd (omega arith)
  same_refusal s _ _ _ (bad_data bad) (bad_data other) same = refl
  same_refusal s _ _ _ (bad_value bad) (bad_value other) same = refl

  one_first : (s : State) (c : Change) (r q : Refusal) → IsFirstRefusal s c r → IsFirstRefusal s c q → r ≡ q
  one_first s c r q x y =
      let low : rank r ≤ rank q = x.first q y.fails in
      let high : rank q ≤ rank r = y.first r x.fails in
      same_refusal s c r q x.fails y.fails (omega arith)

  pub one_left : (s t u : State) (c : Change) → Leaves s c t → Leaves s c u → t ≡ u
  one_left s t u (put side name bytes) x y = x.2 ∙ ap (λ d. with_files s (with_put side s.files name d)) (one.document side name bytes x.0 y.0 x.1 y.1) ∙ sym y.2
  one_left s t u (remove side name) x y = x ∙ sym y
  one_left s t u (put_data bytes) x y = x.2 ∙ ap (with_data s) (some_same x.0 y.0 (sym x.1.0 ∙ y.1.0)) ∙ sym y.2
  one_left s t u (set_data d) x y = x ∙ sym y

  -- changes in turn leave one state
  pub one_made : OneLoad
  one_made s _ _ [] done done = refl
  one_made s t u (c ∷ cs) (step {t = a} accepted leaves more) (step {t = b} others leave rest) =
      one_made b t u cs (subst (λ x. MakesAll x cs t) (one_left s a b c leaves leave) more) rest

  -- the change at the head is accepted, and one after it is refused
  rest_refused : (s t : State) (c : Change) (cs : Edit) (at : ℕ) (r : Refusal) → Leaves s c t → IsRefusedAt s (c ∷ cs) (suc at) r → IsRefusedAt t cs at r
  rest_refused s t c cs at r leaves h = by h.before
    where
      by : MakesAll s (c ∷ take at cs) h.left → IsRefusedAt t cs at r
      by (step {t = b} others leave rest) =
          record { left = h.left; change = h.change; before = subst (λ x. MakesAll x (take at cs) h.left) (one_left s b t c leave leaves) rest; there = h.there; first = h.first }

  -- changes are not all accepted in turn where one of them is refused
  pub not_both : (s t : State) (e : Edit) (at : ℕ) (r : Refusal) → MakesAll s e t → IsRefusedAt s e at r → ⊥
  not_both s t [] at r made h = no_change h.change at h.there
  not_both s t (c ∷ cs) zero r (step accepted leaves more) h = accepted r (head_refused s c cs r h).fails
  not_both s t (c ∷ cs) (suc at) r (step {t = a} accepted leaves more) h = not_both a t cs at r more (rest_refused s a c cs at r leaves h)

  after_head : (s : State) (c : Change) (before : Edit) (left : State) (m n : ℕ) (r q : Refusal) → MakesAll s (c ∷ before) left → ((t : State) → Leaves s c t → (m ≡ n) × (r ≡ q)) → (suc m ≡ suc n) × (r ≡ q)
  after_head s c before left m n r q (step {t = t} accepted leaves rest) same = (ap suc (same t leaves).0, (same t leaves).1)

  -- only one of them is refused, with one refusal
  one_refused : (s : State) (e : Edit) (m n : ℕ) (r q : Refusal) → IsRefusedAt s e m r → IsRefusedAt s e n q → (m ≡ n) × (r ≡ q)
  one_refused s [] m n r q x y = absurd (no_change x.change m x.there)
  one_refused s (c ∷ cs) zero zero r q x y = (refl, one_first s c r q (head_refused s c cs r x) (head_refused s c cs q y))
  one_refused s (c ∷ cs) zero (suc n) r q x y = absurd (head_accepted s c cs n q y r (head_refused s c cs r x).fails)
  one_refused s (c ∷ cs) (suc m) zero r q x y = absurd (head_accepted s c cs m r x q (head_refused s c cs q y).fails)
  one_refused s (c ∷ cs) (suc m) (suc n) r q x y =
      after_head s c (take m cs) x.left m n r q x.before (λ b leaves. one_refused b cs m n r q (rest_refused s b c cs m r leaves x) (rest_refused s b c cs n q leaves y))

  -- an edit is accepted and leaves one state
  one_accepted : (s t u : State) (expected : Option ℕ) (e : Edit) → Accepts s expected e t → Accepts s expected e u → t ≡ u
  one_accepted s t u expected e x y = x.left ∙ ap (at_revision (s.revision + 1)) (one_made s x.made y.made e x.makes y.makes) ∙ sym y.left

  -- or it is refused, and not both
  not_accepted : (s t : State) (expected : Option ℕ) (e : Edit) (r : EditRefusal) → r.refusal ≢ refusal.Memory → Accepts s expected e t → IsRefused s expected e r → ⊥
  not_accepted s t expected e _ made accepts (stopped stop) = not_stopped s expected _ accepts.in_time stop.stops
  not_accepted s t expected e _ made accepts (at_change {at = at} {r = r} time h) = not_both s accepts.made e at r accepts.makes h
  not_accepted s t expected e _ made accepts memory = made refl

  -- with one refusal
  one_refusal : (s : State) (expected : Option ℕ) (e : Edit) (x y : EditRefusal) → x.refusal ≢ refusal.Memory → y.refusal ≢ refusal.Memory → IsRefused s expected e x → IsRefused s expected e y → x ≡ y
  one_refusal s expected e _ _ made_x made_y (stopped {r = r} stop) (stopped {r = q} other) = same_edit_refusal 0 0 r q refl (one_stop s expected r q stop other)
  one_refusal s expected e _ _ made_x made_y (stopped stop) (at_change time h) = absurd (not_stopped s expected _ time stop.stops)
  one_refusal s expected e _ _ made_x made_y (stopped stop) memory = absurd (made_y refl)
  one_refusal s expected e _ _ made_x made_y (at_change time h) (stopped stop) = absurd (not_stopped s expected _ time stop.stops)
  one_refusal s expected e _ _ made_x made_y (at_change {at = m} {r = r} time h) (at_change {at = n} {r = q} others k) =
      let same = one_refused s e m n r q h k in same_edit_refusal m n r q same.0 same.1
  one_refusal s expected e _ _ made_x made_y (at_change time h) memory = absurd (made_y refl)
  one_refusal s expected e _ _ made_x made_y memory other = absurd (made_x refl)

-- the answer to an accepted edit is one for a state
one_edited : OneReport → (t u : State) (e g : Edited) → t ≡ u → Reports t e → Reports u g → e ≡ g
one_edited reports t u e g same x y =
    let z = subst (λ v. Reports v g) (sym same) y in
    let revision : e.revision ≡ g.revision = x.0 ∙ sym z.0 in
    let faults : e.faults ≡ g.faults = x.1.2 ∙ ap length (reports t.files x.1.0 z.1.0 x.1.1 z.1.1) ∙ sym z.1.2 in
    λ i. record { revision = revision i; faults = faults i }

pub one_edit : OneReading → OneReport → OneEdit
one_edit one reports s t u expected e (Ok x) (Ok y) h k made_h made_k =
    let same = one_accepted one s t u expected e h.0 k.0 in
    (ap Ok (one_edited reports t u x y same h.1 k.1), same)
one_edit one reports s t u expected e (Ok x) (Err q) h k made_h made_k = absurd (not_accepted one s t expected e q made_k h.0 k.0)
one_edit one reports s t u expected e (Err r) (Ok y) h k made_h made_k = absurd (not_accepted one s u expected e r made_h k.0 h.0)
one_edit one reports s t u expected e (Err r) (Err q) h k made_h made_k =
    (ap Err (one_refusal one s expected e r q made_h made_k h.0 k.0), h.1 ∙ sym k.1)

-- a text is a file of a side or has a fault there, and never both
pub apart_on : ((limit : ℕ) (name bytes : List ℕ) (d : Document) (f : SyntaxFault) → IsSchemaFile limit name bytes d → IsSchemaFault limit name bytes f → ⊥)
    → ((limit : ℕ) (name bytes : List ℕ) (d : Document) (f : SyntaxFault) → IsDocumentFile limit name bytes d → IsDocumentFault limit name bytes f → ⊥)
    → (side : FileSide) (name bytes : List ℕ) (d : Document) (f : SyntaxFault) → IsFileOn side name bytes d → IsFaultOn side name bytes f → ⊥
apart_on schema document Schema = schema longest_text
apart_on schema document Documents = document longest_text
