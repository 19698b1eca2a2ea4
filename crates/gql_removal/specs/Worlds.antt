-- The facts from which a part is removed are those of a world, too.
use Rattle.std.specs.Prelude.{◌≡◌, ◌≢◌, ℕ, List, Bool, true, false, refl, bytes_eq, if◌then◌else◌}
use Rattle.std.proofs.Common.{◌∙◌, ap}
use Rattle.gql_facts.specs.declared.fact.DirectiveFact.{DirectiveFact}
use Rattle.gql_facts.specs.declared.fact.Fact.{Fact}
use Rattle.gql_facts.specs.declared.fact.Fact.TheVariants as fact
use Rattle.gql_facts.specs.declared.fact.FieldFact.{FieldFact}
use Rattle.gql_facts.specs.declared.fact.FragmentFact.{FragmentFact}
use Rattle.gql_facts.specs.declared.fact.InputFact.{InputFact}
use Rattle.gql_facts.specs.declared.key.Key.{Key}
use Rattle.gql_facts.specs.declared.key.Key.TheVariants as key
use Rattle.gql_facts.specs.Worlds.{Facts, IsWorld, Answers}
use Rattle.gql_removal.specs.Removals.{left, without, without_type, without_input, without_value, is_about, is_field_of, is_input_of, is_enum_of, is_directive, field_with, inputs_of_others}
use Rattle.gql_facts.specs.Presents.{facts_of_present, names_of_present, present_is_world}
use Rattle.gql_removal.specs.declared.removal.Removal.{Removal}
use Rattle.gql_removal.specs.declared.without.Without.{Without}
use Rattle.gql_removal.specs.declared.removal.Removal.TheVariants as removal

-- ---- what is left answers the same keys

-- either of two answers to a key is one
either : (k : Key) (b : Bool) (x y : Fact) → Answers k x → Answers k y
    → Answers k (if b then x else y)
either k true x y p q = p
either k false x y p q = q

-- nothing is an answer to each key
nothing : (k : Key) → Answers k fact.Absent
nothing k = tt

-- a fact of the same kind answers the same keys
as_field : (k : Key) (f g : FieldFact) → Answers k (fact.Field f) → Answers k (fact.Field g)
as_field (key.KindOf t) f g p = p
as_field (key.FieldOf t n) f g p = p
as_field (key.PossibleOf t) f g p = p
as_field (key.InputOf t) f g p = p
as_field (key.EnumOf t) f g p = p
as_field (key.DirectiveOf n) f g p = p
as_field (key.RootOf r) f g p = p
as_field (key.FragmentOf n) f g p = p

as_directive : (k : Key) (f g : DirectiveFact) → Answers k (fact.Directive f)
    → Answers k (fact.Directive g)
as_directive (key.KindOf t) f g p = p
as_directive (key.FieldOf t n) f g p = p
as_directive (key.PossibleOf t) f g p = p
as_directive (key.InputOf t) f g p = p
as_directive (key.EnumOf t) f g p = p
as_directive (key.DirectiveOf n) f g p = p
as_directive (key.RootOf r) f g p = p
as_directive (key.FragmentOf n) f g p = p

as_possible : (k : Key) (f g : List (List ℕ)) → Answers k (fact.Possible f)
    → Answers k (fact.Possible g)
as_possible (key.KindOf t) f g p = p
as_possible (key.FieldOf t n) f g p = p
as_possible (key.PossibleOf t) f g p = p
as_possible (key.InputOf t) f g p = p
as_possible (key.EnumOf t) f g p = p
as_possible (key.DirectiveOf n) f g p = p
as_possible (key.RootOf r) f g p = p
as_possible (key.FragmentOf n) f g p = p

as_enum : (k : Key) (f g : List (List ℕ)) → Answers k (fact.Enum f) → Answers k (fact.Enum g)
as_enum (key.KindOf t) f g p = p
as_enum (key.FieldOf t n) f g p = p
as_enum (key.PossibleOf t) f g p = p
as_enum (key.InputOf t) f g p = p
as_enum (key.EnumOf t) f g p = p
as_enum (key.DirectiveOf n) f g p = p
as_enum (key.RootOf r) f g p = p
as_enum (key.FragmentOf n) f g p = p

as_input : (k : Key) (f g : List InputFact) → Answers k (fact.Input f) → Answers k (fact.Input g)
as_input (key.KindOf t) f g p = p
as_input (key.FieldOf t n) f g p = p
as_input (key.PossibleOf t) f g p = p
as_input (key.InputOf t) f g p = p
as_input (key.EnumOf t) f g p = p
as_input (key.DirectiveOf n) f g p = p
as_input (key.RootOf r) f g p = p
as_input (key.FragmentOf n) f g p = p

answers_type : (k : Key) (t : List ℕ) (f : Fact) → Answers k f → Answers k (without_type t f)
answers_type k t (fact.Field f) p =
    either k (bytes_eq t f.of_type.name) fact.Absent
    (fact.Field (field_with f (inputs_of_others t f.arguments))) (nothing k) (as_field k f _ p)
answers_type k t (fact.Possible names) p = as_possible k names _ p
answers_type k t (fact.Input fields) p = as_input k fields _ p
answers_type k t (fact.Directive d) p = as_directive k d _ p
answers_type k t (fact.Root n) p =
    either k (bytes_eq t n) fact.Absent (fact.Root n) (nothing k) p
answers_type k t fact.Absent p = p
answers_type k t (fact.Kind kind) p = p
answers_type k t (fact.Enum values) p = p
answers_type k t (fact.Fragment f) p = p

answers_input : (k : Key) (n : List ℕ) (f : Fact) → Answers k f → Answers k (without_input n f)
answers_input k n (fact.Field f) p = as_field k f _ p
answers_input k n (fact.Possible names) p = p
answers_input k n (fact.Input fields) p = as_input k fields _ p
answers_input k n (fact.Directive d) p = as_directive k d _ p
answers_input k n (fact.Root m) p = p
answers_input k n fact.Absent p = p
answers_input k n (fact.Kind kind) p = p
answers_input k n (fact.Enum values) p = p
answers_input k n (fact.Fragment f) p = p

answers_value : (k : Key) (n : List ℕ) (f : Fact) → Answers k f → Answers k (without_value n f)
answers_value k n (fact.Field f) p = p
answers_value k n (fact.Possible names) p = p
answers_value k n (fact.Input fields) p = p
answers_value k n (fact.Directive d) p = p
answers_value k n (fact.Root m) p = p
answers_value k n fact.Absent p = p
answers_value k n (fact.Kind kind) p = p
answers_value k n (fact.Enum values) p = as_enum k values _ p
answers_value k n (fact.Fragment f) p = p

kinds : (r : Removal) (k : Key) (f : Fact) → Answers k f → Answers k (left r k f)
kinds (removal.«Type» t) k f p =
    either k (is_about t k) fact.Absent (without_type t f) (nothing k) (answers_type k t f p)
kinds (removal.Field types name) k f p =
    either k (is_field_of types name k) fact.Absent f (nothing k) p
kinds (removal.Argument types field name) k f p =
    either k (is_field_of types field k) (without_input name f) f
    (answers_input k name f p) p
kinds (removal.InputField t name) k f p =
    either k (is_input_of t k) (without_input name f) f (answers_input k name f p) p
kinds (removal.EnumValue t name) k f p =
    either k (is_enum_of t k) (without_value name f) f (answers_value k name f p) p
kinds (removal.Directive d) k f p = either k (is_directive d k) fact.Absent f (nothing k) p
kinds (removal.DirectiveArgument d name) k f p =
    either k (is_directive d k) (without_input name f) f (answers_input k name f p) p

-- ---- fragments stay, and nothing comes

-- a fragment that is left was there
fragment_left : (t : List ℕ) (x : Fact) (f : FragmentFact) → without_type t x ≡ fact.Fragment f
    → x ≡ fact.Fragment f
fragment_left t (fact.Field g) f e = by (bytes_eq t g.of_type.name) e
  where
    by : (b : Bool)
        → (if b then fact.Absent
        else fact.Field (field_with g (inputs_of_others t g.arguments))) ≡ fact.Fragment f
        → fact.Field g ≡ fact.Fragment f
    by true e = absurd (cc e)
    by false e = absurd (cc e)
fragment_left t (fact.Possible names) f e = absurd (cc e)
fragment_left t (fact.Input fields) f e = absurd (cc e)
fragment_left t (fact.Directive d) f e = absurd (cc e)
fragment_left t (fact.Root n) f e = by (bytes_eq t n) e
  where
    by : (b : Bool) → (if b then fact.Absent else fact.Root n) ≡ fact.Fragment f
        → fact.Root n ≡ fact.Fragment f
    by true e = absurd (cc e)
    by false e = absurd (cc e)
fragment_left t fact.Absent f e = e
fragment_left t (fact.Kind k) f e = e
fragment_left t (fact.Enum values) f e = e
fragment_left t (fact.Fragment g) f e = e

was_there : (r : Removal) (n : List ℕ) (x : Fact) (f : FragmentFact)
    → left r (key.FragmentOf n) x ≡ fact.Fragment f → x ≡ fact.Fragment f
was_there (removal.«Type» t) n x f e = fragment_left t x f e
was_there (removal.Field types name) n x f e = e
was_there (removal.Argument types field name) n x f e = e
was_there (removal.InputField t name) n x f e = e
was_there (removal.EnumValue t name) n x f e = e
was_there (removal.Directive d) n x f e = e
was_there (removal.DirectiveArgument d name) n x f e = e

same : (b : Bool) (x : Fact) → (if b then x else x) ≡ x
same true x = refl
same false x = refl

-- of nothing, nothing is left
nothing_left : (r : Removal) (k : Key) → left r k fact.Absent ≡ fact.Absent
nothing_left (removal.«Type» t) k = same (is_about t k) fact.Absent
nothing_left (removal.Field types name) k = same (is_field_of types name k) fact.Absent
nothing_left (removal.Argument types field name) k =
    same (is_field_of types field k) fact.Absent
nothing_left (removal.InputField t name) k = same (is_input_of t k) fact.Absent
nothing_left (removal.EnumValue t name) k = same (is_enum_of t k) fact.Absent
nothing_left (removal.Directive d) k = same (is_directive d k) fact.Absent
nothing_left (removal.DirectiveArgument d name) k = same (is_directive d k) fact.Absent

-- what is there once a part is removed was there before
still : (r : Removal) (facts : Facts) (k : Key) → without r facts k ≢ fact.Absent
    → facts k ≢ fact.Absent
still r facts k there gone = there (ap (left r k) gone ∙ nothing_left r k)

-- the facts of a world from which a part is removed are those of a world
is_world_without : (r : Removal) (facts : Facts) (names : List (List ℕ)) → IsWorld facts names
    → IsWorld (without r facts) names
is_world_without r facts names w = record {
  kinds = λ k. kinds r k (facts k) (w.kinds k);
  named = λ n f e. w.named n f (was_there r n (facts (key.FragmentOf n)) f e);
  fragments = λ n there. w.fragments n (still r facts (key.FragmentOf n) there);
  inputs = λ n there. w.inputs n (still r facts (key.InputOf n) there);
}

-- ---- the world without a part

-- its facts
abbrev pub facts_of_without : Without → Facts
facts_of_without w = without w.removal.now (facts_of_present w.present)

-- the names of all fragments and types of the world before
abbrev pub names_of_without : Without → List (List ℕ)
names_of_without w = names_of_present w.present

pub without_is_world : (w : Without) → IsWorld (facts_of_without w) (names_of_without w)
without_is_world w = is_world_without w.removal.now (facts_of_present w.present)
    (names_of_present w.present) (present_is_world w.present)
