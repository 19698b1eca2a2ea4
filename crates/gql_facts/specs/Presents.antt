-- The world that is present: the answers of the tables of a schema and of document files.
use Rattle.std.specs.Prelude.{◌≡◌, ◌≢◌, ◌&&◌, ℕ, List, ◌++◌, map, bytes_eq, codes, Bool, true, false, refl, Option, Some, None, Contains, option_and_then, if◌then◌else◌}
use Rattle.std.proofs.Common.{sym, subst}
use Rattle.std.proofs.lemmas.Slice.Eq.{bytes_eq-Decides}
use Rattle.std.proofs.lemmas.List.Elements.{Contains-append_left, Contains-append_right}
use Rattle.gql_facts.specs.declared.fact.Fact.{Fact}
use Rattle.gql_facts.specs.declared.fact.Fact.TheVariants as fact
use Rattle.gql_facts.specs.declared.fact.FieldFact.{FieldFact}
use Rattle.gql_facts.specs.declared.fact.FragmentFact.{FragmentFact}
use Rattle.gql_facts.specs.declared.key.Key.{Key}
use Rattle.gql_facts.specs.declared.key.Key.TheVariants as key
use Rattle.gql_facts.specs.declared.meta_fields.MetaFields.{MetaFields}
use Rattle.gql_facts.specs.declared.present.Present.{Present}
use Rattle.gql_facts.specs.declared.schema_facts.SchemaFacts.{SchemaFacts}
use Rattle.gql_facts.specs.declared.schema_facts.TypeEntry.{TypeEntry}
use Rattle.gql_facts.specs.declared.schema_facts.FieldEntry.{FieldEntry}
use Rattle.gql_facts.specs.declared.schema_facts.DirectiveEntry.{DirectiveEntry}
use Rattle.gql_facts.specs.declared.schema_facts.RootEntry.{RootEntry}
use Rattle.gql_facts.specs.Facts.{answer, fact_if, field_by}
use Rattle.gql_facts.specs.ListMembers.{found_in, Contains-map}
use Rattle.gql_facts.specs.Tables.{kept_fact, type_in, field_in, is_composite_in, is_query_root_in, directive_in, root_in, fragment_in}
use Rattle.gql_facts.specs.Worlds.{Facts, IsWorld, Answers}

-- ---- the answers are a world

-- an answer is of the kind of its key, or absent
answered : {A : Type 0} (k : Key) (f : A → Fact) → ((x : A) → Answers k (f x)) → (o : Option A)
    → Answers k (answer f o)
answered k f each None = tt
answered k f each (Some x) = each x

-- if both facts answer a key for a field, so does either of them
either : (t n : List ℕ) (b : Bool) (x y : Fact) → Answers (key.FieldOf t n) x
    → Answers (key.FieldOf t n) y → Answers (key.FieldOf t n) (if b then x else y)
either t n true x y p q = p
either t n false x y p q = q

under : (t n : List ℕ) (b : Bool) (f : FieldFact) → Answers (key.FieldOf t n)
    (fact_if b (fact.Field f))
under t n b f = either t n b (fact.Field f) fact.Absent tt tt

field_answered : (m : MetaFields) (t n : List ℕ) (composite root : Bool) (own : Fact)
    → Answers (key.FieldOf t n) own
    → Answers (key.FieldOf t n) (field_by m n composite root own)
field_answered m t n composite root own p =
    either t n (bytes_eq n (codes "__typename"))
    (fact_if composite (fact.Field m.typename))
    (if bytes_eq n (codes "__schema") && root then fact.Field m.schema
    else if bytes_eq n (codes "__type") && root then fact.Field m.of_type
    else own)
    (under t n composite m.typename)
    (either t n (bytes_eq n (codes "__schema") && root)
    (fact.Field m.schema)
    (if bytes_eq n (codes "__type") && root then fact.Field m.of_type else own)
    tt
    (either t n (bytes_eq n (codes "__type") && root) (fact.Field m.of_type) own tt p))

kinds : (s : SchemaFacts) (fs : List FragmentFact) (k : Key) → Answers k (kept_fact s fs k)
kinds s fs (key.KindOf t) =
    answered (key.KindOf t) (λ (e : TypeEntry). fact.Kind e.kind) (λ x. tt) (type_in s t)
kinds s fs (key.FieldOf t n) =
    field_answered s.meta t n (is_composite_in s t) (is_query_root_in s t)
    (answer (λ (e : FieldEntry). fact.Field e.fact) (field_in s t n))
    (answered (key.FieldOf t n) (λ (e : FieldEntry). fact.Field e.fact) (λ x. tt) (field_in s t n))
kinds s fs (key.PossibleOf t) =
    answered (key.PossibleOf t) fact.Possible (λ x. tt)
    (option_and_then (λ (e : TypeEntry). e.possible) (type_in s t))
kinds s fs (key.InputOf t) =
    answered (key.InputOf t) fact.Input (λ x. tt)
    (option_and_then (λ (e : TypeEntry). e.inputs) (type_in s t))
kinds s fs (key.EnumOf t) =
    answered (key.EnumOf t) fact.Enum (λ x. tt)
    (option_and_then (λ (e : TypeEntry). e.values) (type_in s t))
kinds s fs (key.DirectiveOf n) =
    answered (key.DirectiveOf n) (λ (d : DirectiveEntry). fact.Directive d.fact) (λ x. tt)
    (directive_in s n)
kinds s fs (key.RootOf k) =
    answered (key.RootOf k) (λ (r : RootEntry). fact.Root r.name) (λ x. tt) (root_in s k)
kinds s fs (key.FragmentOf n) =
    answered (key.FragmentOf n) fact.Fragment (λ x. tt) (fragment_in fs n)

-- an answer that is not absent was found
is_there : {A : Type 0} (f : A → Fact) (o : Option A) → answer f o ≢ fact.Absent
    → (x : A) × (o ≡ Some x)
is_there f None no' = absurd (no' refl)
is_there f (Some x) no' = (x, refl)

which_fragment : (o : Option FragmentFact) (f : FragmentFact)
    → answer fact.Fragment o ≡ fact.Fragment f → o ≡ Some f
which_fragment None f e = cc e
which_fragment (Some x) f e = cc e

-- if what follows from a value is there, so is the value
first_of : {A B : Type 0} (g : A → Option B) (o : Option A) (y : B) → option_and_then g o ≡ Some y
    → (x : A) × (o ≡ Some x)
first_of g None y e = absurd (cc e)
first_of g (Some x) y e = (x, refl)

kept_is_world : (s : SchemaFacts) (fs : List FragmentFact)
    → IsWorld (kept_fact s fs)
    (map (λ (f : FragmentFact). f.fragment.name.text) fs ++ map (λ (t : TypeEntry). t.name) s.types)
kept_is_world s fs = record {
  kinds = kinds s fs;
  named = λ n f e.
      let r = found_in (λ (g : FragmentFact). bytes_eq n g.fragment.name.text) fs f
      (which_fragment _ f e) in
      sym ((bytes_eq-Decides n f.fragment.name.text).0 r.1);
  fragments = λ n there.
      let x = is_there fact.Fragment (fragment_in fs n) there in
      let r = found_in (λ (g : FragmentFact). bytes_eq n g.fragment.name.text) fs x.0 x.1 in
      Contains-append_left _ _ n
      (subst (λ m. Contains (map (λ (g : FragmentFact). g.fragment.name.text) fs) m)
      (sym ((bytes_eq-Decides n x.0.fragment.name.text).0 r.1))
      (Contains-map (λ (g : FragmentFact). g.fragment.name.text) fs x.0 r.0));
  inputs = λ n there.
      let x = is_there fact.Input
      (option_and_then (λ (e : TypeEntry). e.inputs) (type_in s n)) there in
      let t = first_of (λ (e : TypeEntry). e.inputs) (type_in s n) x.0 x.1 in
      let r = found_in (λ (e : TypeEntry). bytes_eq n e.name) s.types t.0 t.1 in
      Contains-append_right (map (λ (f : FragmentFact). f.fragment.name.text) fs)
      (map (λ (e : TypeEntry). e.name) s.types) n
      (subst (λ m. Contains (map (λ (e : TypeEntry). e.name) s.types) m)
      (sym ((bytes_eq-Decides n t.0.name).0 r.1))
      (Contains-map (λ (e : TypeEntry). e.name) s.types t.0 r.0));
}

-- ---- a present world

-- the facts of a present world
abbrev pub facts_of_present : Present → Facts
facts_of_present p = kept_fact p.schema.now p.fragments.now.all

-- the names of all fragments and types of a present world
abbrev pub names_of_present : Present → List (List ℕ)
names_of_present p =
    map (λ (f : FragmentFact). f.fragment.name.text) p.fragments.now.all
    ++ map (λ (t : TypeEntry). t.name) p.schema.now.types

pub present_is_world : (p : Present) → IsWorld (facts_of_present p) (names_of_present p)
present_is_world p = kept_is_world p.schema.now p.fragments.now.all
