-- The text of a check is that of its JSON.
use Rattle.std.proofs.Common.{◌≡◌, ℕ, List, [], ◌∷◌, ◌++◌, map, codes, refl, sym, ap, ◌∙◌, append_assoc, Bool, true, false, Option, Some, None}
use Rattle.std.specs.Prelude.{decimal}
use Rattle.std.specs.List.{flat_map}
use Rattle.json.specs.Print.{quoted}
use Rattle.serde_json.specs.Data.{Data, boolean, number, unsigned, string, Members, no_members, member}
use Rattle.serde_json.specs.Written.{compact_text, items_text, members_text}
use Rattle.serde_json.proofs.OnLiterals.{serde_json_on_literals}
use Rattle.gql_ast.specs.Rules.{name_of}
use Rattle.gql_findings.specs.Marks.{label_at}
use Rattle.gql_findings.specs.Sources.{TextFile}
use Rattle.gql_findings.specs.Words.{title_of}
use Rattle.gql_findings.specs.declared.finding.Affected.{Affected}
use Rattle.gql_findings.specs.declared.finding.Finding.{Finding}
use Rattle.gql_findings.specs.declared.finding.Findings.{Findings}
use Rattle.gql_findings.specs.declared.finding.Owner.{Owner}
use Rattle.gql_findings.specs.declared.finding.Owner.TheVariants.{Fragment, Operation, TypeSystem}
use Rattle.gql_findings.specs.declared.finding.OwnerAt.{OwnerAt}
use Rattle.gql_findings.specs.declared.finding.Spot.{Spot}
use Rattle.gql_render.proofs.Appended.{seven_parts, twelve_parts}
use Rattle.gql_render.specs.Json as json
use Rattle.gql_render.specs.Picking.{picked}
use Rattle.gql_render.specs.Texts as text
use Rattle.gql_render.specs.declared.check.Against.{Against}
use Rattle.gql_render.specs.declared.check.Check.{Check}

q_path : quoted (codes "path") ≡ codes "\"path\""
unfolding serde_json_on_literals
q_path = refl

q_line : quoted (codes "line") ≡ codes "\"line\""
unfolding serde_json_on_literals
q_line = refl

q_column : quoted (codes "column") ≡ codes "\"column\""
unfolding serde_json_on_literals
q_column = refl

q_kind : quoted (codes "kind") ≡ codes "\"kind\""
unfolding serde_json_on_literals
q_kind = refl

q_name : quoted (codes "name") ≡ codes "\"name\""
unfolding serde_json_on_literals
q_name = refl

q_fragment : quoted (codes "fragment") ≡ codes "\"fragment\""
unfolding serde_json_on_literals
q_fragment = refl

q_rule : quoted (codes "rule") ≡ codes "\"rule\""
unfolding serde_json_on_literals
q_rule = refl

q_title : quoted (codes "title") ≡ codes "\"title\""
unfolding serde_json_on_literals
q_title = refl

q_about : quoted (codes "about") ≡ codes "\"about\""
unfolding serde_json_on_literals
q_about = refl

q_places : quoted (codes "places") ≡ codes "\"places\""
unfolding serde_json_on_literals
q_places = refl

q_owner : quoted (codes "owner") ≡ codes "\"owner\""
unfolding serde_json_on_literals
q_owner = refl

q_through : quoted (codes "through") ≡ codes "\"through\""
unfolding serde_json_on_literals
q_through = refl

q_schema : quoted (codes "schemaIsFaulty") ≡ codes "\"schemaIsFaulty\""
unfolding serde_json_on_literals
q_schema = refl

q_base : quoted (codes "baseSchemaIsFaulty") ≡ codes "\"baseSchemaIsFaulty\""
unfolding serde_json_on_literals
q_base = refl

q_faults : quoted (codes "faults") ≡ codes "\"faults\""
unfolding serde_json_on_literals
q_faults = refl

q_affected : quoted (codes "affected") ≡ codes "\"affected\""
unfolding serde_json_on_literals
q_affected = refl

q_hidden : quoted (codes "hidden") ≡ codes "\"hidden\""
unfolding serde_json_on_literals
q_hidden = refl

q_brought : quoted (codes "brought") ≡ codes "\"brought\""
unfolding serde_json_on_literals
q_brought = refl

q_mended : quoted (codes "mended") ≡ codes "\"mended\""
unfolding serde_json_on_literals
q_mended = refl

q_broken : quoted (codes "broken") ≡ codes "\"broken\""
unfolding serde_json_on_literals
q_broken = refl

q_healed : quoted (codes "healed") ≡ codes "\"healed\""
unfolding serde_json_on_literals
q_healed = refl

-- a member, and the members after it
first : (k q : List ℕ) (d : Data) (ms : Members) (t rest : List ℕ) → quoted k ≡ q → compact_text d ≡ t → members_text true ms ≡ rest → members_text false (member k d ms) ≡ q ++ 58 ∷ (t ++ rest)
first k q d ms t rest a b c = ap (λ x. x ++ 58 ∷ (compact_text d ++ members_text true ms)) a ∙ ap (λ x. q ++ 58 ∷ (x ++ members_text true ms)) b ∙ ap (λ x. q ++ 58 ∷ (t ++ x)) c

-- a member after others
later : (k q : List ℕ) (d : Data) (ms : Members) (t rest : List ℕ) → quoted k ≡ q → compact_text d ≡ t → members_text true ms ≡ rest → members_text true (member k d ms) ≡ 44 ∷ (q ++ 58 ∷ (t ++ rest))
later k q d ms t rest a b c = ap (λ x. 44 ∷ x) (first k q d ms t rest a b c)

place_is : (sources : List TextFile) (p : Spot) (others : Members) → members_text false (json.place_members sources p others) ≡ text.place_text sources p ++ members_text true others
unfolding text.place_text
place_is sources p others =
    let column = member (codes "column") (number (unsigned p.column)) others in
    let line = member (codes "line") (number (unsigned p.line)) column in
    first (codes "path") (codes "\"path\"") (string (label_at sources p)) line (quoted (label_at sources p)) _ q_path refl
    (later (codes "line") (codes "\"line\"") (number (unsigned p.line)) column (decimal p.line) _ q_line refl
    (later (codes "column") (codes "\"column\"") (number (unsigned p.column)) others (decimal p.column) (members_text true others) q_column refl refl))
    ∙ sym (simp append_assoc refl)

whole_place_is : (sources : List TextFile) (p : Spot) → compact_text (json.place_json sources p) ≡ text.whole_place_text sources p
unfolding text.whole_place_text
whole_place_is sources p = ap (λ x. 123 ∷ x) (place_is sources p no_members)

items_rest : {A : Type 0} (to : A → Data) (of : A → List ℕ) → ((x : A) → compact_text (to x) ≡ of x) → (xs : List A) → items_text true (json.items_of (map to xs)) ≡ flat_map (λ y. codes "," ++ of y) xs ++ codes "]"
items_rest to of h [] = refl
items_rest to of h (x ∷ xs) = ap (λ t. 44 ∷ (t ++ items_text true (json.items_of (map to xs)))) (h x) ∙ ap (λ t. 44 ∷ (of x ++ t)) (items_rest to of h xs) ∙ ap (λ t. 44 ∷ t) (sym (append_assoc (of x) (flat_map (λ y. codes "," ++ of y) xs) (codes "]")))

list_is : {A : Type 0} (to : A → Data) (of : A → List ℕ) → ((x : A) → compact_text (to x) ≡ of x) → (xs : List A) → compact_text (json.list_of to xs) ≡ codes "[" ++ text.comma_list of xs ++ codes "]"
list_is to of h [] = refl
list_is to of h (x ∷ xs) = ap (λ t. 91 ∷ (t ++ items_text true (json.items_of (map to xs)))) (h x) ∙ ap (λ t. 91 ∷ (of x ++ t)) (items_rest to of h xs) ∙ ap (λ t. 91 ∷ t) (sym (append_assoc (of x) (flat_map (λ y. codes "," ++ of y) xs) (codes "]")))

name_is : (name : Option (List ℕ)) → compact_text (json.name_json name) ≡ text.name_text name
unfolding text.name_text
name_is None = refl
name_is (Some name) = refl

named_is : (kind : List ℕ) (name : Option (List ℕ)) (others : Members) → members_text false (json.named_members kind name others) ≡ text.named_text kind name ++ members_text true others
unfolding text.named_text
named_is kind name others =
    let named = member (codes "name") (json.name_json name) others in
    first (codes "kind") (codes "\"kind\"") (string kind) named (quoted kind) _ q_kind refl
    (later (codes "name") (codes "\"name\"") (json.name_json name) others (text.name_text name) (members_text true others) q_name (name_is name) refl)
    ∙ sym (simp append_assoc refl)

definition_is : (owner : Owner) (others : Members) → members_text false (json.owner_members owner others) ≡ text.definition_text owner ++ members_text true others
unfolding text.definition_text text.fragment_text
definition_is (Fragment name) others =
    let named = member (codes "name") (string name) others in
    first (codes "kind") (codes "\"kind\"") (string (codes "fragment")) named (codes "\"fragment\"") _ q_kind q_fragment
    (later (codes "name") (codes "\"name\"") (string name) others (quoted name) (members_text true others) q_name refl refl)
    ∙ sym (simp append_assoc refl)
definition_is (Operation kind name) others = named_is (json.kind_word kind) name others
definition_is (TypeSystem kind name) others = named_is (json.system_word kind) name others

owner_is : (sources : List TextFile) (o : Option OwnerAt) → compact_text (json.owner_json sources o) ≡ text.owner_text sources o
unfolding text.owner_text
owner_is sources None = refl
owner_is sources (Some o) =
    ap (λ x. 123 ∷ x) (definition_is o.owner (json.place_members sources o.spot no_members) ∙ ap (λ x. text.definition_text o.owner ++ 44 ∷ x) (place_is sources o.spot no_members))
    ∙ sym (simp append_assoc refl)

fault_is : (sources : List TextFile) (f : Finding) → compact_text (json.fault_json sources f) ≡ text.fault_text sources f
unfolding text.fault_text text.what_text text.where_text text.places_text
fault_is sources f =
    let owner = member (codes "owner") (json.owner_json sources f.owner) no_members in
    let places = member (codes "places") (json.list_of (json.place_json sources) f.spots.items) owner in
    let about = member (codes "about") (string f.about) places in
    let title = member (codes "title") (string (title_of f.rule)) about in
    ap (λ x. 123 ∷ x)
    (first (codes "rule") (codes "\"rule\"") (string (name_of f.rule)) title (quoted (name_of f.rule)) _ q_rule refl
    (later (codes "title") (codes "\"title\"") (string (title_of f.rule)) about (quoted (title_of f.rule)) _ q_title refl
    (later (codes "about") (codes "\"about\"") (string f.about) places (quoted f.about) _ q_about refl
    (later (codes "places") (codes "\"places\"") (json.list_of (json.place_json sources) f.spots.items) owner _ _ q_places (list_is (json.place_json sources) (text.whole_place_text sources) (whole_place_is sources) f.spots.items)
    (later (codes "owner") (codes "\"owner\"") (json.owner_json sources f.owner) no_members (text.owner_text sources f.owner) (codes "}") q_owner (owner_is sources f.owner) refl)))))
    ∙ sym (simp append_assoc refl)

affected_is : (sources : List TextFile) (a : Affected) → compact_text (json.affected_json sources a) ≡ text.affected_text sources a
unfolding text.affected_text text.affected_start
affected_is sources a =
    let through = member (codes "through") (json.name_json a.through) no_members in
    ap (λ x. 123 ∷ x) (named_is (json.kind_word a.kind) a.name (json.place_members sources a.spot through)
    ∙ ap (λ x. text.named_text (json.kind_word a.kind) a.name ++ 44 ∷ x) (place_is sources a.spot through
    ∙ ap (λ x. text.place_text sources a.spot ++ x) (later (codes "through") (codes "\"through\"") (json.name_json a.through) no_members (text.name_text a.through) (codes "}") q_through (name_is a.through) refl)))
    ∙ sym (simp append_assoc refl)

fault_list_is : (f : Findings) (places : List ℕ) → compact_text (json.faults_at f places) ≡ text.fault_list_text f places
unfolding text.fault_list_text text.faults_text
fault_list_is f places = list_is (json.fault_json f.sources.items) (text.fault_text f.sources.items) (fault_is f.sources.items) (picked f.findings.items places)

operation_list_is : (f : Findings) (places : List ℕ) → compact_text (json.operations_at f places) ≡ text.operation_list_text f places
unfolding text.operation_list_text text.operations_text
operation_list_is f places = list_is (json.affected_json f.sources.items) (text.affected_text f.sources.items) (affected_is f.sources.items) (picked f.affected.items places)

truth_is : (b : Bool) → compact_text (boolean b) ≡ text.truth_text b
truth_is true = refl
truth_is false = refl

known_list_is : (hidden : Bool) (f : Findings) (places : List ℕ) → compact_text (json.known_operations hidden f places) ≡ text.known_list_text hidden f places
unfolding text.known_list_text
known_list_is true f places = refl
known_list_is false f places = operation_list_is f places

changes_are : (now : Findings) (base : Option Against) → members_text true (json.change_members now base) ≡ text.changes_text now base ++ codes "}"
unfolding text.changes_text text.base_text text.fault_changes_text text.operation_changes_text
changes_are now None = refl
changes_are now (Some base) =
    let there = base.findings.now in
    let c = base.comparison.now in
    let h = c.hidden in
    let healed = member (codes "healed") (json.known_operations h there c.healed.items) no_members in
    let broken = member (codes "broken") (json.known_operations h now c.broken.items) healed in
    let mended = member (codes "mended") (json.faults_at there c.mended.items) broken in
    let brought = member (codes "brought") (json.faults_at now c.brought.items) mended in
    let hidden = member (codes "hidden") (boolean h) brought in
    later (codes "baseSchemaIsFaulty") (codes "\"baseSchemaIsFaulty\"") (boolean there.schema_is_faulty) hidden (text.truth_text there.schema_is_faulty) _ q_base (truth_is there.schema_is_faulty)
    (later (codes "hidden") (codes "\"hidden\"") (boolean h) brought (text.truth_text h) _ q_hidden (truth_is h)
    (later (codes "brought") (codes "\"brought\"") (json.faults_at now c.brought.items) mended (text.fault_list_text now c.brought.items) _ q_brought (fault_list_is now c.brought.items)
    (later (codes "mended") (codes "\"mended\"") (json.faults_at there c.mended.items) broken (text.fault_list_text there c.mended.items) _ q_mended (fault_list_is there c.mended.items)
    (later (codes "broken") (codes "\"broken\"") (json.known_operations h now c.broken.items) healed (text.known_list_text h now c.broken.items) _ q_broken (known_list_is h now c.broken.items)
    (later (codes "healed") (codes "\"healed\"") (json.known_operations h there c.healed.items) no_members (text.known_list_text h there c.healed.items) (codes "}") q_healed (known_list_is h there c.healed.items) refl)))))
    ∙ sym (twelve_parts (codes ",\"baseSchemaIsFaulty\":") (text.truth_text there.schema_is_faulty) (codes ",\"hidden\":") (text.truth_text h) (codes ",\"brought\":") (text.fault_list_text now c.brought.items) (codes ",\"mended\":") (text.fault_list_text there c.mended.items)
    (codes ",\"broken\":") (text.known_list_text h now c.broken.items) (codes ",\"healed\":") (text.known_list_text h there c.healed.items) (codes "}"))

all_faults_are : (f : Findings) → compact_text (json.list_of (json.fault_json f.sources.items) f.findings.items) ≡ text.all_faults_text f
unfolding text.all_faults_text text.faults_text
all_faults_are f = list_is (json.fault_json f.sources.items) (text.fault_text f.sources.items) (fault_is f.sources.items) f.findings.items

all_operations_are : (f : Findings) → compact_text (json.list_of (json.affected_json f.sources.items) f.affected.items) ≡ text.all_operations_text f
unfolding text.all_operations_text text.operations_text
all_operations_are f = list_is (json.affected_json f.sources.items) (text.affected_text f.sources.items) (affected_is f.sources.items) f.affected.items

-- the whole text
pub check_is : (check : Check) → compact_text (json.check_json check)
    ≡ text.head_text check.now.now ++ text.state_text check.now.now ++ text.changes_text check.now.now check.base ++ codes "}"
unfolding text.head_text text.state_text
check_is check =
    let now = check.now.now in
    let changes = json.change_members now check.base in
    let affected = member (codes "affected") (json.list_of (json.affected_json now.sources.items) now.affected.items) changes in
    let faults = member (codes "faults") (json.list_of (json.fault_json now.sources.items) now.findings.items) affected in
    ap (λ x. 123 ∷ x)
    (first (codes "schemaIsFaulty") (codes "\"schemaIsFaulty\"") (boolean now.schema_is_faulty) faults (text.truth_text now.schema_is_faulty) _ q_schema (truth_is now.schema_is_faulty)
    (later (codes "faults") (codes "\"faults\"") (json.list_of (json.fault_json now.sources.items) now.findings.items) affected _ _ q_faults (all_faults_are now)
    (later (codes "affected") (codes "\"affected\"") (json.list_of (json.affected_json now.sources.items) now.affected.items) changes _ _ q_affected (all_operations_are now)
    (changes_are now check.base))))
    ∙ sym (seven_parts (codes "{\"schemaIsFaulty\":") (text.truth_text now.schema_is_faulty) (codes ",\"faults\":") (text.all_faults_text now) (codes ",\"affected\":") (text.all_operations_text now) (text.changes_text now check.base) (codes "}"))
