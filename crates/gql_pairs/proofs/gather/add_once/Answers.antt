use Rattle.std.proofs.Common.{◌≡◌, ◌∙◌, ◌++◌, ◌∷◌, [], ap, bytes_eq, rules, true}
use Rattle.std.specs.List.{list_any}
use Rattle.indexmap.specs.IndexSet.{insert_key}
use Rattle.gql_merge.specs.Between.{name_of}
use Rattle.gql_pairs.proofs.Gathered.{now_named, was_found}
use Rattle.gql_pairs.proofs.gather.add_once.Goals as goal

pub returns-then-contains-clause-gathered : goal.returns-then-contains-clause-gathered
returns-then-contains-clause-gathered c =
    let found : list_any (bytes_eq (name_of c.args.fragment.now)) c.args.found.now.names.keys ≡ true = search rules in
    was_found c.args.found.now.names.keys c.args.found.now.fragments.items c.requires c.args.fragment.now found

pub returns-clause-names : goal.returns-clause-names
returns-clause-names c =
    let name : c.in_ok-copy.field-0 ≡ name_of c.args.fragment.now = search rules in
    let put : c.insert.new.self.keys ≡ insert_key bytes_eq c.args.found.now.names.keys (name_of c.args.fragment.now) = c.in_ok-insert.ensures.keys ∙ ap (insert_key bytes_eq c.args.found.now.names.keys) name in
    let pushed : c.push.new.self.items ≡ c.args.found.now.fragments.items ++ c.args.fragment.now ∷ [] = search rules in
    now_named c.args.found.now.names.keys c.args.found.now.fragments.items c.requires c.args.fragment.now c.insert.new.self.keys c.push.new.self.items put pushed
