use Rattle.std.proofs.Common.{◌∙◌, arith, ap, subst, sym, List}
use Rattle.std.specs.List.{list_any}
use Rattle.std.proofs.lemmas.Grind.{common_steps}
use Rattle.std.specs.HashSet.{contains}
use Rattle.gql_ast.specs.declared.fault.FilePlace.{FilePlace}
use Rattle.gql_facts.specs.Members.{Lists}
use Rattle.gql_facts.specs.Reads.{Reaches}
use Rattle.gql_serving.specs.Owned.{IsOwned, Picks}
use Rattle.gql_serving.specs.OwnedAmong.{IsOwnedAmong, owner_places}
use Rattle.gql_serving.specs.Owners.{same_place}
use Rattle.gql_serving.proofs.Owning.{all_reached, none_of, none_owned, none_picked, ok_then}
use Rattle.gql_serving.proofs.owned.owned_faults.Goals as goal

pub returns-then-is_empty-clause-owned : goal.returns-then-is_empty-clause-owned
returns-then-is_empty-clause-owned g c = λ owners.
    none_picked (IsOwned (g.W.World.facts c.args.world.now) c.args.definition.now) c.args.faults.now c.new.result.items
    (grind (arith, common_steps, c.is_empty.ensures, c.if-is_empty.true)) c.new.ensures.items

pub returns-then-not-is_any_among-clause-owned : goal.returns-then-not-is_any_among-clause-owned
returns-then-not-is_any_among-clause-owned g c = λ owners.
    let facts = g.W.World.facts c.args.world.now in
    let d = c.args.definition.now in
    let members = c.in_ok-walk.walk.members.items in
    let places = owner_places d members in
    let same = c.as_slice-2.ensures.value ∙ c.in_ok-places.ensures ∙ ap (owner_places d) c.as_slice.ensures.value in
    all_reached facts d members c.in_ok-walk.ensures.members c.args.faults.now c.new-then-not-is_any_among.result.items
    (none_of (IsOwnedAmong places) c.args.faults.now c.new-then-not-is_any_among.result.items
    (none_owned places c.args.faults.now (contains same_place c.args.owners.now.places) owners
    (sym (c.in_ok-is_any_among.ensures ∙ ap (λ (l : List FilePlace). list_any (contains same_place c.args.owners.now.places) l) same) ∙ c.if-not-is_any_among.true))
    c.new-then-not-is_any_among.ensures.items)

pub returns-clause-owned : goal.returns-clause-owned
returns-clause-owned g c =
    let facts = g.W.World.facts c.args.world.now in
    let d = c.args.definition.now in
    let members = c.in_ok-walk.walk.members.items in
    let same = c.as_slice-3.ensures.value ∙ c.in_ok-places.ensures ∙ ap (owner_places d) c.as_slice.ensures.value in
    ok_then c.picked.result (λ found. Picks (IsOwnedAmong c.as_slice-3.result.now) c.args.faults.now found.items) _
    (λ found p owners. all_reached facts d members c.in_ok-walk.ensures.members c.args.faults.now found.items
    (subst (λ (l : List FilePlace). Picks (IsOwnedAmong l) c.args.faults.now found.items) same p)) c.picked.ensures
