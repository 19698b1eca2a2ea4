-- What the execution of selection sets on the initial value comes to.
use Rattle.std.proofs.Common.{◌≡◌, ℕ, ◌<◌, List, [], map, true, Ok, Err, ap, subst, arith}
use Rattle.gql_collect.specs.Nodes.{FileSelection}
use Rattle.serde_json.specs.Data.{Data}
use Rattle.gql_steps.specs.Execution.{Plan, PlannedField, answer, execute, stored}
use Rattle.gql_steps.specs.Outcomes.{segment_of}
use Rattle.gql_steps.specs.Plans.{Basis, IsPlan, is_met, types_of}
use Rattle.gql_steps.specs.States.{Done, Executes, path_of}
use Rattle.gql_steps.specs.Tables.{Has, StandFor, fields_at}
use Rattle.gql_steps.specs.Texts.{value_part}
use Rattle.gql_steps.specs.ValueParts.{object_part}
use Rattle.gql_steps.specs.declared.ended.Ended.{Ended}
use Rattle.gql_steps.specs.declared.refusal.ExecRefusal.{ExecRefusal}
use Rattle.gql_steps.specs.declared.refusal.ExecRefusal.TheVariants.{TooHeavy}
use Rattle.gql_steps.specs.declared.run.Run.{Run}
use Rattle.gql_steps.specs.declared.table.Table.{Table}
use Rattle.gql_steps.proofs.Executing.{on_entry}

-- ---- selection sets on the initial value

module _ (g : Basis) (table : Table) (k : ℕ) (root : List ℕ) (xs : List FileSelection) (x : Plan) (d : Data) (s u : Run)
    (has : Has g table k root xs) (met : is_met g root root ≡ true) (is : IsPlan g root xs x) (start : s.path.items ≡ []) where
  pub sets_done : (e : Ended) → ((qs : List (PlannedField × Plan)) → StandFor g (fields_at table.entries.items k) qs → Executes (object_part (types_of g) (stored d) qs (path_of s)) (Ok e) s u)
      → Done (value_part (execute (types_of g) x root [] (stored d))) e s u
  sets_done e does = subst (λ p. Done (value_part (execute (types_of g) x root p (stored d))) e s u) (ap (map segment_of) start)
      (on_entry g table k root root xs x (stored d) (Ok e) s u has met is does)

  pub sets_heavy : (stop : ExecRefusal) → ((qs : List (PlannedField × Plan)) → StandFor g (fields_at table.entries.items k) qs → Executes (object_part (types_of g) (stored d) qs (path_of s)) (Err stop) s u)
      → stop ≡ TooHeavy → s.left < (answer (types_of g) x root d).weight
  sets_heavy stop does heavy =
      let over : s.left < (value_part (execute (types_of g) x root [] (stored d))).weight =
      subst (λ p. s.left < (value_part (execute (types_of g) x root p (stored d))).weight) (ap (map segment_of) start)
      (on_entry g table k root root xs x (stored d) (Err stop) s u has met is does heavy) in
      omega (arith, over)
