-- The items of a list of the data that are written at once, at its beginning.
use Rattle.std.proofs.Common.{◌≡◌, ℕ, zero, suc, ◌+◌, ◌<◌, ◌≤◌, List, [], ◌∷◌, codes, take, Result, Ok, Err, refl, ap, ◌∙◌, arith, subst, zero-add}
use Rattle.std.specs.Result.{IfErr, IfOk}
use Rattle.gql_types.specs.Written.{written}
use Rattle.serde_json.specs.Data.{Data}
use Rattle.gql_steps.specs.DirectParts.{ItemsStop, ItemsWritten}
use Rattle.gql_steps.specs.Ended.{both}
use Rattle.gql_deep.specs.Frames.{AtItems, Midway, WritesFirst, WritesFirstStop, item_parts}
use Rattle.gql_steps.specs.Parts.{Outcome, text, bubble, Part, all, followed_by, joined, numbered, plain}
use Rattle.gql_steps.specs.Plans.{Basis, types_of}
use Rattle.gql_steps.specs.States.{Done, path_of}
use Rattle.gql_steps.specs.ValueParts.{data_items, item_part, items_part, site_of}
use Rattle.gql_steps.specs.declared.ended.Ended.{Ended}
use Rattle.gql_steps.specs.declared.ended.Ended.TheVariants.{Written}
use Rattle.gql_deep.specs.declared.frames.ItemsFrame.{ItemsFrame}
use Rattle.gql_steps.specs.declared.refusal.ExecRefusal.{ExecRefusal}
use Rattle.gql_steps.specs.declared.run.Run.{Run}
use Rattle.gql_steps.specs.declared.table.Table.{Table}
use Rattle.gql_steps.proofs.Doing.{both_written, done-both}

-- ---- lists of parts

joined_first : (o : Outcome) → joined (text []) o ≡ o
joined_first (text a) = refl
joined_first bubble = refl

followed_first : (r : Part) → followed_by (plain []) r ≡ r
followed_first r = ap (λ (o : Outcome). record { outcome = o; notes = r.notes; weight = 0 + r.weight }) (joined_first r.outcome)
    ∙ ap (λ (n : ℕ). record { outcome = r.outcome; notes = r.notes; weight = n }) (zero-add r.weight)

take_none : (rs : List Part) → take 0 rs ≡ []
take_none [] = refl
take_none (r ∷ rs) = refl

numbered_take : {A : Type 0} (f : ℕ → A → Part) (n : ℕ) (xs : List A) (k : ℕ) → numbered f n (take k xs) ≡ take k (numbered f n xs)
numbered_take f n [] zero = refl
numbered_take f n [] (suc k) = refl
numbered_take f n (x ∷ xs) zero = refl
numbered_take f n (x ∷ xs) (suc k) = ap (λ rs. f n x ∷ rs) (numbered_take f (n + 1) xs k)

-- ---- a list, none of whose items is done

module _ (before after : List ℕ) (parts : List Part) (ended : Ended) (whole : Part) (start now : Run) (m : Midway before after parts 0 ended whole start now) where
  none_done : Done (plain []) ended m.opened now
  none_done = subst (λ rs. Done (all rs) ended m.opened now) (take_none parts) m.done

  first_done : (k : ℕ) (next : Run) → Done (all (take k parts)) Written now next → Midway before after parts k ended whole start next
  first_done k next done = record {
    opened = m.opened;
    opens = m.opens;
    done = subst (λ e. Done (all (take k parts)) e m.opened next) (both_written ended)
        (subst (λ r. Done r (both ended Written) m.opened next) (followed_first (all (take k parts)))
        (done-both (plain []) (all (take k parts)) ended Written m.opened now next none_done done));
    is = m.is;
  }

  first_stops : now.left < (all parts).weight → start.left < whole.weight
  first_stops heavy =
      let is : whole.weight ≡ 0 + (all parts).weight + 0 = ap (λ (p : Part). p.weight) m.is in
      omega (arith, is, heavy, none_done.follows.left, m.opens.left)

module _ (f : ItemsFrame) (ds : List Data) (s u : Run) (none : f.next ≡ 0) (items : ds ≡ data_items f.items) where
  at_first : (g : Basis) (t : Table) (whole : Part) (start : Run) (at : AtItems g t f whole start s)
      → Midway (codes "[") (codes "]") (item_parts f (site_of (types_of g) f.site.place at.plan) start) 0 f.ended whole start s
  at_first g t whole start at = subst (λ k. Midway (codes "[") (codes "]") (item_parts f (site_of (types_of g) f.site.place at.plan) start) k f.ended whole start s) none at.midway

  pub first_written : (result : Result ℕ ExecRefusal) → IfOk result (λ k. ItemsWritten f.site.kind (written f.item.now) ds k s u) → IfOk result (λ k. WritesFirst f k s u)
  first_written (Ok k) w = λ g t whole start at.
      let site = site_of (types_of g) f.site.place at.plan in
      let each = item_part (written f.item.now) site (path_of start) in
      first_done (codes "[") (codes "]") (item_parts f site start) f.ended whole start s (at_first g t whole start at) k u
      (subst (λ rs. Done (all rs) Written s u) (ap (λ xs. numbered each 0 (take k xs)) items ∙ numbered_take each 0 (data_items f.items) k) (w.done site (path_of start) at.asked.kind))
  first_written (Err stop) w = tt

  pub first_stopped : (result : Result ℕ ExecRefusal) → IfErr result (ItemsStop f.site.kind (written f.item.now) ds s) → IfErr result (WritesFirstStop f s)
  first_stopped (Ok k) h = tt
  first_stopped (Err stop) h = λ g t whole start at heavy.
      let site = site_of (types_of g) f.site.place at.plan in
      first_stops (codes "[") (codes "]") (item_parts f site start) f.ended whole start s (at_first g t whole start at)
      (subst (λ xs. s.left < (items_part (written f.item.now) site xs (path_of start)).weight) items (h site (path_of start) at.asked.kind heavy))

  pub first_left : (result : Result ℕ ExecRefusal) → IfOk result (λ k. ItemsWritten f.site.kind (written f.item.now) ds k s u) → IfOk result (λ k. u.left ≤ s.left)
  first_left (Ok k) w = w.left
  first_left (Err stop) w = tt
