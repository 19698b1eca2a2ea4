-- Values within fields and items, and the objects and lists that wait for them.
use Rattle.std.proofs.Common.{◌≡◌, ℕ, zero, suc, ◌+◌, ◌<◌, ◌≤◌, List, [], ◌∷◌, ◌++◌, Bool, true, false, get_or, length, take, codes, reverse, Result, Ok, Err, refl, sym, ap, ◌∙◌, arith, subst, if◌then◌else◌}
use Rattle.std.specs.List.{All}
use Rattle.std.proofs.lemmas.List.{length-append, reverse-append}
use Rattle.std.proofs.lemmas.List.Elements.{All-append}
use Rattle.gql_deep.specs.Frames.{At, Begins, Enters, Fits, FitsFrame, FitsTurn, Hole, Inside, KeepsTurn, Opens, Pauses, RaisedAt, Reaches, Suspends, Turns, Waits, Holds, and_ended, content_by, counted_by, inner_in, placed_by}
use Rattle.gql_inputs.specs.InputTypes.{name_in}
use Rattle.gql_types.specs.Written.{written}
use Rattle.gql_steps.specs.Parts.{Part, settled}
use Rattle.gql_steps.specs.Plans.{Basis, IsPlan}
use Rattle.gql_steps.specs.States.{Done, Executes}
use Rattle.gql_steps.specs.Tables.{Grows, IsRight, StandFor}
use Rattle.gql_steps.specs.ValueParts.{IsAsked}
use Rattle.gql_steps.specs.declared.ended.Ended.{Ended}
use Rattle.gql_steps.specs.declared.ended.Ended.TheVariants.{Written, Bubbled}
use Rattle.gql_deep.specs.declared.frames.Around.{Around}
use Rattle.gql_deep.specs.declared.frames.Begun.{Begun}
use Rattle.gql_deep.specs.declared.frames.Begun.TheVariants as begun
use Rattle.gql_deep.specs.declared.frames.Frame.{Frame}
use Rattle.gql_deep.specs.declared.frames.Group.{Group}
use Rattle.gql_deep.specs.declared.frames.Group.TheVariants as group
use Rattle.gql_deep.specs.declared.frames.Reached.{Reached}
use Rattle.gql_deep.specs.declared.frames.Reached.TheVariants as reached
use Rattle.gql_deep.specs.declared.frames.Turn.{Turn}
use Rattle.gql_deep.specs.declared.frames.Turn.TheVariants as turn
use Rattle.gql_steps.specs.declared.refusal.ExecRefusal.{ExecRefusal}
use Rattle.gql_steps.specs.declared.refusal.ExecRefusal.TheVariants.{TooHeavy}
use Rattle.gql_steps.specs.declared.run.Run.{Run}
use Rattle.gql_steps.specs.declared.table.Table.{Table}
use Rattle.gql_steps.proofs.Doing.{at-field, at-step, caught-cut, caught-written}
use Rattle.gql_steps.proofs.Entries.{below_still, fields_still, in_still, no_shorter}

-- ---- values in their places

placed_weight : (b : Bool) (r : Part) → (placed_by b r).weight ≡ r.weight
placed_weight true r = refl
placed_weight false r = refl

content_weight : (field required : Bool) (r : Part) → (if field then settled (placed_by required r) else placed_by required r).weight ≡ r.weight
content_weight true required r = placed_weight required r
content_weight false required r = placed_weight required r

pub placed_written : (b : Bool) (r : Part) (s t : Run) → Done r Written s t → Done (placed_by b r) Written s t
placed_written true r s t done = done
placed_written false r s t done = caught-written r s t done

pub placed_bubbled : (b : Bool) (r : Part) (s t : Run) → b ≡ true → Done r Bubbled s t → Done (placed_by b r) Bubbled s t
placed_bubbled b r s t e done = subst (λ c. Done (placed_by c r) Bubbled s t) (sym e) done

pub placed_cut : (b : Bool) (r : Part) (mark : ℕ) (s t u : Run) → b ≡ false → mark ≡ length s.out.items → Done r Bubbled s t
    → u.out.items ≡ take mark t.out.items ++ codes "null" → u ≡ record t { out = u.out } → Done (placed_by b r) Written s u
placed_cut b r mark s t u e at done cut rest = subst (λ c. Done (placed_by c r) Written s u) (sym e)
    (caught-cut r s t u done (subst (λ n. u.out.items ≡ take n t.out.items ++ codes "null") at cut) rest)

-- ---- the end of a value

-- the same value, as a part of more
pub hole_lift : (a : Around) (p : Part) (start : Run) (q r : Part) (here before : Run)
    → ((result : Result Ended ExecRefusal) (now : Run) → Executes q result here now → Executes r result before now) → Hole a p start q here → Hole a p start r before
hole_lift a p start q r here before lift h = record {
  here = h.here;
  step = h.step;
  out = h.out;
  errors = h.errors;
  left = h.left;
  raised = h.raised;
  path = h.path;
  mark = h.mark;
  depth = h.depth;
  lifts = λ result now x. lift result now (h.lifts result now x);
}

module _ (a : Around) (p : Part) (start : Run) (r : Part) (before : Run) (h : Hole a p start r before) where
  pub hole_stops : start.left < p.weight → before.left < r.weight
  hole_stops heavy = let w = content_weight a.is_field a.is_required p in
      h.lifts (Err TooHeavy) start (λ e. omega (arith, heavy, w, ap (λ (n : ℕ). n) h.left)) refl

  module _ (e : Ended) (u v : Run) (done : Done (placed_by a.is_required p) e start u) (out : v.out ≡ u.out) (errors : v.errors ≡ u.errors) (left : v.left ≡ u.left)
      (path : v.path.items ≡ take a.depth u.path.items) where
    cut_path : v.path.items ≡ take (length h.here.path.items) u.path.items
    cut_path = path ∙ ap (λ n. take n u.path.items) h.depth

    as_content : (b : Bool) (q : Part) → a.is_field ≡ b → (if b then settled (placed_by a.is_required p) else placed_by a.is_required p) ≡ q → Done q e h.here v → Done (content_by a p) e h.here v
    as_content b q is same d = subst (λ x. Done x e h.here v) (sym (ap (λ c. if c then settled (placed_by a.is_required p) else placed_by a.is_required p) is ∙ same)) d

    pub hole_field : a.is_field ≡ true → v.raised ≡ a.outer → Done r e before v
    hole_field is raised = let at : RaisedAt true a.outer h.here.raised start.raised = subst (λ b. RaisedAt b a.outer h.here.raised start.raised) is h.raised in
        h.lifts (Ok e) v (as_content true (settled (placed_by a.is_required p)) is refl
        (at-field (placed_by a.is_required p) e h.step h.here start u v h.out h.errors h.left at.0 h.path done out errors left (raised ∙ at.1) cut_path))

    pub hole_item : a.is_field ≡ false → v.raised ≡ u.raised → Done r e before v
    hole_item is raised = let at : start.raised ≡ h.here.raised = subst (λ b. RaisedAt b a.outer h.here.raised start.raised) is h.raised in
        h.lifts (Ok e) v (as_content false (placed_by a.is_required p) is refl
        (at-step (placed_by a.is_required p) e h.step h.here start u v h.out h.errors h.left at h.path done out errors left raised cut_path))

-- ---- what a field or an item has come to, as a part of more

pub opens_lift : (g : Basis) (t : Table) (a : Around) (i : Group) (q r : Part) (here before now : Run)
    → ((result : Result Ended ExecRefusal) (u : Run) → Executes q result here u → Executes r result before u) → Opens g t a i q here now → Opens g t a i r before now
opens_lift g t a i q r here before now lift o = record { inner = o.inner; hole = hole_lift a o.inner now q r here before lift o.hole; enters = o.enters }

pub begins_lift : (g : Basis) (t : Table) (q r : Part) (result : Result Begun ExecRefusal) (here before now : Run)
    → ((result : Result Ended ExecRefusal) (u : Run) → Executes q result here u → Executes r result before u) → Begins g t q result here now → Begins g t r result before now
begins_lift g t q r (Ok (begun.Ended e)) here before now lift b = lift (Ok e) now b
begins_lift g t q r (Ok (begun.Within a i)) here before now lift b = opens_lift g t a i q r here before now lift b
begins_lift g t q r (Err stop) here before now lift b = lift (Err stop) now b

-- ---- tables that grow

module _ (g : Basis) (a b : Table) (more : Grows a b) where
  pub at_still : (i : Group) (whole : Part) (start now : Run) → At g a i whole start now → At g b i whole start now
  at_still (group.Fields f) whole start now x = record {
    pairs = x.pairs;
    within = omega (arith, x.within, no_shorter a b more);
    stand = subst (λ fs. StandFor g fs x.pairs) (sym (fields_still a b f.entry more x.within)) x.stand;
    midway = x.midway;
  }
  at_still (group.Items f) whole start now x = record {
    plan = x.plan;
    within = in_still a b f.site.slot more x.within;
    asked = subst (λ xs. IsAsked g f.site (name_in (written f.item.now)) xs x.plan) (sym (below_still a b f.site.slot more x.within)) x.asked;
    midway = x.midway;
  }
  at_still (group.Nodes f) whole start now x = record {
    plan = x.plan;
    place = x.place;
    within = in_still a b f.slot more x.within;
    asked = subst (λ xs. IsPlan g f.name.now xs x.plan) (sym (below_still a b f.slot more x.within)) x.asked;
    rest = x.rest;
    midway = x.midway;
  }

  pub suspends_still : (f : Frame) (inner : Part) (began : Run) (whole : Part) (start : Run) → Suspends g a f inner began whole start → Suspends g b f inner began whole start
  suspends_still f inner began whole start s = record {
    part = s.part;
    before = s.before;
    hole = s.hole;
    goes_on = λ ended now done. at_still (and_ended f.group ended) whole start now (s.goes_on ended now done);
    stops = s.stops;
  }

  pub waits_still : (fs : List Frame) (inner : Part) (began : Run) (whole : Part) (start : Run) → Waits g a fs inner began whole start → Waits g b fs inner began whole start
  waits_still [] inner began whole start w = w
  waits_still (f ∷ fs) inner began whole start w = (w.0, w.1, suspends_still f inner began w.0 w.1 w.2, waits_still fs w.0 w.1 whole start w.3)

-- ---- the stack

module _ (g : Basis) (t : Table) where
  pub waits_stop : (fs : List Frame) (inner : Part) (began : Run) (whole : Part) (start : Run) → Waits g t fs inner began whole start → began.left < inner.weight → start.left < whole.weight
  waits_stop [] inner began whole start w heavy = let p : whole.weight ≡ inner.weight = ap (λ (r : Part). r.weight) w.0 in
      let l : start.left ≡ began.left = ap (λ (r : Run). r.left) w.1 in omega (arith, heavy, p, l)
  waits_stop (f ∷ fs) inner began whole start w heavy = waits_stop fs w.0 w.1 whole start w.3
      (w.2.stops (hole_stops f.around inner began w.2.part w.2.before w.2.hole heavy))

  pub inside_more : (fs : List Frame) (f : Frame) (inner : Part) (began : Run) (p : Part) (s : Run) (whole : Part) (start : Run) → Suspends g t f inner began p s → Inside g t fs p s whole start
      → Inside g t (fs ++ f ∷ []) inner began whole start
  inside_more fs f inner began p s whole start x w = subst (λ ys. Waits g t ys inner began whole start) (sym (reverse-append fs (f ∷ []))) (p, s, x, w)

  pub inside_less : (fs : List Frame) (f : Frame) (inner : Part) (began : Run) (whole : Part) (start : Run) → Inside g t (fs ++ f ∷ []) inner began whole start
      → Waits g t (f ∷ reverse fs) inner began whole start
  inside_less fs f inner began whole start w = subst (λ ys. Waits g t ys inner began whole start) (reverse-append fs (f ∷ [])) w

  -- nothing waits for the last value
  pub holds_end : (fs : List Frame) (r : Reached) (e : Ended) (now : Run) (whole : Part) (start : Run) → fs ≡ [] → r ≡ reached.Ended e → Holds g t fs r now whole start → Done whole e start now
  holds_end fs r e now whole start none is h =
      let w : (whole ≡ h.inner) × (start ≡ h.began) = subst (λ ys. Inside g t ys h.inner h.began whole start) none h.inside in
      let d : Done h.inner e h.began now = subst (λ x. Reaches g t h.inner (Ok x) h.began now) is h.reaches in
      subst (λ p. Done p e start now) (sym w.0) (subst (λ s. Done h.inner e s now) (sym w.1) d)

  pub all_more : (fs : List Frame) (f : Frame) → All (FitsFrame t) fs → FitsFrame t f → All (FitsFrame t) (fs ++ f ∷ [])
  all_more fs f all fit = All-append (FitsFrame t) fs (f ∷ []) all (only f fit)
    where
      only : (f : Frame) → FitsFrame t f → All (FitsFrame t) (f ∷ [])
      only f fit zero d w = fit
      only f fit (suc k) d w = absurd (omega (arith, w))

  pub push_ended : (fs : List Frame) (e : Ended) (x : Turn) (inner : Part) (began now : Run) (whole : Part) (start : Run) → x ≡ turn.Ended e → Inside g t fs inner began whole start
      → Turns g t inner began (Ok x) now → Holds g t fs (reached.Ended e) now whole start
  push_ended fs e x inner began now whole start is inside turns = record {
    inner = inner;
    began = began;
    reaches = subst (λ y. Turns g t inner began (Ok y) now) is turns;
    inside = inside;
  }

  pub push_within : (fs gs : List Frame) (f : Frame) (i : Group) (x : Turn) (inner : Part) (began now : Run) (whole : Part) (start : Run) → x ≡ turn.Within f i → gs ≡ fs ++ f ∷ []
      → Inside g t fs inner began whole start → Turns g t inner began (Ok x) now → Holds g t gs (reached.Inner i) now whole start
  push_within fs gs f i x inner began now whole start is more inside turns =
      let p : Pauses g t f i inner began now = subst (λ y. Turns g t inner began (Ok y) now) is turns in record {
        inner = p.inner;
        began = now;
        reaches = (refl, p.enters);
        inside = subst (λ ys. Inside g t ys p.inner now whole start) (sym more) (inside_more fs f p.inner now inner began whole start p.suspends inside);
      }

-- ---- frames that fit a table

module _ (a b : Table) (more : Grows a b) where
  fits_still : (i : Group) → Fits a i → Fits b i
  fits_still (group.Fields f) h = omega (arith, h, no_shorter a b more)
  fits_still (group.Items f) h = in_still a b f.site.slot more h
  fits_still (group.Nodes f) h = (in_still a b f.slot more h.0, h.1)

  pub all_still : (fs : List Frame) → All (FitsFrame a) fs → All (FitsFrame b) fs
  all_still fs all k d w = fits_frame (get_or fs k d) (all k d w)
    where
      fits_frame : (f : Frame) → FitsFrame a f → FitsFrame b f
      fits_frame f h = fits_still f.group h

all_cons : (t : Table) (x : Frame) (fs : List Frame) → FitsFrame t x → All (FitsFrame t) fs → All (FitsFrame t) (x ∷ fs)
all_cons t x fs p a zero d w = p
all_cons t x fs p a (suc k) d w = a k d (omega (arith, w))

pub all_init : (t : Table) (fs : List Frame) (f : Frame) → All (FitsFrame t) (fs ++ f ∷ []) → (All (FitsFrame t) fs) × FitsFrame t f
all_init t [] f a = (λ k d w. absurd (omega (arith, w)), a 0 f (omega arith))
all_init t (x ∷ fs) f a = let r = all_init t fs f (λ k d w. a (suc k) d (omega (arith, w))) in
    (all_cons t x fs (a 0 x (omega arith)) r.0, r.1)

-- ---- steps of the walk

module _ (g : Basis) (t u : Table) (more : Grows t u) where
  -- an object or a list is entered
  pub enter_inside : (fs : List Frame) (r : Reached) (i : Group) (now : Run) (whole : Part) (start : Run) → r ≡ reached.Inner i → Holds g t fs r now whole start
      → (p : Part) × Enters g t i p now × Inside g t fs p now whole start × Inside g u fs p now whole start
  enter_inside fs r i now whole start is h =
      let e : (now ≡ h.began) × Enters g t i h.inner h.began = subst (λ x. Reaches g t h.inner (Ok x) h.began now) is h.reaches in
      let inside : Inside g t fs h.inner now whole start = subst (λ z. Inside g t fs h.inner z whole start) (sym e.0) h.inside in
      (h.inner, subst (λ z. Enters g t i h.inner z) (sym e.0) e.1, inside, waits_still g t u more (reverse fs) h.inner now whole start inside)

  -- a value has ended, for which this frame waits
  pub resume_inside : (fs gs : List Frame) (f : Frame) (r : Reached) (e : Ended) (now : Run) (whole : Part) (start : Run) → r ≡ reached.Ended e → gs ≡ fs ++ f ∷ [] → Holds g t gs r now whole start
      → (inner : Part) × (began : Run) × (p : Part) × (s : Run) × Suspends g t f inner began p s × Done inner e began now × Inside g t fs p s whole start × Inside g u fs p s whole start
  resume_inside fs gs f r e now whole start is more_is h =
      let d : Done h.inner e h.began now = subst (λ x. Reaches g t h.inner (Ok x) h.began now) is h.reaches in
      let w : Waits g t (f ∷ reverse fs) h.inner h.began whole start = inside_less g t fs f h.inner h.began whole start (subst (λ ys. Inside g t ys h.inner h.began whole start) more_is h.inside) in
      (h.inner, h.began, w.0, w.1, w.2, d, w.3, waits_still g t u more (reverse fs) w.0 w.1 whole start w.3)

-- nothing waits for the first value
pub holds_first : (g : Basis) (t : Table) (fs : List Frame) (r : Reached) (now : Run) (whole : Part) (start : Run) → fs ≡ [] → Reaches g t whole (Ok r) start now → Holds g t fs r now whole start
holds_first g t fs r now whole start none reaches = subst (λ ys. Holds g t ys r now whole start) (sym none)
    (record { inner = whole; began = start; reaches = reaches; inside = (refl, refl) })

-- ---- a turn, before what waits is put on the stack

-- after a turn of what a stack and this that was reached wait for
pub record Turned (g : Basis) (t : Table) (gs : List Frame) (r : Reached) (s : Run) (u : Table) (fs : List Frame) (x : Turn) (v : Run) : Type 0 where
  pub right : IsRight g u
  pub grows : Grows t u
  pub left : v.left + counted_by x ≤ s.left
  pub frames : All (FitsFrame u) fs
  pub fits : FitsTurn u x
  pub steps : length fs + 1 ≡ length gs + inner_in r
  pub holds : (whole : Part) (start : Run) → Holds g t gs r s whole start → (inner : Part) × (began : Run) × Inside g u fs inner began whole start × Turns g u inner began (Ok x) v

-- the same, of what is equal
pub turned_at : (g : Basis) (t : Table) (gs : List Frame) (r : Reached) (s : Run) (u w : Table) (fs ys : List Frame) (x y : Turn) (v z : Run)
    → w ≡ u → ys ≡ fs → y ≡ x → z ≡ v → Turned g t gs r s u fs x v → Turned g t gs r s w ys y z
turned_at g t gs r s u w fs ys x y v z a b c d h = subst (λ q. Turned g t gs r s q ys y z) (sym a) (subst (λ q. Turned g t gs r s u q y z) (sym b)
    (subst (λ q. Turned g t gs r s u fs q z) (sym c) (subst (λ q. Turned g t gs r s u fs x q) (sym d) h)))

module _ (g : Basis) (t u : Table) (fs : List Frame) (r : Reached) (s v : Run) (x : Turn) (k : KeepsTurn g t u s v (Ok x)) where
  pub turned_entered : (i : Group) → r ≡ reached.Inner i → All (FitsFrame t) fs → ((whole : Part) → Enters g t i whole s → Turns g u whole s (Ok x) v) → Turned g t fs r s u fs x v
  turned_entered i is all does = record {
    right = k.right;
    grows = k.grows;
    left = k.left;
    frames = all_still t u k.grows fs all;
    fits = k.fits;
    steps = ap (λ y. length fs + inner_in y) (sym is);
    holds = λ whole start h. let w = enter_inside g t u k.grows fs r i s whole start is h in (w.0, s, w.3, does w.0 w.1);
  }

  pub turned_resumed : (gs : List Frame) (f : Frame) (e : Ended) → r ≡ reached.Ended e → gs ≡ fs ++ f ∷ [] → All (FitsFrame t) gs
      → ((inner : Part) (began : Run) (whole : Part) (start : Run) → Suspends g t f inner began whole start → Done inner e began s → Turns g u whole start (Ok x) v) → Turned g t gs r s u fs x v
  turned_resumed gs f e is more all does =
      let ended : inner_in r ≡ 0 = ap inner_in is in
      let longer : length gs ≡ length fs + 1 = ap length more ∙ length-append fs (f ∷ []) in record {
        right = k.right;
        grows = k.grows;
        left = k.left;
        frames = all_still t u k.grows fs (all_init t fs f (subst (All (FitsFrame t)) more all)).0;
        fits = k.fits;
        steps = omega (arith, ended, longer);
        holds = λ whole start h. let w = resume_inside g t u k.grows fs gs f r e s whole start is more h in (w.2, w.3, w.7, does w.0 w.1 w.2 w.3 w.4 w.5);
      }
