-- The directories that a plan has begun, from the root down.
use Rattle.std.proofs.Common.{◌≡◌, ℕ, ◌++◌, ◌+◌, ◌<◌, ◌*◌, List, [], ◌∷◌, length, refl, sym, ap, ◌∙◌, subst, arith, drop, length-append}
use Rattle.std.specs.List.{AllByRecursion}
use Rattle.std.proofs.lemmas.List.{length-map, map-append}
use Rattle.gx_hash.specs.declared.kind.HashKind.{HashKind}
use Rattle.gx_hash.specs.declared.oid.ObjectId.{ObjectId}
use Rattle.gx_object.specs.declared.kind.Kind.TheVariants as object_kind
use Rattle.gx_object.specs.Tree.{entry_bytes}
use Rattle.gx_edit.specs.Path.{Path, components}
use Rattle.gx_edit.specs.CanonicalTree.{Directory, IsCanonical, tree_of, trees_below}
use Rattle.gx_edit.specs.Planning.{leaves_of, row_at, rows_at, load, Reach, IsFrontGroup, Made, planned, with_tree, with_entry, made, IsPlan}
use Rattle.gx_edit.specs.declared.leaf.Leaf.{Leaf}
use Rattle.gx_edit.specs.declared.writing.groups.Row.{Row}
use Rattle.gx_edit.specs.declared.writing.plan.OpenDirectory.{OpenDirectory}
use Rattle.gx_edit.specs.declared.writing.plan.Plan.{Plan}
use Rattle.gx_edit.proofs.PlanLemmas.{nothing_made, tree_entry, IsAtRow, at_first, past_file, IsSub, sub_found, IsPlanned, past_sub, all_planned, trees_made, entries_made}

-- what is left to be planned after the directories that are begun
abbrev pub loads : List OpenDirectory → ℕ
loads [] = 0
loads (o ∷ os) = load o.at o.after.now + loads os

abbrev pub HaveReach : List OpenDirectory → Type 0
HaveReach = AllByRecursion (λ o. Reach o.at o.after.now)

loads-push : (os : List OpenDirectory) (o : OpenDirectory) → loads (os ++ o ∷ []) ≡ loads os + load o.at o.after.now
loads-push [] o = omega arith
loads-push (p ∷ os) o = omega (arith, loads-push os o)

pub HaveReach-push : (os : List OpenDirectory) (o : OpenDirectory) → HaveReach os → Reach o.at o.after.now → HaveReach (os ++ o ∷ [])
HaveReach-push [] o h r = (r, tt)
HaveReach-push (p ∷ os) o h r = (h.0, HaveReach-push os o h.1 r)

pub HaveReach-pop : (os : List OpenDirectory) (o : OpenDirectory) → HaveReach (os ++ o ∷ []) → HaveReach os × Reach o.at o.after.now
HaveReach-pop [] o h = (tt, h.0)
HaveReach-pop (p ∷ os) o h = let r = HaveReach-pop os o h.1 in ((h.0, r.0), r.1)

pub reach_others : (at : ℕ) (es : List Row) (e : Row) (others : List Row) → es ≡ e ∷ others → Reach at es → Reach at others
reach_others at es e others split r = (subst (Reach at) split r).1

pub no_entries : (es : List Row) → length es ≡ 0 → es ≡ []
no_entries [] e = refl
no_entries (x ∷ es) e = absurd (omega (arith, e))

-- The directory d was begun, and down the open ones the directory x, with what was made before each.
pub data Begun (hash : HashKind) : List OpenDirectory → Made → Made → Directory → Directory → Type 0 where
  here : (m : Made) (d : Directory) → Begun hash [] m m d d
  below : (o : OpenDirectory) (os : List OpenDirectory) (old mid new : Made) (d x : Directory) (ahead group : List (Path × Leaf)) (s : IsAtRow hash old mid ahead o.bytes.items d) (f : IsSub hash s o.name.now group (rows_at o.at o.after.now))
      → Begun hash os mid new f.inner x → Begun hash (o ∷ os) old new d x

module _ (hash : HashKind) where
  Begun-push : {os : List OpenDirectory} {old mid : Made} {d x : Directory} (o : OpenDirectory) (new : Made) (ahead group : List (Path × Leaf)) → Begun hash os old mid d x
      → (s : IsAtRow hash mid new ahead o.bytes.items x) → (f : IsSub hash s o.name.now group (rows_at o.at o.after.now)) → Begun hash (os ++ o ∷ []) old new d f.inner
  Begun-push o new ahead group (here m d) s f = below o [] m new new d f.inner ahead group s f (here new f.inner)
  Begun-push o new ahead group (below p os old mid next d x aheads groups t g b) s f = below p (os ++ o ∷ []) old mid new d f.inner aheads groups t g (Begun-push o new ahead group b s f)

  -- the innermost open directory, and what it stands in
  record IsInnermost (os : List OpenDirectory) (o : OpenDirectory) (old new : Made) (d x : Directory) : Type 0 where
    pub begun : Made
    pub outer : Directory
    pub canonical : IsCanonical outer
    pub chain : Begun hash os old begun d outer
    pub ahead : List (Path × Leaf)
    pub group : List (Path × Leaf)
    pub row : IsAtRow hash begun new ahead o.bytes.items outer
    pub sub : IsSub hash row o.name.now group (rows_at o.at o.after.now)
    pub inner : sub.inner ≡ x

  Begun-pop : (os : List OpenDirectory) (o : OpenDirectory) {old new : Made} {d x : Directory} → IsCanonical d → Begun hash (os ++ o ∷ []) old new d x → IsInnermost os o old new d x
  Begun-pop [] o ok (below _ _ old mid new d x ahead group s f (here m e)) = record { begun = old; outer = d; canonical = ok; chain = here old d; ahead = ahead; group = group; row = s; sub = f; inner = refl }
  Begun-pop (p ∷ os) o ok (below _ _ old mid new d x ahead group s f b) =
      let r = Begun-pop os o f.canonical b in
      record { begun = r.begun; outer = r.outer; canonical = r.canonical; chain = below p os old mid r.begun d r.outer ahead group s f r.chain; ahead = r.ahead; group = r.group; row = r.row; sub = r.sub; inner = r.inner }

  -- The plan of d has come to these rows of a directory at or below it.
  pub record IsPlanning (old new : Made) (os : List OpenDirectory) (ahead : List (Path × Leaf)) (bytes : List ℕ) (d : Directory) : Type 0 where
    pub begun : Made
    pub inner : Directory
    pub canonical : IsCanonical inner
    pub chain : Begun hash os old begun d inner
    pub row : IsAtRow hash begun new ahead bytes inner

  planning_first : (old : Made) (d : Directory) (ahead : List (Path × Leaf)) → IsCanonical d → leaves_of d ≡ ahead → IsPlanning old old [] ahead [] d
  planning_first old d ahead ok h = record { begun = old; inner = d; canonical = ok; chain = here old d; row = at_first hash old d ahead h }

  pub planning_start : (m : Made) (os : List OpenDirectory) (bytes : List ℕ) (d : Directory) (ahead : List (Path × Leaf)) → m ≡ nothing_made → os ≡ [] → bytes ≡ [] → IsCanonical d → leaves_of d ≡ ahead → IsPlanning nothing_made m os ahead bytes d
  planning_start m os bytes d ahead nothing none no_bytes ok h =
      subst (λ m. IsPlanning nothing_made m os ahead bytes d) (sym nothing)
      (subst (λ os. IsPlanning nothing_made nothing_made os ahead bytes d) (sym none)
      (subst (λ bytes. IsPlanning nothing_made nothing_made [] ahead bytes d) (sym no_bytes) (planning_first nothing_made d ahead ok h)))

  pub planning_file : {old mid : Made} {os : List OpenDirectory} {bytes : List ℕ} {d : Directory} (new : Made) (at : ℕ) (es : List Row) (e : Row) (others : List Row) (path more : List ℕ) → es ≡ e ∷ others → path ≡ drop at e.path.items
      → components path ≡ path ∷ [] → more ≡ bytes ++ entry_bytes (record { mode = e.leaf.mode; filename = path; oid = e.leaf.id }) → new ≡ with_entry (record { mode = e.leaf.mode; filename = path; oid = e.leaf.id }) mid
      → IsPlanning old mid os (rows_at at es) bytes d → IsPlanning old new os (rows_at at others) more d
  planning_file {mid = mid} {bytes = bytes} new at es e others path more split is one text entry w =
      let leaf : Leaf = e.leaf in
      let ahead : rows_at at es ≡ (path ∷ [], leaf) ∷ rows_at at others = ap (rows_at at) split ∙ ap (λ (p : Path). (p, leaf) ∷ rows_at at others) (ap components (sym is) ∙ one) in
      record {
        begun = w.begun;
        inner = w.inner;
        canonical = w.canonical;
        chain = w.chain;
        row = past_file hash w.begun mid new (rows_at at others) bytes more w.inner path leaf w.canonical text entry (subst (λ a. IsAtRow hash w.begun mid a bytes w.inner) ahead w.row);
      }

  planning_open : {old new : Made} {os : List OpenDirectory} {d : Directory} (o : OpenDirectory) (es group : List Row) → IsFrontGroup o.at es o.name.now group o.after.now
      → IsPlanning old new os (rows_at o.at es) o.bytes.items d → IsPlanning old new (os ++ o ∷ []) (rows_at (o.at + length o.name.now + 1) group) [] d
  planning_open {new = new} o es group g w =
      let below : ℕ = o.at + length o.name.now + 1 in
      let size : length (rows_at below group) ≡ length group = length-map group (row_at below) in
      let f = sub_found hash o.name.now (rows_at below group) (rows_at o.at o.after.now) w.canonical w.row g.split (g.counted ∙ sym size) (omega (arith, size, g.some)) in
      record { begun = new; inner = f.inner; canonical = f.canonical; chain = Begun-push o new (rows_at o.at es) (rows_at below group) w.chain w.row f; row = at_first hash new f.inner (rows_at below group) f.group_is }

  pub planning_opened : {old new : Made} {os : List OpenDirectory} {d : Directory} (all : List OpenDirectory) (o : OpenDirectory) (es group : List Row) (bytes : List ℕ) → all ≡ os ++ o ∷ [] → bytes ≡ [] → IsFrontGroup o.at es o.name.now group o.after.now
      → IsPlanning old new os (rows_at o.at es) o.bytes.items d → IsPlanning old new all (rows_at (o.at + length o.name.now + 1) group) bytes d
  planning_opened {old = old} {new = new} {d = d} all o es group bytes split none g w =
      subst (λ b. IsPlanning old new all (rows_at (o.at + length o.name.now + 1) group) b d) (sym none)
      (subst (λ os. IsPlanning old new os (rows_at (o.at + length o.name.now + 1) group) [] d) (sym split) (planning_open o es group g w))

  pub planning_ended : {old new : Made} {os : List OpenDirectory} {bytes : List ℕ} {d : Directory} (at : ℕ) (es : List Row) → length es ≡ 0 → IsPlanning old new os (rows_at at es) bytes d → IsPlanning old new os [] bytes d
  planning_ended {old = old} {new = new} {os = os} {bytes = bytes} {d = d} at es none w = subst (λ e. IsPlanning old new os (rows_at at e) bytes d) (no_entries es none) w

  -- the tree of the innermost directory
  pub planning_done : {old mid : Made} {os : List OpenDirectory} {bytes : List ℕ} {d : Directory} (new : Made) (id : ObjectId) (w : IsPlanning old mid os [] bytes d)
      → id ≡ (planned hash (object_kind.Tree, bytes)).id → new ≡ with_tree (planned hash (object_kind.Tree, bytes)) mid → IsPlanned hash w.begun new w.inner id
  planning_done new id w is tree = all_planned hash new id w.canonical w.row is tree

  pub planning_root : {old mid : Made} {os : List OpenDirectory} {bytes : List ℕ} {d : Directory} (new : Made) (id : ObjectId) → length os ≡ 0 → (w : IsPlanning old mid os [] bytes d) → IsPlanned hash w.begun new w.inner id → IsPlanned hash old new d id
  planning_root {old = old} {os = os} {d = d} new id none w h = go os none w.chain h
    where
      go : (os : List OpenDirectory) {m : Made} {x : Directory} → length os ≡ 0 → Begun hash os old m d x → IsPlanned hash m new x id → IsPlanned hash old new d id
      go [] none (here m d) h = h
      go (o ∷ os) none b h = absurd (omega (arith, none))

  pub planning_closed : {old mid : Made} {bytes : List ℕ} {d : Directory} {all : List OpenDirectory} (os : List OpenDirectory) (o : OpenDirectory) (next new : Made) (id : ObjectId) (more : List ℕ) → all ≡ os ++ o ∷ [] → IsCanonical d
      → (w : IsPlanning old mid all [] bytes d) → IsPlanned hash w.begun next w.inner id → more ≡ o.bytes.items ++ entry_bytes (tree_entry o.name.now id) → new ≡ with_entry (tree_entry o.name.now id) next → IsPlanning old new os (rows_at o.at o.after.now) more d
  planning_closed {old = old} {d = d} os o next new id more split ok w h text entry =
      let p = Begun-pop os o ok (subst (λ v. Begun hash v old w.begun d w.inner) split w.chain) in
      record { begun = p.begun; inner = p.outer; canonical = p.canonical; chain = p.chain; row = past_sub hash next new id more p.row p.sub (subst (λ x. IsPlanned hash w.begun next x id) (sym p.inner) h) text entry }

  -- what was planned of nothing is the directory's plan
  pub plan_done : (d : Directory) (plan : Plan) (id : ObjectId) → IsPlanned hash nothing_made (made plan) d id → IsPlan hash d plan id
  plan_done d plan id w = record {
    trees = ap (λ (m : Made). m.trees) w.all ∙ ap (λ t. t ++ planned hash (tree_of hash d) ∷ []) (trees_made hash d nothing_made) ∙ sym (map-append (planned hash) (trees_below hash d) (tree_of hash d ∷ []));
    entries = ap (λ (m : Made). m.entries) w.all ∙ entries_made hash d nothing_made;
    is_root = w.root;
  }

-- ---- the loop ends

pub all_reach : (rs : List Row) → Reach 0 rs
all_reach [] = tt
all_reach (r ∷ rs) = (omega arith, all_reach rs)

pub smaller_closed : (all os : List OpenDirectory) (o : OpenDirectory) (at : ℕ) (es : List Row) → all ≡ os ++ o ∷ [] → 2 * (load o.at o.after.now + loads os) + length os < 2 * (load at es + loads all) + length all
smaller_closed all os o at es split = let size : length all ≡ length os + 1 = ap length split ∙ length-append os (o ∷ []) in let sum : loads all ≡ loads os + load o.at o.after.now = ap loads split ∙ loads-push os o in omega (arith, size, sum)

pub smaller_opened : (all os : List OpenDirectory) (o : OpenDirectory) (at : ℕ) (es group : List Row) → all ≡ os ++ o ∷ [] → load at group + load o.at o.after.now < load o.at es → 2 * (load at group + loads all) + length all < 2 * (load o.at es + loads os) + length os
smaller_opened all os o at es group split h = let size : length all ≡ length os + 1 = ap length split ∙ length-append os (o ∷ []) in let sum : loads all ≡ loads os + load o.at o.after.now = ap loads split ∙ loads-push os o in omega (arith, size, sum, h)
