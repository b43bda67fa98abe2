-- What a step of a walk makes of what it is told.
use Rattle.std.proofs.Common.{◌≡◌, ◌↔◌, true, List, [], ◌∷◌, ◌++◌, sym, ap, ◌∙◌, subst, Some, IsSome, if◌then◌else◌}
use Rattle.gx_hash.specs.declared.oid.ObjectId.{ObjectId}
use Rattle.gx_store.specs.State.{StoreState}
use Rattle.gx_walk.specs.Causes.{CommitCauses}
use Rattle.gx_walk.specs.Course.{IfUnderWay, IsUnderWay, AreSets}
use Rattle.gx_walk.specs.Frontier.{is_excluded, IsAdmittedOf, IsBest, IsFrontier, Mentions, TakesBest, TakesNone}
use Rattle.gx_walk.specs.History.{History, Node, Told, cut, followed, parents_in, time_in, Reaches}
use Rattle.gx_hash.specs.ObjectIds.{has_id}
use Rattle.gx_walk.specs.Simple.{follow, mentioned, time_told, IsHidden, IsNamed, IsNextInfo, IsWhole}
use Rattle.gx_walk.specs.declared.commit.course.Course.{Course}
use Rattle.gx_walk.specs.declared.commit.frontier.Frontier.{Frontier}
use Rattle.gx_walk.specs.declared.commit.frontier.Sets.{Sets}
use Rattle.gx_walk.specs.declared.commit.info.Info.{Info}
use Rattle.gx_walk.specs.declared.commit.sorting.WalkOptions.{WalkOptions}
use Rattle.gx_walk.specs.declared.error.WalkError.{WalkError}
use Rattle.std.specs.Option.{is_some}
use Rattle.gx_walk.proofs.AskedLemmas.{Answers}
use Rattle.gx_walk.proofs.CourseLemmas.{inside, all_mentioned, asked_within_from, named_waiting, named_best, next_from_best, whole_from_spent, under_way_end, under_way_next}
use Rattle.gx_walk.proofs.TellLemmas.{told_all, told_then, told_both, causes_then}

-- ---- the sets that a walk goes by

-- sets with the same ids lead to the same
same_shallow : (history : History) (options : WalkOptions) (set : List ObjectId) → ((id : ObjectId) → has_id set id ≡ has_id options.shallow id)
    → followed history options.parents (has_id set) ≡ follow history options
same_shallow history options set same = ap (followed history options.parents) (λ i id. same id i)

pub hidden_from : (history : History) (options : WalkOptions) (set : List ObjectId) → ((id : ObjectId) → has_id set id ≡ has_id options.shallow id)
    → (id : ObjectId) → Reaches (followed history options.parents (has_id set)) options.hidden id → IsHidden history options id
hidden_from history options set same id h = subst (λ f. Reaches f options.hidden id) (same_shallow history options set same) h

pub sets_from : (history : History) (options : WalkOptions) (sets : Sets) → ((id : ObjectId) → has_id sets.shallow id ≡ has_id options.shallow id) → ((id : ObjectId) → has_id sets.boundary id ≡ has_id options.boundary id)
    → ((id : ObjectId) → (has_id sets.hidden id ≡ true) ↔ Reaches (followed history options.parents (has_id sets.shallow)) options.hidden id) → ((id : ObjectId) → has_id sets.hidden id ≡ true → IsSome (history id))
    → AreSets history options sets
sets_from history options sets shallow boundary exact commits =
    let hidden = λ (id : ObjectId). subst (λ f. (has_id sets.hidden id ≡ true) ↔ Reaches f options.hidden id) (same_shallow history options sets.shallow shallow) (exact id) in
    record { shallow = shallow; boundary = boundary; hidden = hidden; hidden_read = λ id h. commits id ((hidden id).1 h) }

-- ---- what is found once the pending ids were mentioned

module _ (state : StoreState) (options : WalkOptions) (old : Course) (f : Frontier) (waiting : List ObjectId) (same : waiting ≡ old.pending) where
  -- an error of a mention
  pub mention_named : (e : WalkError) → CommitCauses state (IsAdmittedOf old.sets f.asked.items waiting) e
      → CommitCauses state (λ id. IfUnderWay state options old (λ history. IsNamed history options f.asked.items old.listed.items id)) e
  mention_named e causes = causes_then state (IsAdmittedOf old.sets f.asked.items waiting)
      (λ id. IfUnderWay state options old (λ history. IsNamed history options f.asked.items old.listed.items id)) e
      (λ id of. told_all state (λ history. IsUnderWay history options old → IsNamed history options f.asked.items old.listed.items id)
      (λ history h. named_waiting history options old h f.asked.items waiting same id (of.among, of.inside, of.answered))) causes

  module _ (said : Told state (λ history. Mentions history options.sorting (is_excluded old.sets) waiting old.frontier f)) where
    -- all mentions are held
    abbrev Held : History → Type 0
    Held history = IsFrontier history options.sorting (is_excluded old.sets) (mentioned history options old.listed.items) old.listed.items f

    from_held : (P : History → Type 0) → ((history : History) → IsUnderWay history options old → Held history → P history) → IfUnderWay state options old P
    from_held P go = told_then state (λ history. Mentions history options.sorting (is_excluded old.sets) waiting old.frontier f) (λ history. IsUnderWay history options old → P history)
        (λ history m h. go history h (all_mentioned history options old h f waiting same m)) said

    from_both : (N P : History → Type 0) → Told state N → ((history : History) → N history → IsUnderWay history options old → Held history → P history) → IfUnderWay state options old P
    from_both N P told go = told_both state N (λ history. Mentions history options.sorting (is_excluded old.sets) waiting old.frontier f) (λ history. IsUnderWay history options old → P history)
        (λ history n m h. go history n h (all_mentioned history options old h f waiting same m)) told said

    -- nothing is left
    module _ (g : Frontier) (none : TakesNone f g) (more : Answers) (is : g.asked.items ≡ old.frontier.asked.items ++ more) where
      pub end_whole : IfUnderWay state options old (λ history. IsWhole history options g.asked.items old.listed.items)
      end_whole = from_held (λ history. IsWhole history options g.asked.items old.listed.items) (λ history h it.
          whole_from_spent history options old h g more is
          (none.kept history options.sorting (is_excluded old.sets) (mentioned history options old.listed.items) old.listed.items it)
          (none.none history options.sorting (is_excluded old.sets) (mentioned history options old.listed.items) old.listed.items it))

      pub end_kept : (new : Course) → new.frontier ≡ g → new.sets ≡ old.sets → new.listed.items ≡ old.listed.items → new.pending ≡ []
          → IfUnderWay state options old (λ history. IsUnderWay history options new)
      end_kept new front sets listed pending = from_held (λ history. IsUnderWay history options new) (λ history h it.
          under_way_end history options old h new more (ap (λ (w : Frontier). w.asked.items) front ∙ is) sets listed pending
          (subst (IsFrontier history options.sorting (is_excluded old.sets) (mentioned history options old.listed.items) old.listed.items) (sym front)
          (none.kept history options.sorting (is_excluded old.sets) (mentioned history options old.listed.items) old.listed.items it)))

    -- a commit was taken
    module _ (g : Frontier) (id : ObjectId) (taken : TakesBest f g id) where
      -- it can't be read
      pub read_named : (e : WalkError) → CommitCauses state (λ one. one ≡ id) e
          → CommitCauses state (λ one. IfUnderWay state options old (λ history. IsNamed history options g.asked.items old.listed.items one)) e
      read_named e causes = causes_then state (λ one. one ≡ id)
          (λ one. IfUnderWay state options old (λ history. IsNamed history options g.asked.items old.listed.items one)) e
          (λ one is. from_held (λ history. IsNamed history options g.asked.items old.listed.items one) (λ history h it.
          subst (IsNamed history options g.asked.items old.listed.items) (sym is)
          (named_best history options old h g.asked.items id
          (taken.best history options.sorting (is_excluded old.sets) (mentioned history options old.listed.items) old.listed.items it)))) causes

      -- it is read
      module _ (node : Node) (read : Told state (λ history. history id ≡ Some node)) (parents : List ObjectId) (followed_is : parents ≡ (if has_id old.sets.shallow id then [] else cut options.parents node.parents)) where
        follows : (history : History) → history id ≡ Some node → IsUnderWay history options old → parents ≡ follow history options id
        follows history at h = followed_is ∙ ap (λ b. if b then [] else cut options.parents node.parents) (h.sets.shallow id)
            ∙ ap (λ o. if has_id options.shallow id then [] else cut options.parents (parents_in o)) (sym at)

        pub next_info : (info : Info) → info.id ≡ id → info.parent_ids ≡ parents → info.commit_time ≡ time_told options.sorting node.time
            → IfUnderWay state options old (λ history. IsNextInfo history options g.asked.items old.listed.items info)
        next_info info is its time = from_both (λ history. history id ≡ Some node) (λ history. IsNextInfo history options g.asked.items old.listed.items info) read (λ history at h it.
            let best = taken.best history options.sorting (is_excluded old.sets) (mentioned history options old.listed.items) old.listed.items it in
            let kept = taken.kept history options.sorting (is_excluded old.sets) (mentioned history options old.listed.items) old.listed.items it in
            record {
              next = rw is (next_from_best history options old.sets h.sets g.asked.items old.listed.items id best);
              all_asked = λ one among clear shown. kept.answered one among (inside history options old.sets h.sets one clear shown);
              asked_within = asked_within_from history options old.sets h.sets old.listed.items (old.listed.items ++ id ∷ []) g kept;
              stored = rw is (ap is_some at);
              parents = rw is (its ∙ follows history at h);
              time = rw is (time ∙ ap (λ o. time_told options.sorting (time_in o)) (sym at));
            })

        pub next_kept : (new : Course) (more : Answers) → new.frontier ≡ g → g.asked.items ≡ old.frontier.asked.items ++ more → new.sets ≡ old.sets → new.listed.items ≡ old.listed.items ++ id ∷ [] → new.pending ≡ parents
            → IfUnderWay state options old (λ history. IsUnderWay history options new)
        next_kept new more front is sets listed pending = from_both (λ history. history id ≡ Some node) (λ history. IsUnderWay history options new) read (λ history at h it.
            under_way_next history options old h new more id (ap (λ (w : Frontier). w.asked.items) front ∙ is) sets listed (pending ∙ follows history at h) (ap is_some at)
            (subst (λ (w : Frontier). IsBest history options.sorting (is_excluded old.sets) w.asked.items (mentioned history options old.listed.items) old.listed.items id) (sym front)
            (taken.best history options.sorting (is_excluded old.sets) (mentioned history options old.listed.items) old.listed.items it))
            (subst (IsFrontier history options.sorting (is_excluded old.sets) (mentioned history options old.listed.items) (old.listed.items ++ id ∷ [])) (sym front)
            (taken.kept history options.sorting (is_excluded old.sets) (mentioned history options old.listed.items) old.listed.items it)))
