-- Maps of slots, and what changes of slots make of references and logs.
use Rattle.std.proofs.Common.{◌≡◌, ◌≢◌, ◌∙◌, sym, ap, refl, subst, Bool, true, false, cond, List, [], ◌∷◌, ◌++◌, ℕ, Option, Some, None, IsSomeAnd, ◌⊎◌, inl, inr, option_and_then, is_some}
use Rattle.std.specs.declared.cmp.Ordering.{Ordering}
use Rattle.std.specs.declared.cmp.Ordering.TheVariants.{Less, Equal, Greater}
use Rattle.std.specs.Ordering.{eq_by_cmp, is_eq}
use Rattle.std.specs.Cmp.{IsTotalOrder, eq_by_cmp_equiv}
use Rattle.std.specs.Cmp.Lexicographic.{nat_list_cmp_total}
use Rattle.std.specs.List.{AllByRecursion}
use Rattle.std.specs.Map.{lookup}
use Rattle.std.specs.BTreeMap.{BTreeMap, is_at}
use Rattle.std.specs.BTreeMap as tree
use Rattle.std.specs.FinMap.{FinMap, IsAntisymmetric, get, get-empty, get-insert, get-remove, get_tied, same_map}
use Rattle.gx_rules.specs.Name.{name_cmp}
use Rattle.gx_store.specs.State.{RefState}
use Rattle.gx_store.specs.Change.{with_target, with_log, log_after, refs_after, HaveDistinctNames}
use Rattle.gx_store.specs.Slots.{with_at, parts, target_in, log_in, refs_of, room_of, FitsIn, HasRoom, KeepsRoom, KeepsOthersRoom, AreReady, with_change}
use Rattle.gx_store.specs.Change.{target_after}
use Rattle.gx_store.specs.declared.target.Target.{Target}
use Rattle.gx_store.specs.declared.log_line.LogLine.{LogLine}
use Rattle.gx_store.specs.declared.change.TargetChange.{TargetChange}
use Rattle.gx_store.specs.declared.change.TargetChange.TheVariants as target_change
use Rattle.gx_store.specs.declared.change.LogAct.{LogAct}
use Rattle.gx_store.specs.declared.change.LogAct.TheVariants as log_act
use Rattle.gx_store.specs.declared.change.RefChange.{RefChange}
use Rattle.gx_store.specs.declared.slots.Slot.{Slot}
use Rattle.gx_store.proofs.MapLemmas.{exact_names}

pub get_with_at : {K X : Type 0} {R : K → K → Ordering} → IsTotalOrder R → (m : FinMap R X) (k : K) (o : Option X) (q : K) → get (with_at m k o) q ≡ cond (eq_by_cmp R q k) o (get m q)
get_with_at total m k None q = get-remove total m k q
get_with_at total m k (Some x) q = get-insert total m k x q

spread : {X Y : Type 0} (part : X → Option Y) (b : Bool) (v o : Option X) → option_and_then part (cond b v o) ≡ cond b (option_and_then part v) (option_and_then part o)
spread part true v o = refl
spread part false v o = refl

-- a part at a key is the part of what stands there
pub get_parts : {K X Y : Type 0} {R : K → K → Ordering} → IsTotalOrder R → (part : X → Option Y) (es : List (K × X)) (q : K) → get (parts {R = R} part es) q ≡ option_and_then part (lookup (is_at (R q)) es)
get_parts {R = R} total part [] q = get-empty R q
get_parts {R = R} total part (e ∷ es) q =
    get_with_at total (parts part es) e.0 (part e.1) q ∙ ap (cond (eq_by_cmp R q e.0) (part e.1)) (get_parts total part es q)
    ∙ sym (spread part (is_at (R q) e.0) (Some e.1) (lookup (is_at (R q)) es))

-- the same of names
pub get_names : {Y : Type 0} (part : Slot → Option Y) (es : List (List ℕ × Slot)) (q : List ℕ) → get (parts {R = name_cmp} part es) q ≡ option_and_then part (lookup (is_at (name_cmp q)) es)
get_names part es q = get_parts nat_list_cmp_total part es q

-- entries that differ at one key have parts that differ there
pub parts_changed : {K X Y : Type 0} {R : K → K → Ordering} → IsTotalOrder R → IsAntisymmetric R → (part : X → Option Y) (es fs : List (K × X)) (k : K) (v : Option X)
    → ((q : K) → lookup (is_at (R q)) fs ≡ cond (is_at (R k) q) v (lookup (is_at (R q)) es)) → parts {R = R} part fs ≡ with_at (parts part es) k (option_and_then part v)
parts_changed {R = R} total exact part es fs k v h = same_map total exact _ _ (λ q.
    get_parts total part fs q ∙ ap (option_and_then part) (h q) ∙ spread part (is_at (R k) q) v (lookup (is_at (R q)) es)
    ∙ ap (λ b. cond b (option_and_then part v) (option_and_then part (lookup (is_at (R q)) es))) ((eq_by_cmp_equiv total).symm k q)
    ∙ sym (get_with_at total (parts part es) k (option_and_then part v) q ∙ ap (cond (eq_by_cmp R q k) (option_and_then part v)) (get_parts total part es q)))

pub tied : (r : Ordering) → is_eq r ≡ true → r ≡ Equal
tied Less e = cc
tied Equal e = refl
tied Greater e = cc

same_there : {K X : Type 0} {R : K → K → Ordering} (total : IsTotalOrder R) (m : FinMap R X) (k q : K) (b : Bool) → eq_by_cmp R q k ≡ b → cond b (get m k) (get m q) ≡ get m q
same_there total m k q true e = get_tied total m q k (tied _ e)
same_there total m k q false e = refl

-- what is there already
pub with_at-same : {K X : Type 0} {R : K → K → Ordering} → IsTotalOrder R → IsAntisymmetric R → (m : FinMap R X) (k : K) → with_at m k (get m k) ≡ m
with_at-same total exact m k = same_map total exact _ _ (λ q. get_with_at total m k (get m k) q ∙ same_there total m k q _ refl)

same_or_other : (b : Bool) (name q : List ℕ) → is_at (name_cmp name) q ≡ b → (name ≡ q) ⊎ (is_at (name_cmp name) q ≡ false)
same_or_other true name q e = inl (exact_names name q (tied _ e))
same_or_other false name q e = inr e

other_at : (b : Bool) (name q : List ℕ) → is_at (name_cmp name) q ≡ b → q ≢ name → is_at (name_cmp name) q ≡ false
other_at true name q e h = absurd (h (sym (exact_names name q (tied _ e))))
other_at false name q e h = e

module _ (old new : BTreeMap (List ℕ) Slot) (name : List ℕ) (v : Option Slot) where
  -- new has v at the name, and else what old has
  abbrev pub Differs : Type 0
  Differs = (q : List ℕ) → tree.get name_cmp new q ≡ cond (is_at (name_cmp name) q) v (tree.get name_cmp old q)

  part_same : {Y : Type 0} (part : Slot → Option Y) → Differs → option_and_then part v ≡ option_and_then part (tree.get name_cmp old name) → parts {R = name_cmp} part new.entries ≡ parts part old.entries
  part_same part h e =
      parts_changed nat_list_cmp_total exact_names part old.entries new.entries name v h
      ∙ ap (with_at (parts part old.entries) name) (e ∙ sym (get_parts nat_list_cmp_total part old.entries name))
      ∙ with_at-same nat_list_cmp_total exact_names (parts part old.entries) name

  -- a slot that means the same
  pub refs_same : Differs → option_and_then target_in v ≡ option_and_then target_in (tree.get name_cmp old name) → option_and_then log_in v ≡ option_and_then log_in (tree.get name_cmp old name) → refs_of new ≡ refs_of old
  refs_same h e f = λ i. record { targets = part_same target_in h e i; logs = part_same log_in h f i }

  -- a slot that has no less room
  pub room_kept : Differs → ((room : ℕ) → IsSomeAnd (tree.get name_cmp old name) (FitsIn room) → IsSomeAnd v (FitsIn room)) → KeepsRoom old new
  room_kept h more q room had = go (same_or_other _ name q refl)
    where
      go : (name ≡ q) ⊎ (is_at (name_cmp name) q ≡ false) → HasRoom new q room
      go (inl e) = subst (λ x. HasRoom new x room) e (subst (λ o. IsSomeAnd o (FitsIn room)) (sym (h name ∙ ap (λ b. cond b v (tree.get name_cmp old name)) ((eq_by_cmp_equiv nat_list_cmp_total).refl name)))
          (more room (subst (λ x. HasRoom old x room) (sym e) had)))
      go (inr e) = subst (λ o. IsSomeAnd o (FitsIn room)) (sym (h q ∙ ap (λ b. cond b v (tree.get name_cmp old q)) e)) had

  -- the room at the other names
  pub others_kept : Differs → KeepsOthersRoom name old new
  others_kept h q room apart had = subst (λ o. IsSomeAnd o (FitsIn room)) (sym (h q ∙ ap (λ b. cond b v (tree.get name_cmp old q)) (other_at _ name q refl apart))) had

pub with_target-at : (name : List ℕ) (change : TargetChange) (targets : FinMap name_cmp Target) → with_target name change targets ≡ with_at targets name (target_after change (get targets name))
with_target-at name target_change.Keep targets = sym (with_at-same nat_list_cmp_total exact_names targets name)
with_target-at name (target_change.Set target) targets = refl
with_target-at name target_change.Remove targets = refl

pub with_log-at : (name : List ℕ) (act : LogAct) (logs : FinMap name_cmp (List LogLine)) → with_log name act logs ≡ with_at logs name (log_after act (get logs name))
with_log-at name log_act.Keep logs = sym (with_at-same nat_list_cmp_total exact_names logs name)
with_log-at name (log_act.Append line) logs = refl
with_log-at name log_act.Remove logs = refl

-- a slot in which a change is made
pub refs_changed : (old new : BTreeMap (List ℕ) Slot) (change : RefChange) (s t : Slot) → Differs old new change.name (Some t) → tree.get name_cmp old change.name ≡ Some s
    → t.target ≡ target_after change.target s.target → log_in t ≡ log_after change.log (log_in s) → refs_of new ≡ with_change change (refs_of old)
refs_changed old new change s t h was e f = λ i. record { targets = targets i; logs = logs i }
  where
    targets : parts {R = name_cmp} target_in new.entries ≡ with_target change.name change.target (parts target_in old.entries)
    targets = parts_changed nat_list_cmp_total exact_names target_in old.entries new.entries change.name (Some t) h
        ∙ ap (with_at (parts target_in old.entries) change.name) (e ∙ ap (target_after change.target) (sym (get_parts nat_list_cmp_total target_in old.entries change.name ∙ ap (option_and_then target_in) was)))
        ∙ sym (with_target-at change.name change.target (parts target_in old.entries))

    logs : parts {R = name_cmp} log_in new.entries ≡ with_log change.name change.log (parts log_in old.entries)
    logs = parts_changed nat_list_cmp_total exact_names log_in old.entries new.entries change.name (Some t) h
        ∙ ap (with_at (parts log_in old.entries) change.name) (f ∙ ap (log_after change.log) (sym (get_parts nat_list_cmp_total log_in old.entries change.name ∙ ap (option_and_then log_in) was)))
        ∙ sym (with_log-at change.name change.log (parts log_in old.entries))

none_there : {X : Type 0} (o : Option X) → is_some o ≡ false → o ≡ None
none_there None e = refl
none_there (Some x) e = cc

pub ready_kept : (old new : BTreeMap (List ℕ) Slot) → KeepsRoom old new → (changes : List RefChange) → AreReady old changes → AreReady new changes
ready_kept old new keeps [] h = tt
ready_kept old new keeps (change ∷ changes) h = (keeps change.name (room_of change.log) h.0, ready_kept old new keeps changes h.1)

pub ready_more : (map : BTreeMap (List ℕ) Slot) (changes : List RefChange) (change : RefChange) → AreReady map changes → HasRoom map change.name (room_of change.log) → AreReady map (changes ++ change ∷ [])
ready_more map [] change h more = (more, tt)
ready_more map (first ∷ changes) change h more = (h.0, ready_more map changes change h.1 more)

pub ready_others : (but : List ℕ) (old new : BTreeMap (List ℕ) Slot) → KeepsOthersRoom but old new → (changes : List RefChange) → AllByRecursion (λ other. other.name ≢ but) changes → AreReady old changes → AreReady new changes
ready_others but old new keeps [] apart h = tt
ready_others but old new keeps (change ∷ changes) apart h = (keeps change.name (room_of change.log) apart.0 h.0, ready_others but old new keeps changes apart.1 h.1)

-- an empty slot, made where there was none
pub slot_made : (old new : BTreeMap (List ℕ) Slot) (name : List ℕ) (slot : Slot) → Differs old new name (Some slot) → is_some (tree.get name_cmp old name) ≡ false
    → slot.target ≡ None → log_in slot ≡ None → (refs_of new ≡ refs_of old) × KeepsRoom old new
slot_made old new name slot h was e f =
    let gone : tree.get name_cmp old name ≡ None = none_there (tree.get name_cmp old name) was in (
      refs_same old new name (Some slot) h (e ∙ ap (option_and_then target_in) (sym gone)) (f ∙ ap (option_and_then log_in) (sym gone)),
      room_kept old new name (Some slot) h (λ room had. absurd (subst (λ o. IsSomeAnd o (FitsIn room)) gone had)),
    )

-- a slot that means the same and has no less room
pub slot_reserved : (old new : BTreeMap (List ℕ) Slot) (name : List ℕ) (s t : Slot) → Differs old new name (Some t) → Some s ≡ tree.get name_cmp old name
    → t.target ≡ s.target → log_in t ≡ log_in s → ((room : ℕ) → FitsIn room s → FitsIn room t) → (refs_of new ≡ refs_of old) × KeepsRoom old new
slot_reserved old new name s t h was e f more = (
  refs_same old new name (Some t) h (e ∙ ap (option_and_then target_in) was) (f ∙ ap (option_and_then log_in) was),
  room_kept old new name (Some t) h (λ room had. more room (subst (λ o. IsSomeAnd o (FitsIn room)) (sym was) had)),
)

-- one of the changes that are left is made
pub one_made : (old new : BTreeMap (List ℕ) Slot) (change : RefChange) (rest all : List RefChange) (wanted : RefState) → all ≡ change ∷ rest → HaveDistinctNames all → AreReady old all → refs_after all (refs_of old) ≡ wanted
    → refs_of new ≡ with_change change (refs_of old) → KeepsOthersRoom change.name old new → HaveDistinctNames rest × AreReady new rest × (refs_after rest (refs_of new) ≡ wanted)
one_made old new change rest all wanted is apart ready leads made keeps =
    let apart' = subst HaveDistinctNames is apart in
    let ready' = subst (AreReady old) is ready in
    (apart'.1, ready_others change.name old new keeps rest apart'.0 ready'.1, ap (refs_after rest) made ∙ ap (λ xs. refs_after xs (refs_of old)) (sym is) ∙ leads)

-- an empty slot is taken out
pub slot_gone : (old new : BTreeMap (List ℕ) Slot) (name : List ℕ) (slot : Slot) → Differs old new name None → Some slot ≡ tree.get name_cmp old name → slot.target ≡ None → log_in slot ≡ None → refs_of new ≡ refs_of old
slot_gone old new name slot h was e f = refs_same old new name None h (sym e ∙ ap (option_and_then target_in) was) (sym f ∙ ap (option_and_then log_in) was)
