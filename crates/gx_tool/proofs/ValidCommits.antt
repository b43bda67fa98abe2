-- The commits of a run of the generator are made where they are valid.
use Rattle.std.proofs.Common.{◌≡◌, sym, refl, subst, ℕ, zero, suc, ◌+◌, ◌<◌, List, [], ◌∷◌, length, Option, Some, None, arith, ◌⊎◌, inl, inr}
use Rattle.gx_hash.specs.declared.oid.ObjectId.{ObjectId}
use Rattle.gix.specs.Held.{Held, Whole, BothTold, state_of}
use Rattle.gix.specs.View.{State}
use Rattle.gx_script.specs.declared.request.Request.TheVariants.{Commit}
use Rattle.gx_tool.specs.declared.reply.Reply.TheVariants.{Refused}
use Rattle.gx_tool.specs.declared.status.Status.{Status}
use Rattle.gx_tool.specs.declared.status.Status.TheVariants.{Done, Refusals, Malformed, ReadFault, WriteFault, NoMemory, BadWords, StoreFault, TooLong}
use Rattle.gx_tool.specs.CallLaws.{CallLaws}
use Rattle.gx_tool.specs.Completeness.{AreValidCommits, IsFaultlessScene, IsValid}
use Rattle.gx_tool.specs.Course.{code}
use Rattle.gx_tool.specs.Generating.{EndsSo, IsGenerated, IsRefused, Makes, Scene}
use Rattle.gx_tool.specs.Generator.{commit_after, commit_at, last_of, replies_of, requests_from, requests_of}
use Rattle.gx_tool.specs.Machine.{Run}
use Rattle.gx_tool.proofs.FaultlessLemmas.{all_stay, fault_rises}
use Rattle.gx_tool.proofs.ValidLemmas.{accepted_step}

next_valid : (count : ℕ) (old : Whole) (place : ℕ) (last : Option ObjectId) (ids : List ObjectId) (end : Whole) (at : ℕ) → AreValidCommits count old place last → Run old (requests_from place last ids) (replies_of ids) end → length ids < count → at ≡ place + length ids → IsValid end (Commit (commit_at at (last_of last ids)))
unfolding AreValidCommits Run requests_from replies_of
next_valid zero old place last ids end at valid run few is = absurd (omega (arith, few))
next_valid (suc count) old place last [] end at valid run few is =
    let same : at ≡ place = omega (arith, is) in
    subst (λ (e : Whole). IsValid e (Commit (commit_at at last))) (sym run) (subst (λ (n : ℕ). IsValid old (Commit (commit_at n last))) (sym same) valid.0)
next_valid (suc count) old place last (id ∷ ids) end at valid run few is =
    next_valid count run.0 (suc place) (Some id) ids end at (valid.1 id run.0 run.1) run.2 (omega (arith, few)) (omega (arith, is))

told_on : (R : State → State → Type 0) (told told' : Option State) (state : State) → told ≡ Some state → BothTold R told told' → (end : State) × (told' ≡ Some end) × R state end
told_on R told None state is h = absurd (subst (λ (t : Option State). BothTold R t None) is h)
told_on R told (Some end) state is h = (end, refl, subst (λ (t : Option State). BothTold R t (Some end)) is h)

not_refused : CallLaws → (count : ℕ) (start held now : Held) (state : State) (ids : List ObjectId) → Makes start ids held → state_of start.store ≡ Some state → AreValidCommits count (record { settings = start.settings; state = state }) 1 None → length ids < count → IsRefused ids held now → ⊥
not_refused laws count start held now state ids makes told valid few refused =
    let mid = told_on _ (state_of start.store) (state_of held.store) state told makes.machine in
    let end = told_on _ (state_of held.store) (state_of now.store) mid.0 mid.1 refused.reply.step in
    let next = next_valid count (record { settings = start.settings; state = state }) 1 None ids (record { settings = held.settings; state = mid.0 }) (suc (length ids)) valid mid.2 few (omega arith) in
    let ok = accepted_step laws (Commit (commit_after ids)) (record { settings = held.settings; state = mid.0 }) (Refused refused.refusal) (record { settings = now.settings; state = end.0 }) next end.2 in
    cc

ended : CallLaws → (count : ℕ) (start now : Scene) (state : State) (ids : List ObjectId) (lines out : List ℕ) (held : Held) (status : Status) → IsFaultlessScene start now → Makes start.held ids held → state_of start.held.store ≡ Some state → AreValidCommits count (record { settings = start.held.settings; state = state }) 1 None → EndsSo count start now ids lines out held status → (code status ≡ 0) ⊎ (code status ≡ 5)
ended laws count start now state ids lines out held Done f makes told valid e = inl refl
ended laws count start now state ids lines out held Refusals f makes told valid e = absurd (not_refused laws count start.held held now.held state ids makes told valid e.0.0 e.0.1)
ended laws count start now state ids lines out held Malformed f makes told valid e = absurd e
ended laws count start now state ids lines out held ReadFault f makes told valid e = absurd e
ended laws count start now state ids lines out held WriteFault f makes told valid e = absurd (f.sink e.2)
ended laws count start now state ids lines out held NoMemory f makes told valid e = inr refl
ended laws count start now state ids lines out held BadWords f makes told valid e = absurd e
ended laws count start now state ids lines out held StoreFault f makes told valid e =
    absurd (f.store.quiet (fault_rises laws start.held now.held held (Commit (commit_after ids)) e.1.0 f.store.readable (all_stay laws start.held (requests_of ids) (replies_of ids) held makes.run) e.1.1))
ended laws count start now state ids lines out held TooLong f makes told valid e = absurd e

pub valid_commits : CallLaws → (count : ℕ) (start now : Scene) (number : ℕ) (state : State) → IsGenerated count start now number → IsFaultlessScene start now → state_of start.held.store ≡ Some state → AreValidCommits count (record { settings = start.held.settings; state = state }) 1 None → (number ≡ 0) ⊎ (number ≡ 5)
valid_commits laws count start now number state g f told valid =
    let e = ended laws count start now state g.generates.ids _ g.generates.out g.generates.held g.status f g.generates.makes told valid g.generates.ends in
    subst (λ (n : ℕ). (n ≡ 0) ⊎ (n ≡ 5)) (sym g.is) e
