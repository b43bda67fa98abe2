-- For the private functions alone: the answer of edits, along each way.
use Rattle.std.specs.Prelude.{false, List, [], ◌∷◌, ◌++◌, Some}
use Rattle.std.specs.List.{flat_map}
use Rattle.gx_store.specs.declared.target.Target.TheVariants as target
use Rattle.gx_refs.specs.Answer.{change_from, log_alone}
use Rattle.gx_refs.specs.declared.edit.Change.{Change}
use Rattle.gx_refs.specs.declared.edit.Change.TheVariants.{Update, Delete}
use Rattle.gx_refs.specs.declared.edit.RefEdit.{RefEdit}
use Rattle.gx_refs.specs.declared.plan.Place.{Place}
use Rattle.gx_refs.specs.declared.plan.Way.{Way}
use Rattle.gx_refs.specs.declared.plan.Plan.{Plan}

-- the edit of one place, without following
abbrev pub answer_at : Place → Change → RefEdit
answer_at place change = record { change = change; name = place.shown; deref = false }

-- a symbolic reference on the way, which leads to the next
abbrev pub answer_before : Change → Place → Place → RefEdit
answer_before change place next = answer_at place (change_from (log_alone change) (Some (target.Symbolic next.shown)))

-- along the places before an end, each of which leads to the next
abbrev pub answers_before : Change → List Place → Place → List RefEdit
answers_before change [] end = []
answers_before change (place ∷ []) end = answer_before change place end ∷ []
answers_before change (place ∷ next ∷ more) end =
    answer_before change place next ∷ answers_before change (next ∷ more) end

-- the answer along some places before the end, and at the end
abbrev pub answers_along : Change → List Place → Way → List RefEdit
answers_along change before way =
    answers_before change before way.end ++ answer_at way.end (change_from change way.shown) ∷ []

-- An update answers each place of its way, and a deletion the end alone.
abbrev pub answers_by : Change → Way → List RefEdit
answers_by (Update log expected new) way = answers_along (Update log expected new) way.before way
answers_by (Delete expected log) way = answers_along (Delete expected log) [] way

-- the answer of all edits, in order
abbrev pub answers : List Plan → List RefEdit
answers plans = flat_map (λ (plan : Plan). answers_by plan.edit.change plan.way) plans
