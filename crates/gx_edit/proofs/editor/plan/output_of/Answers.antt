use Rattle.std.proofs.Common.{◌≡◌, ◌∙◌, sym, ap, refl, subst, true, false, List, Contains}
use Rattle.std.specs.List.{list_all}
use Rattle.gx_object.specs.declared.tree.Entry.{Entry}
use Rattle.gx_object.specs.Tree.{is_writable_filename}
use Rattle.gx_edit.specs.EditorWriting.{AreSpelled}
use Rattle.gx_edit.proofs.EditorSpelled.{all_spelled, some_misspelt}
use Rattle.gx_edit.proofs.editor.plan.output_of.Goals as goal

pub returns-then-not-are_spelled-clause-causes : goal.returns-then-not-are_spelled-clause-causes
returns-then-not-are_spelled-clause-causes c =
    let entries : List Entry = c.plan_tree.new.planned.entries.items in
    let none : list_all (λ (entry : Entry). is_writable_filename entry.filename) entries ≡ false = ap (list_all (λ (entry : Entry). is_writable_filename entry.filename)) (sym c.deref.ensures.value) ∙ sym c.are_spelled.ensures ∙ c.if-not-are_spelled.true in
    let x = some_misspelt entries none in
    (refl, record { entry = x.0; among = subst (λ (l : List Entry). Contains l x.0) c.in_ok-root.ensures.1.entries x.1; is = x.2 })

pub returns-clause-spelled : goal.returns-clause-spelled
returns-clause-spelled c =
    let entries : List Entry = c.plan_tree.new.planned.entries.items in
    let all : list_all (λ (entry : Entry). is_writable_filename entry.filename) entries ≡ true = ap (list_all (λ (entry : Entry). is_writable_filename entry.filename)) (sym c.deref.ensures.value) ∙ sym c.are_spelled.ensures ∙ c.if-not-are_spelled.false in
    subst AreSpelled (sym c.new.ensures) (all_spelled entries all)
