use Rattle.std.proofs.Common.{◌≡◌, map, ap, sym, subst, ◌∙◌, true≢false}
use Rattle.std.specs.List.{AllByRecursion}
use Rattle.gx_object.specs.Tree.{tree_bytes}
use Rattle.gx_object.specs.TreeSpelling.{SpellsTree, entry_of}
use Rattle.gx_edit.specs.ReadMapCauses.{IsSound, AreRising}
use Rattle.gx_edit.proofs.ListingLemmas.{not_canonical}
use Rattle.gx_edit.proofs.stored_tree.listing.entries_of.Goals as goal

pub returns-in-Err-Decode : goal.returns-in-Err-Decode
returns-in-Err-Decode c = λ entries s. let only = c.in-Err-Decode.ensures.only entries s.spelled in cc

pub returns-then-not-branch : goal.returns-then-not-branch
returns-then-not-branch c =
    not_canonical c.args.hash c.args.bytes.now c.into_vec-entries.result.items (λ entries s. c.into_vec-entries.ensures ∙ c.in_ok-to_owned.ensures ∙ c.in-Ok.ensures.only entries s) (λ entries. c.args.bytes.now ≡ tree_bytes entries)
    (λ h. true≢false (sym (c.in_ok-is_written.ensures.1 (h ∙ ap tree_bytes (sym c.deref.ensures.value))) ∙ c.if-not-branch.true)) (λ entries s. s.written)

pub returns-then-not-are_sound : goal.returns-then-not-are_sound
returns-then-not-are_sound c =
    not_canonical c.args.hash c.args.bytes.now c.into_vec-entries.result.items (λ entries s. c.into_vec-entries.ensures ∙ c.in_ok-to_owned.ensures ∙ c.in-Ok.ensures.only entries s) (AllByRecursion IsSound)
    (λ h. true≢false (sym (c.are_sound.ensures.1 (subst (AllByRecursion IsSound) (sym c.deref-2.ensures.value) h)) ∙ c.if-not-are_sound.true)) (λ entries s. s.sound)

pub returns-then-not-are_rising : goal.returns-then-not-are_rising
returns-then-not-are_rising c =
    not_canonical c.args.hash c.args.bytes.now c.into_vec-entries.result.items (λ entries s. c.into_vec-entries.ensures ∙ c.in_ok-to_owned.ensures ∙ c.in-Ok.ensures.only entries s) AreRising
    (λ h. true≢false (sym (c.are_rising.ensures.1 (subst AreRising (sym c.deref-3.ensures.value) h)) ∙ c.if-not-are_rising.true)) (λ entries s. s.rising)

pub returns : goal.returns
returns c =
    let items : c.into_vec-entries.result.items ≡ map entry_of c.in-Ok.tree.entries = c.into_vec-entries.ensures ∙ c.in_ok-to_owned.ensures in
    record {
      spelled = subst (SpellsTree c.args.hash c.args.bytes.now) (sym items) c.in-Ok.ensures.ok;
      only = λ others s. items ∙ c.in-Ok.ensures.only others s;
      written = c.in_ok-is_written.ensures.0 c.if-not-branch.false ∙ ap tree_bytes c.deref.ensures.value;
      sound = subst (AllByRecursion IsSound) c.deref-2.ensures.value (c.are_sound.ensures.0 c.if-not-are_sound.false);
      rising = subst AreRising c.deref-3.ensures.value (c.are_rising.ensures.0 c.if-not-are_rising.false);
    }
