use Rattle.std.proofs.Common.{◌==◌, length, ap, ◌∙◌, sym, true≢false}
use Rattle.gx_edit.proofs.ListingLemmas.{has_none, has_some}
use Rattle.gx_edit.proofs.stored_tree.listing.is_name.Goals as goal

pub returns-then-not-has_no : goal.returns-then-not-has_no
returns-then-not-has_no c = (λ e. absurd (true≢false (sym e)), λ name. sym c.if-not-has_no.true ∙ c.has_no.ensures ∙ has_some 47 c.args.name.now name.no_slash)

pub returns : goal.returns
returns c = (
  λ e. record {
    not_empty = λ none. true≢false (sym (c.if-is_empty.ensures ∙ ap (λ l. length l == 0) none));
    no_slash = has_none 47 c.args.name.now (sym c.if-not-has_no.ensures);
    no_zero = has_none 0 c.args.name.now (sym c.has_no-2.ensures ∙ e);
  },
  λ name. c.has_no-2.ensures ∙ has_some 0 c.args.name.now name.no_zero,
)
