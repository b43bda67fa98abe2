use Rattle.std.proofs.Common.{◌≡◌, sym, length, arith}
use Rattle.std.proofs.lemmas.List.{take-append-drop}
use Rattle.gx_object.specs.Laws.EntryCuts.{no_mode, no_zero, no_name, no_id, entry_found}
use Rattle.gx_object.proofs.tree.decode.split_entry.Goals as goal

pub returns-in_err-mode : goal.returns-in_err-mode
returns-in_err-mode c =
    let cut = c.in_ok-digits.ensures in
    rw c.from_residual-in_err-mode.ensures (no_mode _ _ _ _ cut.0 cut.1 c.in_err-mode.ensures)

pub returns-in_err-filename : goal.returns-in_err-filename
returns-in_err-filename c =
    let cut = c.in_ok-digits.ensures in
    rw c.from_residual-in_err-filename.ensures (no_zero _ _ _ _ cut.0 cut.1 c.in_err-filename.ensures)

pub returns-then-is_empty : goal.returns-then-is_empty
returns-then-is_empty c =
    let cut = c.in_ok-digits.ensures in
    let name = c.in_ok-filename.ensures in
    let empty : length c.in_ok-filename.filename.now ≡ 0 = grind (arith, c.if-is_empty.ensures, c.if-is_empty.true) in
    no_name _ _ _ _ _ _ cut.0 cut.1 name.0 name.1 empty

pub returns-in_err-id : goal.returns-in_err-id
returns-in_err-id c =
    let cut = c.in_ok-digits.ensures in
    let name = c.in_ok-filename.ensures in
    rw c.from_residual-in_err-id.ensures (no_id _ _ _ _ _ _ cut.0 cut.1 name.0 name.1 (rw c.len_in_bytes.ensures at c.in_err-id.ensures.cases))

pub returns : goal.returns
returns c =
    let cut = c.in_ok-digits.ensures in
    let name = c.in_ok-filename.ensures in
    let split = c.in_ok-id.ensures.cases in
    let last = rw (← split.1, ← split.2) at (sym (take-append-drop c.len_in_bytes.result c.in_ok-filename.rest.now)) in
    let some : length c.in_ok-filename.filename.now ≡ 0 → _ = λ empty. grind (arith, c.if-is_empty.ensures, c.if-is_empty.false) in
    entry_found _ _ _ _ _ _ _ _ _ cut.0 name.0 last name.1 some c.in_ok-mode.ensures c.new.ensures (sym c.in_ok-from_bytes.ensures)
