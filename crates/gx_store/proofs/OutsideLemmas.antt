-- Bytes that are taken from a source in memory.
use Rattle.std.proofs.Common.{◌≡◌, ◌∙◌, sym, ap, ℕ, ◌+◌, ◌≤◌, List, ◌++◌, length, take, drop, arith, take-append-drop}
use Rattle.std.proofs.lemmas.List.{take_at, drop-drop, length-take-le, length-drop}

-- What a read copied stands at the front of what was left.
pub read_part : (s buf front : List ℕ) (place n : ℕ) → n + place ≤ length s → front ≡ take n (drop place s) → drop place s ≡ take n (front ++ drop n buf) ++ drop (place + n) s
read_part s buf front place n fits is =
    let long : length front ≡ n = ap length is ∙ length-take-le n (drop place s) (simp length-drop (omega arith)) in
    sym (ap (λ l. l ++ drop (place + n) s) (take_at front (drop n buf) n long ∙ is)
    ∙ ap (λ l. take n (drop place s) ++ l) (sym (drop-drop n place s))
    ∙ take-append-drop n (drop place s))
