-- Bytes that are taken or written one after another.
use Rattle.std.proofs.Common.{◌∙◌, sym, ap, refl, ℕ, ◌≤◌, List, [], ◌++◌, Option, Some, None, arith, append_assoc}
use Rattle.gx_store.specs.Faults.{Rose}
use Rattle.gx_store.specs.Outside.{Takes}

pub takes_none : (a : Option (List ℕ)) → Takes a a []
takes_none None = tt
takes_none (Some a) = refl

pub takes_then : (a b c : Option (List ℕ)) (xs ys : List ℕ) → Takes a b xs → Takes b c ys → Takes a c (xs ++ ys)
takes_then None None None xs ys p q = tt
takes_then None None (Some c) xs ys p q = absurd q
takes_then None (Some b) c xs ys p q = absurd p
takes_then (Some a) None c xs ys p q = absurd p
takes_then (Some a) (Some b) None xs ys p q = absurd q
takes_then (Some a) (Some b) (Some c) xs ys p q = p ∙ ap (λ l. xs ++ l) q ∙ sym (append_assoc xs ys c)

pub rose_before : (a b c : ℕ) → a ≤ b → Rose b c → Rose a c
rose_before a b c p q = omega arith

pub rose_then : (a b c : ℕ) → Rose a b → b ≤ c → Rose a c
rose_then a b c p q = omega arith
