-- What is told, where it is.
use Rattle.std.proofs.Common.{Option, Some, None, IfSome}

pub told_with : {T : Type 0} {P Q : T → Type 0} (told : Option T) → ((x : T) → P x → Q x) → IfSome told P → IfSome told Q
told_with None f h = tt
told_with (Some x) f h = f x h

pub told_both : {T : Type 0} {P Q R : T → Type 0} (told : Option T) → ((x : T) → P x → Q x → R x) → IfSome told P → IfSome told Q → IfSome told R
told_both None f h k = tt
told_both (Some x) f h k = f x h k
