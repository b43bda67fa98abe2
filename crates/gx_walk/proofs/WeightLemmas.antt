-- The traversal ends: no more trees can be begun than a list has room for, and each has no more entries than a list.
use Rattle.std.proofs.Common.{◌≡◌, ℕ, suc, zero, ◌+◌, ◌-◌, ◌*◌, ◌<◌, ◌≤◌, ◌^◌, List, [], ◌∷◌, ◌++◌, length, sym, ap, ◌∙◌, arith, add-one}
use Rattle.std.proofs.Math.Nat.{suc-mul, mul-le-mul_right}
use Rattle.gx_walk.specs.declared.tree.open_tree.OpenTree.{OpenTree}

-- more than any number of steps below an entry where so many trees have room below its own
unfoldable pub power : ℕ → ℕ
power zero = 1
power (suc room) = (2 ^ 64 + 2) * power room

-- how many of a tree's entries are left
abbrev pub left : OpenTree → ℕ
left tree = length tree.entries.items - tree.place

-- more than any number of steps of the reading that are left
abbrev pub weigh : ℕ → List OpenTree → OpenTree → ℕ
weigh room [] tree = left tree * power room
weigh room (level ∷ levels) tree = left level * power room + 1 + weigh (room - 1) levels tree

pub power_some : (room : ℕ) → 1 ≤ power room
unfolding power
power_some zero = omega arith
power_some (suc room) = let some : 1 ≤ power room = power_some room in omega arith

pub power_more : (room : ℕ) → power (room + 1) ≡ (2 ^ 64 + 2) * power room
unfolding power
power_more room = ap power (add-one room)

one_less : (a b p : ℕ) → a ≡ b + 1 → a * p ≡ b * p + p
one_less a b p e = ap (λ n. n * p) (e ∙ add-one b) ∙ suc-mul b p

at_most : (a p : ℕ) → a ≤ 2 ^ 64 → a * p ≤ 2 ^ 64 * p
at_most a p h = mul-le-mul_right p h

pub weigh_file : (room : ℕ) (levels : List OpenTree) (tree next : OpenTree) → left tree ≡ left next + 1 → weigh room levels next < weigh room levels tree
weigh_file room [] tree next less = let e = one_less (left tree) (left next) (power room) less in let some = power_some room in omega arith
weigh_file room (level ∷ levels) tree next less = let h = weigh_file (room - 1) levels tree next less in omega arith

pub weigh_close : (room : ℕ) (levels : List OpenTree) (above tree : OpenTree) → weigh room levels above < weigh room (levels ++ above ∷ []) tree
weigh_close room [] above tree = omega arith
weigh_close room (level ∷ levels) above tree = let h = weigh_close (room - 1) levels above tree in omega arith

pub weigh_open : (room : ℕ) (levels : List OpenTree) (tree next inner : OpenTree) → length levels < room → left tree ≡ left next + 1 → left inner ≤ 2 ^ 64 → weigh room (levels ++ next ∷ []) inner < weigh room levels tree
weigh_open zero [] tree next inner some less small = absurd (omega (arith, some))
weigh_open (suc room) [] tree next inner some less small =
    let e = one_less (left tree) (left next) (power (suc room)) less in
    let p : power (suc room) ≡ (2 ^ 64 + 2) * power room = ap power (sym (add-one room)) ∙ power_more room in
    let one : 1 ≤ power room = power_some room in
    let most : left inner * power room ≤ 2 ^ 64 * power room = at_most (left inner) (power room) small in
    let same : power (suc room - 1) ≡ power room = ap power (omega arith) in
    let rest : left inner * power (suc room - 1) ≡ left inner * power room = ap (λ q. left inner * q) same in
    omega arith
weigh_open room (level ∷ levels) tree next inner some less small = let h = weigh_open (room - 1) levels tree next inner (omega (arith, some)) less small in omega arith
