-- What the trees that are entered and not left have ahead.
use Rattle.std.proofs.Common.{◌≡◌, ℕ, suc, zero, ◌+◌, ◌≤◌, ◌<◌, ◌++◌, List, [], ◌∷◌, take, drop, length, get_or, refl, sym, ap, ap₂, ◌∙◌, arith, append_assoc, drop-cons, add-one}
use Rattle.std.proofs.lemmas.List.{drop_all}
use Rattle.gx_hash.specs.declared.oid.ObjectId.{ObjectId}
use Rattle.gx_object.specs.declared.tree.Entry.{Entry}
use Rattle.gx_walk.specs.Traversal.{Task, visits_of}
use Rattle.gx_walk.specs.Traversal.Task.{Visit}
use Rattle.gx_walk.specs.OpenTree.{above_of}
use Rattle.gx_walk.specs.declared.tree.open_tree.OpenTree.{OpenTree}

-- the entries that are left of a tree
abbrev pub left_of : List ObjectId → OpenTree → List ℕ → List Task
left_of above t path = visits_of above (take t.at path) (drop t.place t.entries.items)

-- the entries that are left of all trees, of the innermost first
abbrev pub ahead_of : List ObjectId → List OpenTree → OpenTree → List ℕ → List Task
ahead_of front [] t path = left_of (front ++ t.id ∷ []) t path
ahead_of front (l ∷ ls) t path = ahead_of (front ++ l.id ∷ []) ls t path ++ left_of (front ++ l.id ∷ []) l path

-- each tree's path is no longer than that of the next one
abbrev pub Rise : ℕ → List OpenTree → OpenTree → Type 0
Rise low [] t = low ≤ t.at
Rise low (l ∷ ls) t = (low ≤ l.at) × Rise l.at ls t

-- the tree with one entry fewer ahead
abbrev pub next_of : OpenTree → OpenTree
next_of t = record { id = t.id; entries = t.entries; place = t.place + 1; at = t.at }

pub rest_of : (es : List Entry) (i : ℕ) (e : Entry) → i < length es → e ≡ get_or es i e → drop i es ≡ e ∷ drop (i + 1) es
rest_of es i e less is = drop-cons es i e less ∙ ap₂ (λ (x : Entry) (n : ℕ). x ∷ drop n es) (sym is) (sym (add-one i))

pub ahead_next : (front : List ObjectId) (ls : List OpenTree) (t : OpenTree) (path : List ℕ) (e : Entry) → t.place < length t.entries.items → e ≡ get_or t.entries.items t.place e →
    ahead_of front ls t path ≡ Visit (above_of front ls t) (take t.at path) e ∷ ahead_of front ls (next_of t) path
ahead_next front [] t path e less is = ap (visits_of (front ++ t.id ∷ []) (take t.at path)) (rest_of t.entries.items t.place e less is)
ahead_next front (l ∷ ls) t path e less is = ap (λ ts. ts ++ left_of (front ++ l.id ∷ []) l path) (ahead_next (front ++ l.id ∷ []) ls t path e less is)

pub above_next : (front : List ObjectId) (ls : List OpenTree) (t : OpenTree) → above_of front ls (next_of t) ≡ above_of front ls t
above_next front [] t = refl
above_next front (l ∷ ls) t = above_next (front ++ l.id ∷ []) ls t

pub ahead_push : (front : List ObjectId) (ls : List OpenTree) (t inner : OpenTree) (path : List ℕ) →
    ahead_of front (ls ++ t ∷ []) inner path ≡ left_of (above_of front ls t ++ inner.id ∷ []) inner path ++ ahead_of front ls t path
ahead_push front [] t inner path = refl
ahead_push front (l ∷ ls) t inner path =
    ap (λ ts. ts ++ left_of (front ++ l.id ∷ []) l path) (ahead_push (front ++ l.id ∷ []) ls t inner path)
    ∙ append_assoc (left_of (above_of (front ++ l.id ∷ []) ls t ++ inner.id ∷ []) inner path) (ahead_of (front ++ l.id ∷ []) ls t path) (left_of (front ++ l.id ∷ []) l path)

pub none_left : (above : List ObjectId) (t : OpenTree) (path : List ℕ) → length t.entries.items ≤ t.place → left_of above t path ≡ []
none_left above t path end = ap (visits_of above (take t.at path)) (drop_all t.place t.entries.items end)

pub ahead_close : (ls : List OpenTree) (t inner : OpenTree) (path : List ℕ) → length inner.entries.items ≤ inner.place → ahead_of [] (ls ++ t ∷ []) inner path ≡ ahead_of [] ls t path
ahead_close ls t inner path end = ahead_push [] ls t inner path ∙ ap (λ ts. ts ++ ahead_of [] ls t path) (none_left (above_of [] ls t ++ inner.id ∷ []) inner path end)

pub rise_low : (low : ℕ) (ls : List OpenTree) (t : OpenTree) → Rise low ls t → low ≤ t.at
rise_low low [] t h = h
rise_low low (l ∷ ls) t h = let m = rise_low l.at ls t h.1 in omega (arith, h.0, m)

pub rise_next : (low : ℕ) (ls : List OpenTree) (t : OpenTree) → Rise low ls t → Rise low ls (next_of t)
rise_next low [] t h = h
rise_next low (l ∷ ls) t h = (h.0, rise_next l.at ls t h.1)

pub rise_push : (low : ℕ) (ls : List OpenTree) (t inner : OpenTree) → t.at ≤ inner.at → Rise low ls t → Rise low (ls ++ t ∷ []) inner
rise_push low [] t inner more h = (h, more)
rise_push low (l ∷ ls) t inner more h = (h.0, rise_push l.at ls t inner more h.1)

pub rise_pop : (low : ℕ) (ls : List OpenTree) (t inner : OpenTree) → Rise low (ls ++ t ∷ []) inner → Rise low ls t × (t.at ≤ inner.at)
rise_pop low [] t inner h = h
rise_pop low (l ∷ ls) t inner h = let r = rise_pop l.at ls t inner h.1 in ((h.0, r.0), r.1)

pub take_shorter : (m n : ℕ) (xs : List ℕ) → m ≤ n → take m (take n xs) ≡ take m xs
take_shorter zero n xs h = refl
take_shorter (suc m) zero xs h = absurd (omega (arith, h))
take_shorter (suc m) (suc n) [] h = refl
take_shorter (suc m) (suc n) (x ∷ xs) h = ap (λ ys. x ∷ ys) (take_shorter m n xs (omega (arith, h)))

-- the same paths stand in front of longer ones
pub ahead_same : (front : List ObjectId) (low : ℕ) (ls : List OpenTree) (t : OpenTree) (p q : List ℕ) → Rise low ls t → take t.at p ≡ take t.at q → ahead_of front ls t p ≡ ahead_of front ls t q
ahead_same front low [] t p q h same = ap (λ b. visits_of (front ++ t.id ∷ []) b (drop t.place t.entries.items)) same
ahead_same front low (l ∷ ls) t p q h same =
    let m : l.at ≤ t.at = rise_low l.at ls t h.1 in
    let shorter : take l.at p ≡ take l.at q = sym (take_shorter l.at t.at p m) ∙ ap (take l.at) same ∙ take_shorter l.at t.at q m in
    ap₂ (λ (a b : List Task). a ++ b) (ahead_same (front ++ l.id ∷ []) l.at ls t p q h.1 same) (ap (λ b. visits_of (front ++ l.id ∷ []) b (drop l.place l.entries.items)) shorter)
