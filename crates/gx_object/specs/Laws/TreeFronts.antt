-- Fronts of a tree's bytes that are made of whole entries.
use Rattle.std.proofs.Common.{◌≡◌, ◌≤◌, ◌<◌, ◌+◌, ◌-◌, ◌∙◌, ℕ, List, [], ◌∷◌, ◌++◌, length, take, drop, append_assoc, sym, ap, refl, inl, inr, arith}
use Rattle.std.specs.List.{AllZip, concat}
use Rattle.std.proofs.lemmas.List.{append-nil, append_cancel_right, length-append, length-take, take_at, drop_at, take_all, take-take, take-append-drop}
use Rattle.std.proofs.lemmas.Bool.{cases_lt}
use Rattle.std.proofs.Math.Seq.{take-append-add}
use Rattle.std.proofs.lemmas.Option.{same_Some}
use Rattle.gx_hash.specs.declared.kind.HashKind.{HashKind}
use Rattle.gx_hash.specs.declared.oid.ObjectId.{ObjectId}
use Rattle.gx_hash.specs.ObjectId.{id_from_bytes}
use Rattle.gx_object.specs.declared.tree.Entry.{Entry}
use Rattle.gx_object.specs.TreeSpelling.{SpellsEntry, SpellsTree, ReadsUpTo, IsBadPlace, BeginsWithEntry}
use Rattle.gx_object.specs.Laws.EntryCuts.{id_length, mode_lacks, name_lacks, entry_whole, after_space, after_zero}

made : ℕ → List ℕ → ObjectId → Entry
made mode name oid = record { mode = record { value = mode }; filename = name; oid = oid }

same_entry : (a b : Entry) → a.mode.value ≡ b.mode.value → a.filename ≡ b.filename → a.oid ≡ b.oid → a ≡ b
unfolding made
same_entry a b mode name oid = ap (λ x. made x a.filename a.oid) mode ∙ ap (λ x. made b.mode.value x a.oid) name ∙ ap (made b.mode.value b.filename) oid

same_parts : (a b x y : List ℕ) → length a ≡ length b → a ++ x ≡ b ++ y → (a ≡ b) × (x ≡ y)
same_parts a b x y long same =
    (sym (take_at a x (length a) refl) ∙ ap (take (length a)) same ∙ take_at b y (length a) (sym long), sym (drop_at a x (length a) refl) ∙ ap (drop (length a)) same ∙ drop_at b y (length a) (sym long))

-- no spelling of an entry begins another
pub entry_once : (hash : HashKind) (a b x y : List ℕ) (e f : Entry) → SpellsEntry hash a e → SpellsEntry hash b f → a ++ x ≡ b ++ y → (a ≡ b) × (e ≡ f) × (x ≡ y)
entry_once hash a b x y e f one other same =
    let bytes : List ℕ = a ++ x in
    let here : BeginsWithEntry hash bytes e x = (a, refl, one) in
    let there : BeginsWithEntry hash bytes f y = (b, same, other) in
    let whole = entry_whole hash bytes e x here in
    let lacks = mode_lacks one.digits e.mode.value one.mode in
    let digits = (after_space hash bytes one.digits _ whole lacks f y there).0 in
    let names = after_zero hash bytes one.digits (e.filename ++ 0 ∷ (one.id ++ x)) e.filename (one.id ++ x) whole lacks refl (name_lacks e.filename one.filename) f y there in
    let ids = same_parts one.id other.id x y (id_length hash _ _ one.oid ∙ sym (id_length hash _ _ other.oid)) names.1 in
    let mode : e.mode.value ≡ f.mode.value = sym one.mode.number.1 ∙ (rw digits (other.mode.number.1)) in
    let oid : e.oid ≡ f.oid = same_Some _ _ (sym one.oid ∙ ap (id_from_bytes hash) ids.0 ∙ other.oid) in
    (append_cancel_right a b x (same ∙ ap (λ z. b ++ z) (sym ids.1)), same_entry e f mode names.0 oid, ids.1)

pub entry_long : (hash : HashKind) (text : List ℕ) (e : Entry) → SpellsEntry hash text e → 0 < length text
entry_long hash text e spelled =
    let front : List ℕ = spelled.digits ++ 32 ∷ e.filename in
    let sum = length-append front (0 ∷ spelled.id) in rw spelled.whole (omega arith)

-- what a tree's bytes are after a front that is a tree
tree_rest : (hash : HashKind) (parts : List (List ℕ)) (xs : List Entry) → AllZip (SpellsEntry hash) parts xs → (more : List ℕ) (others : List (List ℕ)) (ys : List Entry) → AllZip (SpellsEntry hash) others ys → concat parts ++ more ≡ concat others → (zs : List Entry) × (rests : List (List ℕ)) × (ys ≡ xs ++ zs) × AllZip (SpellsEntry hash) rests zs × (more ≡ concat rests)
tree_rest hash [] [] each more others ys all same = (ys, others, refl, all, same)
tree_rest hash [] (x ∷ xs) each more others ys all same = absurd each
tree_rest hash (p ∷ ps) [] each more others ys all same = absurd each
tree_rest hash (p ∷ ps) (x ∷ xs) each more [] ys all same =
    let long = entry_long hash p x each.0 in
    let sum = length-append (p ++ concat ps) more in
    let inner = length-append p (concat ps) in
    let none = ap length same in absurd (omega arith)
tree_rest hash (p ∷ ps) (x ∷ xs) each more (q ∷ qs) [] all same = absurd all
tree_rest hash (p ∷ ps) (x ∷ xs) each more (q ∷ qs) (y ∷ ys) all same =
    let one = entry_once hash p q (concat ps ++ more) (concat qs) x y each.0 all.0 (sym (append_assoc p (concat ps) more) ∙ same) in
    let rest = tree_rest hash ps xs each.1 more qs ys all.1 one.2 in
    (rest.0, rest.1, ap (λ e. e ∷ ys) (sym one.1) ∙ ap (λ r. x ∷ r) rest.2, rest.3, rest.4)

pub tree_behind : (hash : HashKind) (front more : List ℕ) (xs ys : List Entry) → SpellsTree hash front xs → SpellsTree hash (front ++ more) ys → (zs : List Entry) × (ys ≡ xs ++ zs) × SpellsTree hash more zs
tree_behind hash front more xs ys begin whole =
    let rest = tree_rest hash begin.0 xs begin.2 more whole.0 ys whole.2 (ap (λ x. x ++ more) (sym begin.1) ∙ whole.1) in (rest.0, rest.2, (rest.1, rest.4, rest.3))

begins_by : (hash : HashKind) (bytes : List ℕ) (parts : List (List ℕ)) (xs : List Entry) → 0 < length bytes → bytes ≡ concat parts → AllZip (SpellsEntry hash) parts xs → (entry : Entry) × (rest : List ℕ) × BeginsWithEntry hash bytes entry rest
begins_by hash bytes [] xs some same all = let none = ap length same in absurd (omega arith)
begins_by hash bytes (p ∷ ps) [] some same all = absurd all
begins_by hash bytes (p ∷ ps) (x ∷ xs) some same all = (x, concat ps, (p, same, all.0))

-- a tree that isn't empty begins with an entry
pub tree_begins : (hash : HashKind) (bytes : List ℕ) (xs : List Entry) → 0 < length bytes → SpellsTree hash bytes xs → (entry : Entry) × (rest : List ℕ) × BeginsWithEntry hash bytes entry rest
tree_begins hash bytes xs some tree = begins_by hash bytes tree.0 xs some tree.1 tree.2

nothing_by : (hash : HashKind) (parts : List (List ℕ)) (xs : List Entry) → [] ≡ concat parts → AllZip (SpellsEntry hash) parts xs → xs ≡ []
nothing_by hash [] [] same all = refl
nothing_by hash [] (x ∷ xs) same all = absurd all
nothing_by hash (p ∷ ps) [] same all = absurd all
nothing_by hash (p ∷ ps) (x ∷ xs) same all =
    let long = entry_long hash p x all.0 in
    let sum = length-append p (concat ps) in
    let none = ap length same in absurd (omega arith)

-- bytes spell one tree at most
pub tree_once : (hash : HashKind) (bytes : List ℕ) (xs ys : List Entry) → SpellsTree hash bytes xs → SpellsTree hash bytes ys → xs ≡ ys
tree_once hash bytes xs ys one other =
    let rest = tree_behind hash bytes [] xs ys one (rw (append-nil bytes) other) in
    let none = nothing_by hash rest.2.0 rest.0 rest.2.1 rest.2.2 in
    sym (append-nil xs) ∙ ap (λ z. xs ++ z) (sym none) ∙ sym rest.1

concat-push : (parts : List (List ℕ)) (text : List ℕ) → concat (parts ++ text ∷ []) ≡ concat parts ++ text
concat-push [] text = append-nil text
concat-push (p ∷ ps) text = ap (λ x. p ++ x) (concat-push ps text) ∙ sym (append_assoc p (concat ps) text)

pub tree_none : (hash : HashKind) → SpellsTree hash [] []
tree_none hash = ([], refl, tt)

zip_push : (hash : HashKind) (parts : List (List ℕ)) (xs : List Entry) (text : List ℕ) (e : Entry) → AllZip (SpellsEntry hash) parts xs → SpellsEntry hash text e → AllZip (SpellsEntry hash) (parts ++ text ∷ []) (xs ++ e ∷ [])
zip_push hash [] [] text e each one = (one, tt)
zip_push hash [] (x ∷ xs) text e each one = absurd each
zip_push hash (p ∷ ps) [] text e each one = absurd each
zip_push hash (p ∷ ps) (x ∷ xs) text e each one = (each.0, zip_push hash ps xs text e each.1 one)

-- one entry more
pub tree_push : (hash : HashKind) (front text : List ℕ) (xs : List Entry) (e : Entry) → SpellsTree hash front xs → SpellsEntry hash text e → SpellsTree hash (front ++ text) (xs ++ e ∷ [])
tree_push hash front text xs e tree spelled =
    (tree.0 ++ text ∷ [], ap (λ x. x ++ text) tree.1 ∙ sym (concat-push tree.0 text), zip_push hash tree.0 xs text e tree.2 spelled)

-- where nothing after a front begins with an entry, no longer front is a tree
pub reads_here : (hash : HashKind) (front more : List ℕ) (xs : List Entry) → SpellsTree hash front xs → ((entry : Entry) (rest : List ℕ) → ¬ BeginsWithEntry hash more entry rest) → ReadsUpTo hash (front ++ more) xs (length front)
reads_here hash front more xs tree none =
    let long = length-append front more in record {
      within = omega arith;
      front = rw (take_at front more (length front) refl) tree;
      longest = λ longer others above below whole.
          let k : ℕ = longer - length front in
          let place : longer ≡ length front + k = omega arith in
          let cut : take longer (front ++ more) ≡ front ++ take k more = ap (λ n. take n (front ++ more)) place ∙ take-append-add front more k in
          let behind = tree_behind hash front (take k more) xs others tree (rw cut at whole) in
          let some : 0 < length (take k more) = rw length-take (omega arith) in
          let begins = tree_begins hash (take k more) behind.0 some behind.2 in
          let entry = begins.2 in
          let text : more ≡ entry.0 ++ (begins.1 ++ drop k more) = sym (take-append-drop k more) ∙ ap (λ x. x ++ drop k more) entry.1 ∙ append_assoc entry.0 begins.1 (drop k more) in
          none begins.0 (begins.1 ++ drop k more) (entry.0, text, entry.2);
    }

-- a tree is read to its end
pub reads_whole : (hash : HashKind) (bytes : List ℕ) (xs : List Entry) → SpellsTree hash bytes xs → ReadsUpTo hash bytes xs (length bytes)
reads_whole hash bytes xs tree = record {
  within = omega arith;
  front = rw (take_all (length bytes) bytes (omega arith)) tree;
  longest = λ longer others above below whole. absurd (omega arith);
}

-- bytes with a bad place are no tree
pub bad_place : (hash : HashKind) (bytes : List ℕ) (at : ℕ) (xs : List Entry) → IsBadPlace hash bytes at → ¬ SpellsTree hash bytes xs
bad_place hash bytes at xs bad tree = bad.reads.longest (length bytes) xs bad.more (omega arith) (rw (take_all (length bytes) bytes (omega arith)) tree)

-- of two fronts that are trees, the longer one has the entries of the shorter one, and then others
pub front_goes_on : (hash : HashKind) (bytes : List ℕ) (short long : ℕ) (xs ys : List Entry) → short ≤ long → SpellsTree hash (take short bytes) xs → SpellsTree hash (take long bytes) ys → (zs : List Entry) × (ys ≡ xs ++ zs) × SpellsTree hash (drop short (take long bytes)) zs
front_goes_on hash bytes short long xs ys order begin whole =
    let cut : take short (take long bytes) ≡ take short bytes = take-take short long bytes order in
    let parts : take long bytes ≡ take short bytes ++ drop short (take long bytes) = sym (take-append-drop short (take long bytes)) ∙ ap (λ x. x ++ drop short (take long bytes)) cut in
    tree_behind hash (take short bytes) (drop short (take long bytes)) xs ys begin (rw (← parts) whole)

reads_order : (hash : HashKind) (bytes : List ℕ) (xs ys : List Entry) (a b : ℕ) → ReadsUpTo hash bytes xs a → ReadsUpTo hash bytes ys b → b ≤ a
reads_order hash bytes xs ys a b one other =
    elim (cases_lt a b) [ inl below ↦ absurd (one.longest b ys below other.within other.front) | inr above ↦ above ]

-- bytes are read in one way
pub reads_once : (hash : HashKind) (bytes : List ℕ) (xs ys : List Entry) (a b : ℕ) → ReadsUpTo hash bytes xs a → ReadsUpTo hash bytes ys b → (xs ≡ ys) × (a ≡ b)
reads_once hash bytes xs ys a b one other =
    let high = reads_order hash bytes xs ys a b one other in
    let low = reads_order hash bytes ys xs b a other one in
    let same : a ≡ b = omega arith in
    let front : SpellsTree hash (take a bytes) ys = rw same (other.front) in
    (tree_once hash (take a bytes) xs ys one.front front, same)
