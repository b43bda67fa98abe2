-- The steps of an iterator over a tree.
use Rattle.std.proofs.Common.{◌≡◌, ◌≤◌, ◌<◌, ◌+◌, ◌-◌, ◌∙◌, ℕ, false, true, Some, None, Ok, Err, List, [], ◌∷◌, ◌++◌, length, take, drop, append_assoc, sym, ap, refl, subst, inl, inr, arith}
use Rattle.std.proofs.lemmas.Bool.{cases_lt}
use Rattle.std.proofs.lemmas.List.{length-append, length-take-le, take_at, take_all, take-append-drop, drop_all, drop_at}
use Rattle.gx_object.specs.declared.decode.DecodeError.TheVariants.{Decode}
use Rattle.gx_object.specs.declared.tree.Entry.{Entry}
use Rattle.gx_object.specs.declared.tree.decode.EntryRef.{EntryRef}
use Rattle.gx_object.specs.PartsRead.{ObjectText}
use Rattle.gx_object.specs.TreeSpelling.{entry_of, SpellsTree, ReadsUpTo, BeginsWithEntry}
use Rattle.gx_object.specs.TreeIter.{IsNext, GivesEntry}
use Rattle.gx_object.specs.TreeReach.{HasGiven, read_at}
use Rattle.gx_object.proofs.TreeKinds.{id_kind}
use Rattle.gx_object.specs.Laws.TreeFronts.{entry_long, tree_push, reads_here, reads_whole, reads_once, front_goes_on}

-- where the entries that were given are all, none is left
all_given : (text : ObjectText) (at n : ℕ) (entries : List Entry) (end m : ℕ) → (g : HasGiven text at n) → ReadsUpTo text.hash text.bytes g.entries m
    → ReadsUpTo text.hash text.bytes entries end → (drop n entries ≡ []) × (end ≡ m)
all_given text at n entries end m g here reads =
    let same = reads_once text.hash text.bytes entries g.entries end m reads here in
    (ap (drop n) same.0 ∙ drop_all n g.entries (omega (arith, g.count)), same.1)

-- ---- the end

pub gives_end : (text : ObjectText) (at n : ℕ) → HasGiven text at n → length text.bytes ≤ at → GivesEntry (read_at text n false) None (read_at text n false)
gives_end text at n g long = record {
  same = refl;
  count = refl;
  next = λ entries end reads.
      let whole = reads_whole text.hash text.bytes g.entries (rw (take_all at text.bytes long) at g.front) in
      let all = all_given text at n entries end (length text.bytes) g whole reads in
      subst (λ (left : List Entry). IsNext text left end None) (sym all.0) all.1;
}

-- ---- the error

pub gives_error : (text : ObjectText) (at n : ℕ) → HasGiven text at n → at < length text.bytes → ((entry : Entry) (rest : List ℕ) → ¬ BeginsWithEntry text.hash (drop at text.bytes) entry rest)
    → GivesEntry (read_at text n false) (Some (Err (Decode at))) (read_at text n true)
gives_error text at n g within none =
    let long : length (take at text.bytes) ≡ at = length-take-le at text.bytes (omega arith) in
    let here : ReadsUpTo text.hash text.bytes g.entries at = rw (take-append-drop at text.bytes, long) at (reads_here text.hash (take at text.bytes) (drop at text.bytes) g.entries g.front none) in
    record {
      same = refl;
      count = refl;
      next = λ entries end reads.
          let all = all_given text at n entries end at g here reads in
          subst (λ (left : List Entry). IsNext text left end (Some (Err (Decode at)))) (sym all.0) (omega (arith, all.1, within), ap Decode (sym all.1));
    }

-- ---- an entry

-- the entries and one more take up the bytes before the new place
record Moves (text : ObjectText) (at new : ℕ) (xs : List Entry) : Type 0 where
  within : new ≤ length text.bytes
  tree : SpellsTree text.hash (take new text.bytes) xs
  more : at < new

moved : (text : ObjectText) (behind : List ℕ) (at : ℕ) (xs : List Entry) (e : Entry) → at ≤ length text.bytes → SpellsTree text.hash (take at text.bytes) xs → BeginsWithEntry text.hash (drop at text.bytes) e behind
    → Moves text at (length text.bytes - length behind) (xs ++ e ∷ [])
moved text behind at xs e within front begins =
    let bytes : List ℕ = text.bytes in
    let one : List ℕ = begins.0 in
    let both : List ℕ = take at bytes ++ one in
    let parts : bytes ≡ both ++ behind = sym (take-append-drop at bytes) ∙ ap (λ x. take at bytes ++ x) begins.1 ∙ sym (append_assoc (take at bytes) one behind) in
    let total : length bytes ≡ length both + length behind = ap length parts ∙ length-append both behind in
    let sum : length both ≡ length (take at bytes) + length one = length-append (take at bytes) one in
    let taken : length (take at bytes) ≡ at = length-take-le at bytes within in
    let long : 0 < length one = entry_long text.hash one e begins.2 in
    let place : length bytes - length behind ≡ length both = omega arith in
    let cut : take (length bytes - length behind) bytes ≡ both = ap (take (length bytes - length behind)) parts ∙ take_at both behind (length bytes - length behind) (sym place) in
    record {
      within = omega arith;
      tree = rw cut (tree_push text.hash (take at bytes) one xs e front begins.2);
      more = omega (arith, place, sum, taken, long);
    }

pub goes_on : (text : ObjectText) (behind : List ℕ) (at n : ℕ) (e : Entry) → HasGiven text at n → BeginsWithEntry text.hash (drop at text.bytes) e behind → HasGiven text (length text.bytes - length behind) (n + 1)
goes_on text behind at n e g begins =
    let m = moved text behind at g.entries e g.within g.front begins in
    record {
      entries = g.entries ++ e ∷ [];
      within = m.within;
      front = m.tree;
      count = length-append g.entries (e ∷ []) ∙ ap (λ k. k + 1) g.count;
      short = omega (arith, g.short, m.more);
    }

pub gives_entry : (text : ObjectText) (behind : List ℕ) (at n : ℕ) (item : EntryRef) → HasGiven text at n → BeginsWithEntry text.hash (drop at text.bytes) (entry_of item) behind
    → GivesEntry (read_at text n false) (Some (Ok item)) (read_at text (n + 1) false)
gives_entry text behind at n item g begins =
    let e : Entry = entry_of item in
    let new : ℕ = length text.bytes - length behind in
    let m = moved text behind at g.entries e g.within g.front begins in
    record {
      same = refl;
      count = refl;
      next = λ entries end reads.
          let order : new ≤ end = elim (cases_lt end new) [ inl below ↦ absurd (reads.longest new (g.entries ++ e ∷ []) below m.within m.tree) | inr above ↦ above ] in
          let more = front_goes_on text.hash text.bytes new end (g.entries ++ e ∷ []) entries order m.tree reads.front in
          let all : entries ≡ g.entries ++ e ∷ more.0 = more.1 ∙ append_assoc g.entries (e ∷ []) more.0 in
          let left : drop n entries ≡ e ∷ more.0 = ap (drop n) all ∙ drop_at g.entries (e ∷ more.0) n g.count in
          subst (λ (l : List Entry). IsNext text l end (Some (Ok item))) (sym left) (refl, id_kind text.hash begins.2.id item.oid begins.2.oid);
    }
