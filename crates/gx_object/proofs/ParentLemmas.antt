-- The iterator over a commit's parents.
use Rattle.std.proofs.Common.{◌≡◌, ◌∙◌, sym, ap, refl, subst, ℕ, zero, suc, ◌+◌, List, [], ◌∷◌, ◌++◌, drop, codes, append_assoc, arith, Some, None, inl, inr}
use Rattle.std.specs.List.{flat_map}
use Rattle.gx_hash.specs.HashKind.{IsOfKind}
use Rattle.gx_hash.specs.ObjectId.{hex_of}
use Rattle.gx_hash.specs.declared.kind.HashKind.{HashKind}
use Rattle.gx_hash.specs.declared.oid.ObjectId.{ObjectId}
use Rattle.gx_object.specs.PartsRead.{ObjectText}
use Rattle.gx_object.specs.Commit.{encoding_line}
use Rattle.gx_object.specs.CommitSpelling.{CommitText, SpellsCommit, IsOneLine, raw_line, text_line}
use Rattle.gx_object.specs.CommitLines.{HasLine, IsNoIdLine, HasParents}
use Rattle.gx_object.specs.CommitItems.{HasIdLine}
use Rattle.gx_object.specs.ParentIds.{HasParentsInFront, IsNextParent, GivesParent}
use Rattle.gx_object.specs.ParentReach.{HasLeft, read_at}
use Rattle.gx_object.specs.Laws.LineLemmas.{without_append}
use Rattle.gx_object.specs.Laws.CommitPlace.{hex_open, tree_word, parent_word}
use Rattle.gx_object.specs.Laws.OneCommit.{one_id, no_parent_author}
use Rattle.gx_object.proofs.IterLemmas.{line_length}

-- a line with a word and an id, cut at its newline
cut_line : (word text rest : List ℕ) → text_line word text ++ rest ≡ (word ++ text) ++ 10 ∷ rest
cut_line word text rest = append_assoc word (text ++ 10 ∷ []) rest ∙ ap (λ l. word ++ l) (append_assoc text (10 ∷ []) rest) ∙ sym (append_assoc word text (10 ∷ rest))

line_of_id : (hash : HashKind) (word bytes text rest : List ℕ) → IsOneLine word → HasIdLine hash word bytes text rest → HasLine bytes (word ++ text) rest
line_of_id hash word bytes text rest open_ p = record { is = p.1 ∙ cut_line word text rest; one = without_append 10 word text open_ (hex_open text p.0.digits) }

-- the author's line is no parent's
no_parent_at_author : (hash : HashKind) (text more : List ℕ) → IsNoIdLine hash (codes "parent ") (text_line (codes "author ") text ++ more)
no_parent_at_author hash text more id rest is_id has = no_parent_author id text rest more (cut_line (codes "parent ") id rest ∙ sym has.is)

-- a commit has its parents in front
commit_front : (text : ObjectText) (c : CommitText) → SpellsCommit text.hash text.bytes c → HasParentsInFront text.hash text.bytes c.parents
commit_front text c s =
    let late = text_line (codes "committer ") s.committer_line ++ (encoding_line c.encoding ++ (flat_map raw_line c.extra_headers ++ 10 ∷ c.message)) in
    let behind = text_line (codes "author ") s.author_line ++ late in
    inl (c.tree, flat_map (text_line (codes "parent ")) c.parents ++ behind, behind, (s.tree_id, s.whole), (record { is = refl; ids = s.parent_ids }, no_parent_at_author text.hash s.author_line late))

-- ---- the first place

pub after_tree : (text : ObjectText) (rest tree : List ℕ) → HasIdLine text.hash (codes "tree ") text.bytes tree rest → HasLeft text rest 0
after_tree text rest tree p = record { short = omega (arith, line_length text.bytes (codes "tree ") tree rest p.1); left = left }
  where
    left : (parents : List (List ℕ)) → HasParentsInFront text.hash text.bytes parents → (more : List ℕ) × HasParents text.hash rest (drop 0 parents) more
    left parents (inl (other, more, behind, q, lines)) =
        let r = one_id text.hash (codes "tree ") text.bytes tree other rest more p q in
        (behind, subst (λ l. HasParents text.hash l parents behind) (sym r.1) lines)
    left parents (inr (none, e)) = absurd (none tree rest p.0 (line_of_id text.hash (codes "tree ") text.bytes tree rest tree_word p))

none_in_nothing : (hash : HashKind) → IsNoIdLine hash (codes "parent ") []
none_in_nothing hash text rest is_id has = let h : 112 ∷ (codes "arent " ++ text) ++ 10 ∷ rest ≡ [] = sym has.is in absurd (cc)

-- without a tree nothing is left
pub without_tree : (text : ObjectText) → IsNoIdLine text.hash (codes "tree ") text.bytes → HasLeft text [] 0
without_tree text none = record { short = omega arith; left = left }
  where
    left : (parents : List (List ℕ)) → HasParentsInFront text.hash text.bytes parents → (more : List ℕ) × HasParents text.hash [] (drop 0 parents) more
    left parents (inl (tree, more, rest, q, lines)) = absurd (none tree more q.0 (line_of_id text.hash (codes "tree ") text.bytes tree more tree_word q))
    left parents (inr (none, is)) = ([], subst (λ ps. HasParents text.hash [] ps []) (sym is) (record { is = refl; ids = tt }, none_in_nothing text.hash))

-- ---- a parent

-- what is left begins with the parent
record Follows (hash : HashKind) (more id end : List ℕ) (parents : List (List ℕ)) : Type 0 where
  later : List (List ℕ)
  is : parents ≡ id ∷ later
  lines : HasParents hash more later end

one_more : (hash : HashKind) (rest more id end : List ℕ) (parents : List (List ℕ)) → HasIdLine hash (codes "parent ") rest id more → HasParents hash rest parents end → Follows hash more id end parents
one_more hash rest more id end [] p lines =
    absurd (lines.1 id more p.0 (subst (λ l. HasLine l (codes "parent " ++ id) more) lines.0.is (line_of_id hash (codes "parent ") rest id more parent_word p)))
one_more hash rest more id end (parent ∷ parents) p lines =
    let tail = flat_map (text_line (codes "parent ")) parents ++ end in
    let ids = lines.0.ids in
    let first : HasIdLine hash (codes "parent ") rest parent tail = (ids.0, lines.0.is ∙ append_assoc (text_line (codes "parent ") parent) (flat_map (text_line (codes "parent ")) parents) end) in
    let r = one_id hash (codes "parent ") rest id parent more tail p first in
    record { later = parents; is = ap (λ x. x ∷ parents) (sym r.0); lines = (record { is = r.1; ids = ids.1 }, lines.1) }

drop_next : (n : ℕ) (xs : List (List ℕ)) (x : List ℕ) (later : List (List ℕ)) → drop n xs ≡ x ∷ later → drop (n + 1) xs ≡ later
drop_next zero [] x later e = absurd (cc)
drop_next zero (y ∷ ys) x later e = cc
drop_next (suc n) [] x later e = absurd (cc)
drop_next (suc n) (y ∷ ys) x later e =
    let more : suc n + 1 ≡ suc (n + 1) = omega arith in
    ap (λ k. drop k (y ∷ ys)) more ∙ drop_next n ys x later e

pub goes_on : (text : ObjectText) (rest more id : List ℕ) (n : ℕ) → HasLeft text rest n → HasIdLine text.hash (codes "parent ") rest id more → HasLeft text more (n + 1)
goes_on text rest more id n held p = record {
  short = omega (arith, held.short, line_length rest (codes "parent ") id more p.1);
  left = λ parents front.
      let l = held.left parents front in
      let f = one_more text.hash rest more id l.0 (drop n parents) p l.1 in
      (l.0, subst (λ ps. HasParents text.hash more ps l.0) (sym (drop_next n parents id f.later f.is)) f.lines);
}

pub gives_some : (text : ObjectText) (rest more digits : List ℕ) (n : ℕ) (id : ObjectId) → HasLeft text rest n → HasIdLine text.hash (codes "parent ") rest digits more → hex_of id ≡ digits → IsOfKind text.hash id
    → GivesParent (read_at text n) (Some id) (read_at text (n + 1))
gives_some text rest more digits n id held p same kind = record {
  same = refl;
  count = refl;
  commit = λ c s. next c.parents (commit_front text c s);
  front = next;
}
  where
    next : (parents : List (List ℕ)) → HasParentsInFront text.hash text.bytes parents → IsNextParent text.hash (drop n parents) (Some id)
    next parents front =
        let l = held.left parents front in
        let f = one_more text.hash rest more digits l.0 (drop n parents) p l.1 in
        subst (λ ps. IsNextParent text.hash ps (Some id)) (sym f.is) (same, kind)

-- ---- the end

none_left : (hash : HashKind) (rest end : List ℕ) (parents : List (List ℕ)) → IsNoIdLine hash (codes "parent ") rest → HasParents hash rest parents end → IsNextParent hash parents None
none_left hash rest end [] none lines = tt
none_left hash rest end (parent ∷ parents) none lines =
    let more = flat_map (text_line (codes "parent ")) parents ++ end in
    let cut = lines.0.is ∙ append_assoc (text_line (codes "parent ") parent) (flat_map (text_line (codes "parent ")) parents) end in
    absurd (none parent more lines.0.ids.0 (line_of_id hash (codes "parent ") rest parent more parent_word (lines.0.ids.0, cut)))

pub gives_none : (text : ObjectText) (rest : List ℕ) (n : ℕ) → HasLeft text rest n → IsNoIdLine text.hash (codes "parent ") rest → GivesParent (read_at text n) None (read_at text n)
gives_none text rest n held none = record {
  same = refl;
  count = refl;
  commit = λ c s. next c.parents (commit_front text c s);
  front = next;
}
  where
    next : (parents : List (List ℕ)) → HasParentsInFront text.hash text.bytes parents → IsNextParent text.hash (drop n parents) None
    next parents front = let l = held.left parents front in none_left text.hash rest l.0 (drop n parents) none l.1
