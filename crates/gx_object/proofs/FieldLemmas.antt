-- Single parts of a commit.
use Rattle.std.proofs.Common.{◌≡◌, ◌∙◌, sym, ap, refl, subst, ℕ, ◌-◌, List, [], ◌∷◌, ◌++◌, length, codes, arith, append_assoc, length-append, inl, inr}
use Rattle.std.specs.List.{flat_map, AllByRecursion}
use Rattle.std.proofs.lemmas.List.{append-nil}
use Rattle.gx_hash.specs.declared.kind.HashKind.{HashKind}
use Rattle.gx_object.specs.PartsRead.{ObjectText}
use Rattle.gx_object.specs.CommitNext.{Next, Tree, Parents, Committer, Encoding}
use Rattle.gx_object.specs.declared.decode.DecodeError.{DecodeError}
use Rattle.gx_object.specs.declared.decode.DecodeError.TheVariants.{Decode}
use Rattle.gx_object.specs.Commit.{encoding_line}
use Rattle.gx_object.specs.IdentitySpelling.{IdentityText}
use Rattle.gx_hash.specs.IdDigits.{IsHexId}
use Rattle.gx_object.specs.CommitSpelling.{CommitText, raw_line, text_line, SpellsCommit}
use Rattle.gx_object.specs.CommitLines.{IsNoIdLine, IsNoIdentityLine, HasIdentityLine, AddsParents}
use Rattle.gx_object.specs.CommitItems.{TreeId, AuthorIs, CommitterIs, HasIdLine, TreeFront, tree_front, author_front, committer_front, tree_items, author_items, StandsInFront, GoesWrong, GoesWrongByAuthor, GoesWrongByCommitter, HasAuthor, HasCommitter, SkipsParents}
use Rattle.gx_object.proofs.CommitParts.{all_push, flat_map_push}
use Rattle.gx_object.specs.Laws.CommitPlace.{leads_none, leads_to_author, leads_to_committer, stuck_tree, stuck_parents, stuck_committer, begins_tree, begins_parents, begins_committer, refused_at}
use Rattle.gx_object.proofs.CommitFronts.{further, with_author}
use Rattle.gx_object.specs.Laws.OneCommit.{one_id, one_who, no_parent_author}

pub skips_more : (hash : HashKind) (bytes rest text more : List ℕ) → ((parents : List (List ℕ)) × AddsParents hash bytes parents rest) → HasIdLine hash (codes "parent ") rest text more → (parents : List (List ℕ)) × AddsParents hash bytes parents more
skips_more hash bytes rest text more (parents, p) q = (
  parents ++ text ∷ [],
  record {
    is = p.is ∙ ap (λ l. flat_map (text_line (codes "parent ")) parents ++ l) q.1 ∙ sym (append_assoc (flat_map (text_line (codes "parent ")) parents) (text_line (codes "parent ") text) more)
        ∙ ap (λ l. l ++ more) (sym (flat_map_push (text_line (codes "parent ")) parents text));
    ids = all_push (IsHexId hash) parents text p.ids q.0;
  },
)

front_length : (bytes front rest : List ℕ) → bytes ≡ front ++ rest → length bytes - length rest ≡ length front
front_length bytes front rest e = omega (arith, ap length e, length-append front rest)

-- what goes wrong spells nothing
pub wrong_is_none : (it : ObjectText) (s : Next) (e : DecodeError) (c : CommitText) → GoesWrong it s e → SpellsCommit it.hash it.bytes c → ⊥
wrong_is_none it s e c w p = w.none.none c p

-- The tree.
pub tree_wrong : (it : ObjectText) (e : DecodeError) → IsNoIdLine it.hash (codes "tree ") it.bytes → e ≡ Decode (length it.bytes - length it.bytes) → GoesWrong it Tree e
tree_wrong it e none place =
    let at = length it.bytes - length it.bytes in
    record {
      at = at;
      error = place;
      none = refused_at it.hash it.bytes [] it.bytes Tree at e refl (leads_none it.hash Tree) (λ h. cc) (stuck_tree it.hash it.bytes none) (begins_tree it.hash) place place;
      front = [];
      items = [];
      at_is = front_length it.bytes [] it.bytes refl;
      front_is = (refl, refl);
    }

pub tree_found : (it : ObjectText) (text rest hex : List ℕ) → HasIdLine it.hash (codes "tree ") it.bytes text rest → hex ≡ text → StandsInFront it (TreeId hex)
tree_found it text rest hex p e =
    let f : TreeFront it.hash = record { tree = text; parents = []; tree_id = p.0; parent_ids = tt } in
    record { stage = Parents; front = tree_front f; rest = rest; items = []; whole = p.1 ∙ ap (λ l. l ++ rest) (sym (append-nil (text_line (codes "tree ") text))); front_is = (f, refl, ap (λ t. TreeId t ∷ []) e) }

pub tree_of : (it : ObjectText) (text rest hex : List ℕ) → HasIdLine it.hash (codes "tree ") it.bytes text rest → hex ≡ text → (c : CommitText) → SpellsCommit it.hash it.bytes c → hex ≡ c.tree
tree_of it text rest hex p e c s =
    e ∙ (one_id it.hash (codes "tree ") it.bytes text c.tree rest (flat_map (text_line (codes "parent ")) c.parents ++ (text_line (codes "author ") s.author_line ++ (text_line (codes "committer ") s.committer_line ++ (encoding_line c.encoding ++ (flat_map raw_line c.extra_headers ++ 10 ∷ c.message))))) p (s.tree_id, s.whole)).0

-- The author.
pub author_has : (it : ObjectText) (text r r' rest : List ℕ) (who : IdentityText) → HasIdLine it.hash (codes "tree ") it.bytes text r → SkipsParents it.hash r r' → HasIdentityLine (codes "author ") r' who rest → HasAuthor it who rest
author_has it text r r' rest who t (parents, p) a = record {
  lines = record { before = record { tree = text; parents = parents; tree_id = t.0; parent_ids = p.0.ids }; line = a.line; who = who; one = a.one; spells = a.spells };
  whole = with_author it.hash it.bytes text r r' rest parents who t p a;
  who_is = refl;
}

pub author_wrong : (it : ObjectText) (text r rest : List ℕ) (e : DecodeError) → HasIdLine it.hash (codes "tree ") it.bytes text r → SkipsParents it.hash r rest → IsNoIdentityLine (codes "author ") rest → e ≡ Decode (length it.bytes - length rest) → GoesWrong it Parents e
author_wrong it text r rest e t (parents, p) none place =
    let f : TreeFront it.hash = record { tree = text; parents = parents; tree_id = t.0; parent_ids = p.0.ids } in
    let at = length it.bytes - length rest in
    let whole : it.bytes ≡ tree_front f ++ rest = further it.bytes (text_line (codes "tree ") text) (flat_map (text_line (codes "parent ")) parents) r rest t.1 p.0.is in
    record {
      at = at;
      error = place;
      none = refused_at it.hash it.bytes (tree_front f) rest Parents at e whole (leads_to_author it.hash text parents t.0 p.0.ids) (λ h. cc) (stuck_parents it.hash rest p.1 none) (begins_parents it.hash text parents t.0 p.0.ids) place place;
      front = tree_front f;
      items = tree_items f;
      at_is = front_length it.bytes (tree_front f) rest whole;
      front_is = (f, refl, refl);
    }

pub author_found : (it : ObjectText) (who : IdentityText) (rest : List ℕ) → HasAuthor it who rest → StandsInFront it (AuthorIs who)
author_found it who rest a = record { stage = Committer; front = author_front a.lines; rest = rest; items = tree_items a.lines.before; whole = a.whole; front_is = (a.lines, refl, ap (λ w. tree_items a.lines.before ++ AuthorIs w ∷ []) (sym a.who_is)) }

-- the first author after parents
first_author : (hash : HashKind) (ps qs : List (List ℕ)) (b d : List ℕ) (who whom : IdentityText) (x y : List ℕ) → AllByRecursion (IsHexId hash) ps → AllByRecursion (IsHexId hash) qs
    → HasIdentityLine (codes "author ") b who x → HasIdentityLine (codes "author ") d whom y → flat_map (text_line (codes "parent ")) ps ++ b ≡ flat_map (text_line (codes "parent ")) qs ++ d → (who ≡ whom) × (x ≡ y)
first_author hash [] [] b d who whom x y p q h k e = one_who (codes "author ") b who whom x y h (subst (λ l. HasIdentityLine (codes "author ") l whom y) (sym e) k)
first_author hash [] (c ∷ qs) b d who whom x y p q h k e =
    absurd (no_parent_author c h.line (flat_map (text_line (codes "parent ")) qs ++ d) x (sym (append_assoc (text_line (codes "parent ") c) (flat_map (text_line (codes "parent ")) qs) d) ∙ sym e ∙ h.is))
first_author hash (c ∷ ps) [] b d who whom x y p q h k e =
    absurd (no_parent_author c k.line (flat_map (text_line (codes "parent ")) ps ++ b) y (sym (append_assoc (text_line (codes "parent ") c) (flat_map (text_line (codes "parent ")) ps) b) ∙ e ∙ k.is))
first_author hash (c ∷ ps) (f ∷ qs) b d who whom x y p q h k e =
    let cut : (t : List ℕ) (ts : List (List ℕ)) (z : List ℕ) → flat_map (text_line (codes "parent ")) (t ∷ ts) ++ z ≡ text_line (codes "parent ") t ++ (flat_map (text_line (codes "parent ")) ts ++ z) = λ t ts z. append_assoc (text_line (codes "parent ") t) (flat_map (text_line (codes "parent ")) ts) z in
    let r = one_id hash (codes "parent ") (flat_map (text_line (codes "parent ")) (c ∷ ps) ++ b) c f (flat_map (text_line (codes "parent ")) ps ++ b) (flat_map (text_line (codes "parent ")) qs ++ d) (p.0, cut c ps b) (q.0, e ∙ cut f qs d) in
    first_author hash ps qs b d who whom x y p.1 q.1 h k r.1

pub author_and_rest : (it : ObjectText) (who : IdentityText) (rest : List ℕ) → HasAuthor it who rest → (c : CommitText) (s : SpellsCommit it.hash it.bytes c)
    → (who ≡ c.author) × (rest ≡ text_line (codes "committer ") s.committer_line ++ (encoding_line c.encoding ++ (flat_map raw_line c.extra_headers ++ 10 ∷ c.message)))
author_and_rest it who rest a c s =
    let f = a.lines in
    let late = text_line (codes "committer ") s.committer_line ++ (encoding_line c.encoding ++ (flat_map raw_line c.extra_headers ++ 10 ∷ c.message)) in
    let mine = text_line (codes "author ") f.line ++ rest in
    let theirs = text_line (codes "author ") s.author_line ++ late in
    let whole : it.bytes ≡ text_line (codes "tree ") f.before.tree ++ (flat_map (text_line (codes "parent ")) f.before.parents ++ mine) =
    a.whole ∙ append_assoc (tree_front f.before) (text_line (codes "author ") f.line) rest ∙ append_assoc (text_line (codes "tree ") f.before.tree) (flat_map (text_line (codes "parent ")) f.before.parents) mine in
    let r = one_id it.hash (codes "tree ") it.bytes f.before.tree c.tree (flat_map (text_line (codes "parent ")) f.before.parents ++ mine) (flat_map (text_line (codes "parent ")) c.parents ++ theirs) (f.before.tree_id, whole) (s.tree_id, s.whole) in
    let q = first_author it.hash f.before.parents c.parents mine theirs f.who c.author rest late f.before.parent_ids s.parent_ids
    (record { line = f.line; is = refl; one = f.one; spells = f.spells }) (record { line = s.author_line; is = refl; one = s.author_open; spells = s.author_is }) r.1 in
    (sym a.who_is ∙ q.0, q.1)

pub author_of : (it : ObjectText) (who : IdentityText) (rest : List ℕ) → HasAuthor it who rest → (c : CommitText) → SpellsCommit it.hash it.bytes c → who ≡ c.author
author_of it who rest a c s = (author_and_rest it who rest a c s).0

-- The committer.
pub committer_has : (it : ObjectText) (who whom : IdentityText) (r rest : List ℕ) → HasAuthor it who r → HasIdentityLine (codes "committer ") r whom rest → HasCommitter it whom rest
committer_has it who whom r rest a k = record {
  lines = record { before = a.lines; line = k.line; who = whom; one = k.one; spells = k.spells };
  whole = further it.bytes (author_front a.lines) (text_line (codes "committer ") k.line) r rest a.whole k.is;
  who_is = refl;
}

pub committer_wrong : (it : ObjectText) (who : IdentityText) (rest : List ℕ) (e : DecodeError) → HasAuthor it who rest → IsNoIdentityLine (codes "committer ") rest → e ≡ Decode (length it.bytes - length rest) → GoesWrong it Committer e
committer_wrong it who rest e a none place =
    let f = a.lines in
    let at = length it.bytes - length rest in
    record {
      at = at;
      error = place;
      none = refused_at it.hash it.bytes (author_front f) rest Committer at e a.whole (leads_to_committer it.hash f.before.tree f.before.parents f.line f.who f.before.tree_id f.before.parent_ids f.one f.spells) (λ h. cc)
          (stuck_committer it.hash rest none) (begins_committer it.hash f.before.tree f.before.parents f.line f.who f.before.tree_id f.before.parent_ids f.one f.spells) place place;
      front = author_front f;
      items = author_items f;
      at_is = front_length it.bytes (author_front f) rest a.whole;
      front_is = (f, refl, refl);
    }

pub committer_found : (it : ObjectText) (who : IdentityText) (rest : List ℕ) → HasCommitter it who rest → StandsInFront it (CommitterIs who)
committer_found it who rest k = record { stage = Encoding; front = committer_front k.lines; rest = rest; items = author_items k.lines.before; whole = k.whole; front_is = (k.lines, refl, ap (λ w. author_items k.lines.before ++ CommitterIs w ∷ []) (sym k.who_is)) }

pub committer_of : (it : ObjectText) (who : IdentityText) (rest : List ℕ) → HasCommitter it who rest → (c : CommitText) → SpellsCommit it.hash it.bytes c → who ≡ c.committer
committer_of it who rest k c s =
    let f = k.lines in
    let a : HasAuthor it f.before.who (text_line (codes "committer ") f.line ++ rest) = record { lines = f.before; whole = k.whole ∙ append_assoc (author_front f.before) (text_line (codes "committer ") f.line) rest; who_is = refl } in
    let r = author_and_rest it f.before.who (text_line (codes "committer ") f.line ++ rest) a c s in
    sym k.who_is ∙ (one_who (codes "committer ") (text_line (codes "committer ") f.line ++ rest) f.who c.committer rest (encoding_line c.encoding ++ (flat_map raw_line c.extra_headers ++ 10 ∷ c.message))
    (record { line = f.line; is = refl; one = f.one; spells = f.spells }) (record { line = s.committer_line; is = r.1; one = s.committer_open; spells = s.committer_is })).0

pub no_author_wrong : (it : ObjectText) (e : DecodeError) (c : CommitText) → GoesWrongByAuthor it e → SpellsCommit it.hash it.bytes c → ⊥
no_author_wrong it e c (inl w) s = wrong_is_none it Tree e c w s
no_author_wrong it e c (inr w) s = wrong_is_none it Parents e c w s

pub no_committer_wrong : (it : ObjectText) (e : DecodeError) (c : CommitText) → GoesWrongByCommitter it e → SpellsCommit it.hash it.bytes c → ⊥
no_committer_wrong it e c (inl w) s = no_author_wrong it e c w s
no_committer_wrong it e c (inr w) s = wrong_is_none it Committer e c w s
