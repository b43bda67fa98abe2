-- The iterator over a commit's items.
use Rattle.std.proofs.Common.{◌≡◌, ◌≢◌, ◌∙◌, sym, ap, refl, subst, ℕ, ◌+◌, ◌-◌, ◌<◌, List, [], ◌∷◌, ◌++◌, length, map, codes, arith, append_assoc, length-append, Option, Some, None, ◌⊎◌, inl, inr, Ok, Err, Bor, MatchOption}
use Rattle.std.specs.List.{flat_map, AllByRecursion}
use Rattle.std.proofs.lemmas.List.{append-nil, map_push}
use Rattle.gx_hash.specs.declared.kind.HashKind.{HashKind}
use Rattle.gx_object.specs.declared.commit.iter.CommitToken.{CommitToken}
use Rattle.gx_object.specs.declared.commit.iter.Stage.{Stage}
use Rattle.gx_object.specs.declared.commit.iter.Stage.TheVariants as stage
use Rattle.gx_object.specs.CommitNext.{next_of, Next, Tree, Parents, Committer, Encoding, Headers, End, CommitPlace}
use Rattle.gx_object.specs.declared.decode.DecodeError.{DecodeError}
use Rattle.gx_object.specs.declared.decode.DecodeError.TheVariants.{Decode}
use Rattle.gx_object.specs.Commit.{encoding_line}
use Rattle.gx_object.specs.IdentitySpelling.{IdentityText}
use Rattle.gx_hash.specs.IdDigits.{IsHexId}
use Rattle.gx_object.specs.CommitSpelling.{HeaderText, IsHeader, HasEncoding, raw_line, text_line, BeginsCommit}
use Rattle.gx_object.specs.CommitLines.{HasLine, IsHeaderLine, HasIdentityLine, HasHeader, IsNoFold}
use Rattle.gx_object.specs.CommitItems.{Item, TreeId, ParentId, AuthorIs, CommitterIs, HeaderIs, MessageIs, encoding_items, HasIdLine, IsFirstItem, IsMessage, ItemAt, ReadsAll, Stuck, item_of, TreeFront, AuthorFront, CommitterFront, HeadersFront, tree_front, author_front, committer_front, headers_front, committer_items, FrontIs, EndsHeader, Given, Left, LeftBehind, IsRefusal, GivenBehind, HasKind, NextItem, items_left_at}
use Rattle.gx_object.specs.Laws.LineLemmas.{Without, without_append, raw_line_open, name_without_newline, name_without_space}
use Rattle.gx_object.proofs.CommitParts.{all_push, flat_map_push}
use Rattle.gx_object.specs.Laws.CommitPlace.{Leads, leads_none, leads_to_author, leads_to_committer, leads_to_encoding, leads_to_message, begins_tree, begins_parents, begins_committer, begins_late, late_stage, late_text_is, late_text, refused_at, hex_open, tree_word, parent_word, author_word, committer_word}
use Rattle.gx_object.specs.Laws.OneCommit.{one_item, first_line}

-- Items shorten what is left.
pub header_length : (bytes : List ℕ) (h : HeaderText) (more : List ℕ) → HasHeader bytes h more → length more < length bytes
header_length bytes h more p = omega (arith, ap length p.is, length-append (raw_line h) more, length-append h.name (32 ∷ h.raw ++ 10 ∷ []), length-append h.raw (10 ∷ []))

pub line_length : (bytes word text more : List ℕ) → bytes ≡ text_line word text ++ more → length more < length bytes
line_length bytes word text more e = omega (arith, ap length e, length-append (text_line word text) more, length-append word (text ++ 10 ∷ []), length-append text (10 ∷ []))

most : (t : Next) (n : ℕ) → items_left_at t n < n + 2
most Tree n = omega arith
most Parents n = omega arith
most Committer n = omega arith
most Encoding n = omega arith
most Headers n = omega arith
most End n = omega arith

at_stage : (s : Next) (m : ℕ) → s ≢ End → items_left_at s m ≡ m + 1
at_stage Tree m e = refl
at_stage Parents m e = refl
at_stage Committer m e = refl
at_stage Encoding m e = refl
at_stage Headers m e = refl
at_stage End m e = absurd (e refl)

fewer : (s t : Next) (n m : ℕ) → s ≢ End → n < m → items_left_at t n < items_left_at s m
fewer s t n m e l = omega (arith, most t n, at_stage s m e, l)

pub ended : (s t : Next) (n m : ℕ) → s ≢ End → t ≡ End → items_left_at t n < items_left_at s m
ended s t n m e f = subst (λ u. items_left_at u n < items_left_at s m) (sym f) (omega (arith, at_stage s m e))

pub item_shorter : (hash : HashKind) (s : Next) (bytes : List ℕ) (i : Item) (more : List ℕ) (t : Next) → ItemAt hash s bytes i more t → items_left_at t (length more) < items_left_at s (length bytes)
item_shorter hash Tree bytes i more t p = fewer Tree t (length more) (length bytes) (λ e. cc) (line_length bytes (codes "tree ") p.1.0 more p.1.2.1)
item_shorter hash Parents bytes i more t (inl p) = fewer Parents t (length more) (length bytes) (λ e. cc) (line_length bytes (codes "parent ") p.1.0 more p.1.2.1)
item_shorter hash Parents bytes i more t (inr p) = fewer Parents t (length more) (length bytes) (λ e. cc) (line_length bytes (codes "author ") p.1.2.line more p.1.2.is)
item_shorter hash Committer bytes i more t p = fewer Committer t (length more) (length bytes) (λ e. cc) (line_length bytes (codes "committer ") p.1.2.line more p.1.2.is)
item_shorter hash Encoding bytes i more t (inl p) = fewer Encoding t (length more) (length bytes) (λ e. cc) (header_length bytes p.1.0 more p.1.1)
item_shorter hash Encoding bytes i more t (inr p) = ended Encoding t (length more) (length bytes) (λ e. cc) p.0
item_shorter hash Headers bytes i more t (inl p) = fewer Headers t (length more) (length bytes) (λ e. cc) (header_length bytes p.1.0 more p.1.1)
item_shorter hash Headers bytes i more t (inr p) = ended Headers t (length more) (length bytes) (λ e. cc) p.0
item_shorter hash End bytes i more t p = absurd p

-- An item stands in a line.
id_in_line : (hash : HashKind) (word bytes id more : List ℕ) → Without 10 word → HasIdLine hash word bytes id more → HasLine bytes (word ++ id) more
id_in_line hash word bytes id more open_ p = record {
  is = p.1 ∙ append_assoc word (id ++ 10 ∷ []) more ∙ ap (λ l. word ++ l) (append_assoc id (10 ∷ []) more) ∙ sym (append_assoc word id (10 ∷ more));
  one = without_append 10 word id open_ (hex_open id p.0.digits);
}

who_in_line : (word bytes : List ℕ) (who : IdentityText) (more : List ℕ) → Without 10 word → (p : HasIdentityLine word bytes who more) → HasLine bytes (word ++ p.line) more
who_in_line word bytes who more open_ p = record {
  is = p.is ∙ append_assoc word (p.line ++ 10 ∷ []) more ∙ ap (λ l. word ++ l) (append_assoc p.line (10 ∷ []) more) ∙ sym (append_assoc word p.line (10 ∷ more));
  one = without_append 10 word p.line open_ p.one;
}

no_header_line : (bytes : List ℕ) (h : HeaderText) (more : List ℕ) → HasHeader bytes h more → ((line rest : List ℕ) → HasLine bytes line rest → IsHeaderLine line → ⊥) → ⊥
no_header_line bytes h more p none =
    let f = first_line h.raw more in
    none (h.name ++ 32 ∷ f.line) f.rest
    (record {
      is = p.is ∙ raw_line_open h more ∙ ap (λ l. h.name ++ 32 ∷ l) f.is ∙ sym (append_assoc h.name (32 ∷ f.line) (10 ∷ f.rest));
      one = without_append 10 h.name (32 ∷ f.line) (name_without_newline h.name p.header.0.1) ((λ e. absurd (omega (arith, e))), f.one);
    })
    (h.name, f.line, p.header.0, refl)

no_message_line : (bytes : List ℕ) (i : Item) (more : List ℕ) (t : Next) → IsMessage bytes i more t → ((rest : List ℕ) → HasLine bytes [] rest → ⊥) → ⊥
no_message_line bytes i more t p none = none p.2.0 (record { is = p.2.2; one = tt })

pub item_not_stuck : (hash : HashKind) (s : Next) (bytes : List ℕ) (i : Item) (more : List ℕ) (t : Next) → ItemAt hash s bytes i more t → Stuck hash s bytes → ⊥
item_not_stuck hash Tree bytes i more t p stuck = stuck (codes "tree " ++ p.1.0) more (id_in_line hash (codes "tree ") bytes p.1.0 more tree_word p.1.2) (p.1.0, p.1.2.0, refl)
item_not_stuck hash Parents bytes i more t (inl p) stuck = stuck (codes "parent " ++ p.1.0) more (id_in_line hash (codes "parent ") bytes p.1.0 more parent_word p.1.2) (inl (p.1.0, p.1.2.0, refl))
item_not_stuck hash Parents bytes i more t (inr p) stuck = stuck (codes "author " ++ p.1.2.line) more (who_in_line (codes "author ") bytes p.1.0 more author_word p.1.2) (inr (p.1.2.line, p.1.0, p.1.2.spells, refl))
item_not_stuck hash Committer bytes i more t p stuck = stuck (codes "committer " ++ p.1.2.line) more (who_in_line (codes "committer ") bytes p.1.0 more committer_word p.1.2) (p.1.2.line, p.1.0, p.1.2.spells, refl)
item_not_stuck hash Encoding bytes i more t (inl p) stuck = no_header_line bytes p.1.0 more p.1.1 (λ line rest has is. stuck line rest has (inr is))
item_not_stuck hash Encoding bytes i more t (inr p) stuck = no_message_line bytes i more t p (λ rest has. stuck [] rest has (inl refl))
item_not_stuck hash Headers bytes i more t (inl p) stuck = no_header_line bytes p.1.0 more p.1.1 (λ line rest has is. stuck line rest has (inr (inl is)))
item_not_stuck hash Headers bytes i more t (inr p) stuck = no_message_line bytes i more t p (λ rest has. stuck [] rest has (inl refl))
item_not_stuck hash End bytes i more t p stuck = absurd p

no_fold_at_name : (name text line rest : List ℕ) → Without 32 name → name ≢ [] → name ++ 32 ∷ text ≡ (32 ∷ line) ++ 10 ∷ rest → ⊥
no_fold_at_name [] text line rest p some e = some refl
no_fold_at_name (b ∷ bs) text line rest p some e = let same : b ≡ 32 = cc in p.0 same

pub item_no_fold : (hash : HashKind) (s : Next) (bytes : List ℕ) (i : Item) (more : List ℕ) (t : Next) → ItemAt hash s bytes i more t → EndsHeader s bytes
item_no_fold hash Headers bytes i more t (inl p) e = λ line rest has.
    no_fold_at_name p.1.0.name (p.1.0.raw ++ 10 ∷ more) line rest (name_without_space p.1.0.name p.1.1.header.0.1) p.1.1.header.0.0 (sym (p.1.1.is ∙ raw_line_open p.1.0 more) ∙ has.is)
item_no_fold hash Headers bytes i more t (inr p) e = λ line rest has. let k : 10 ∷ p.2.0 ≡ 32 ∷ (line ++ 10 ∷ rest) = sym p.2.2 ∙ has.is in absurd (cc)
item_no_fold hash Tree bytes i more t p e = absurd (cc)
item_no_fold hash Parents bytes i more t p e = absurd (cc)
item_no_fold hash Committer bytes i more t p e = absurd (cc)
item_no_fold hash Encoding bytes i more t p e = absurd (cc)
item_no_fold hash End bytes i more t p e = absurd (cc)

-- What was given grows by one item.
pub record Stepped (hash : HashKind) (whole more : List ℕ) (t : Next) (items : List Item) : Type 0 where
  pub front : List ℕ
  pub is : whole ≡ front ++ more
  pub front_is : FrontIs hash t front items
  pub ends : EndsHeader t more

further : (whole front part rest more : List ℕ) → whole ≡ front ++ rest → rest ≡ part ++ more → whole ≡ (front ++ part) ++ more
further whole front part rest more p q = p ∙ ap (λ l. front ++ l) q ∙ sym (append_assoc front part more)

step_tree : (hash : HashKind) (whole front rest : List ℕ) (items : List Item) (i : Item) (more : List ℕ) (t : Next) → whole ≡ front ++ rest → FrontIs hash Tree front items → ItemAt hash Tree rest i more t → Stepped hash whole more t (items ++ i ∷ [])
step_tree hash whole front rest items i more t e f p =
    let g : TreeFront hash = record { tree = p.1.0; parents = []; tree_id = p.1.2.0; parent_ids = tt } in
    subst (λ u. Stepped hash whole more u (items ++ i ∷ [])) (sym p.0) (record {
      front = tree_front g;
      is = e ∙ ap (λ l. l ++ rest) f.0 ∙ p.1.2.1 ∙ ap (λ l. l ++ more) (sym (append-nil (text_line (codes "tree ") p.1.0)));
      front_is = (g, refl, ap (λ l. l ++ i ∷ []) f.1 ∙ ap (λ j. j ∷ []) p.1.1);
      ends = λ h. absurd (cc);
    })

step_parent : (hash : HashKind) (whole front rest : List ℕ) (items : List Item) (id more : List ℕ) → whole ≡ front ++ rest → FrontIs hash Parents front items → HasIdLine hash (codes "parent ") rest id more → Stepped hash whole more Parents (items ++ ParentId id ∷ [])
step_parent hash whole front rest items id more e (f, front_is, items_are) p =
    let g : TreeFront hash = record { tree = f.tree; parents = f.parents ++ id ∷ []; tree_id = f.tree_id; parent_ids = all_push (IsHexId hash) f.parents id f.parent_ids p.0 } in
    record {
      front = tree_front g;
      is = further whole (tree_front f) (text_line (codes "parent ") id) rest more (e ∙ ap (λ l. l ++ rest) front_is) p.1
          ∙ ap (λ l. l ++ more) (append_assoc (text_line (codes "tree ") f.tree) (flat_map (text_line (codes "parent ")) f.parents) (text_line (codes "parent ") id) ∙ ap (λ l. text_line (codes "tree ") f.tree ++ l) (sym (flat_map_push (text_line (codes "parent ")) f.parents id)));
      front_is = (g, refl, ap (λ l. l ++ ParentId id ∷ []) items_are ∙ ap (λ l. TreeId f.tree ∷ l) (sym (map_push ParentId f.parents id)));
      ends = λ h. absurd (cc);
    }

step_author : (hash : HashKind) (whole front rest : List ℕ) (items : List Item) (who : IdentityText) (more : List ℕ) → whole ≡ front ++ rest → FrontIs hash Parents front items → HasIdentityLine (codes "author ") rest who more → Stepped hash whole more Committer (items ++ AuthorIs who ∷ [])
step_author hash whole front rest items who more e (f, front_is, items_are) p =
    let g : AuthorFront hash = record { before = f; line = p.line; who = who; one = p.one; spells = p.spells } in
    record {
      front = author_front g;
      is = further whole (tree_front f) (text_line (codes "author ") p.line) rest more (e ∙ ap (λ l. l ++ rest) front_is) p.is;
      front_is = (g, refl, ap (λ l. l ++ AuthorIs who ∷ []) items_are);
      ends = λ h. absurd (cc);
    }

step_committer : (hash : HashKind) (whole front rest : List ℕ) (items : List Item) (who : IdentityText) (more : List ℕ) → whole ≡ front ++ rest → FrontIs hash Committer front items → HasIdentityLine (codes "committer ") rest who more → Stepped hash whole more Encoding (items ++ CommitterIs who ∷ [])
step_committer hash whole front rest items who more e (f, front_is, items_are) p =
    let g : CommitterFront hash = record { before = f; line = p.line; who = who; one = p.one; spells = p.spells } in
    record {
      front = committer_front g;
      is = further whole (author_front f) (text_line (codes "committer ") p.line) rest more (e ∙ ap (λ l. l ++ rest) front_is) p.is;
      front_is = (g, refl, ap (λ l. l ++ CommitterIs who ∷ []) items_are);
      ends = λ h. absurd (cc);
    }

step_first : (hash : HashKind) (whole front rest : List ℕ) (items : List Item) (h : HeaderText) (i : Item) (more : List ℕ) → whole ≡ front ++ rest → FrontIs hash Encoding front items → HasHeader rest h more → IsFirstItem h i → Stepped hash whole more Headers (items ++ i ∷ [])
step_first hash whole front rest items h i more e (f, front_is, items_are) p (inl q) =
    let g : HeadersFront hash = record { before = f; encoding = Some h.raw; headers = []; encoding_is = q.0.1; each = tt; some = inl (λ k. cc) } in
    let named : raw_line h ≡ encoding_line (Some h.raw) ++ [] = ap (λ n. n ++ (32 ∷ h.raw ++ 10 ∷ [])) q.0.0 ∙ sym (append-nil (encoding_line (Some h.raw))) in
    record {
      front = headers_front g;
      is = further whole (committer_front f) (encoding_line (Some h.raw) ++ []) rest more (e ∙ ap (λ l. l ++ rest) front_is) (p.is ∙ ap (λ l. l ++ more) named);
      front_is = (g, refl, ap (λ l. l ++ i ∷ []) items_are ∙ ap (λ j. committer_items f ++ j ∷ []) q.1);
      ends = λ _. p.ends;
    }
step_first hash whole front rest items h i more e (f, front_is, items_are) p (inr q) =
    let g : HeadersFront hash = record { before = f; encoding = None; headers = h ∷ []; encoding_is = q.0; each = (p.header, tt); some = inr (λ k. cc) } in
    record {
      front = headers_front g;
      is = further whole (committer_front f) (raw_line h ++ []) rest more (e ∙ ap (λ l. l ++ rest) front_is) (p.is ∙ ap (λ l. l ++ more) (sym (append-nil (raw_line h))));
      front_is = (g, refl, ap (λ l. l ++ i ∷ []) items_are ∙ ap (λ j. committer_items f ++ j ∷ []) q.1);
      ends = λ _. p.ends;
    }

-- a further header leaves the first as it is
more_headers : (encoding : Option (List ℕ)) (hs : List HeaderText) (h : HeaderText) → HasEncoding encoding hs → (encoding ≢ None) ⊎ (hs ≢ []) → HasEncoding encoding (hs ++ h ∷ [])
more_headers (Some text) hs h p some = p
more_headers None [] h p (inl some) = absurd (some refl)
more_headers None [] h p (inr some) = absurd (some refl)
more_headers None (k ∷ ks) h p some = p

still_some : (encoding : Option (List ℕ)) (hs : List HeaderText) (h : HeaderText) → (encoding ≢ None) ⊎ (hs ≢ []) → (encoding ≢ None) ⊎ (hs ++ h ∷ [] ≢ [])
still_some encoding hs h (inl p) = inl p
still_some encoding [] h (inr p) = absurd (p refl)
still_some encoding (k ∷ ks) h (inr p) = inr (λ e. cc)

step_header : (hash : HashKind) (whole front rest : List ℕ) (items : List Item) (h : HeaderText) (more : List ℕ) → whole ≡ front ++ rest → FrontIs hash Headers front items → HasHeader rest h more → Stepped hash whole more Headers (items ++ HeaderIs h ∷ [])
step_header hash whole front rest items h more e (f, front_is, items_are) p =
    let g : HeadersFront hash = record {
      before = f.before;
      encoding = f.encoding;
      headers = f.headers ++ h ∷ [];
      encoding_is = more_headers f.encoding f.headers h f.encoding_is f.some;
      each = all_push IsHeader f.headers h f.each p.header;
      some = still_some f.encoding f.headers h f.some;
    } in
    record {
      front = headers_front g;
      is = further whole (headers_front f) (raw_line h) rest more (e ∙ ap (λ l. l ++ rest) front_is) p.is
          ∙ ap (λ l. l ++ more) (append_assoc (committer_front f.before) (encoding_line f.encoding ++ flat_map raw_line f.headers) (raw_line h)
          ∙ ap (λ l. committer_front f.before ++ l) (append_assoc (encoding_line f.encoding) (flat_map raw_line f.headers) (raw_line h) ∙ ap (λ l. encoding_line f.encoding ++ l) (sym (flat_map_push raw_line f.headers h))));
      front_is = (
        g,
        refl,
        ap (λ l. l ++ HeaderIs h ∷ []) items_are ∙ append_assoc (committer_items f.before) (encoding_items f.encoding ++ map HeaderIs f.headers) (HeaderIs h ∷ [])
            ∙ ap (λ l. committer_items f.before ++ l) (append_assoc (encoding_items f.encoding) (map HeaderIs f.headers) (HeaderIs h ∷ []) ∙ ap (λ l. encoding_items f.encoding ++ l) (sym (map_push HeaderIs f.headers h))),
      );
      ends = λ _. p.ends;
    }

-- a commit of these parts
spelled : {hash : HashKind} (f : CommitterFront hash) (encoding : Option (List ℕ)) (hs : List HeaderText) (text : List ℕ) → HasEncoding encoding hs → AllByRecursion IsHeader hs
    → FrontIs hash End (late_text f.before.before.tree f.before.before.parents f.before.line f.line encoding hs ++ 10 ∷ text) (committer_items f ++ (encoding_items encoding ++ (map HeaderIs hs ++ MessageIs text ∷ [])))
spelled f encoding hs text p q = (
  record { tree = f.before.before.tree; parents = f.before.before.parents; author = f.before.who; committer = f.who; encoding = encoding; extra_headers = hs; message = text },
  record {
    author_line = f.before.line;
    committer_line = f.line;
    whole = late_text_is f.before.before.tree f.before.before.parents f.before.line f.line encoding hs (10 ∷ text);
    tree_id = f.before.before.tree_id;
    parent_ids = f.before.before.parent_ids;
    author_open = f.before.one;
    author_is = f.before.spells;
    committer_open = f.one;
    committer_is = f.spells;
    encoding_is = p;
    headers = q;
  },
  simp append_assoc,
)

step_message : (hash : HashKind) (whole front rest : List ℕ) (items : List Item) (f : CommitterFront hash) (encoding : Option (List ℕ)) (hs : List HeaderText) (i : Item) (more : List ℕ) (t : Next)
    → HasEncoding encoding hs → AllByRecursion IsHeader hs → whole ≡ front ++ rest → front ≡ late_text f.before.before.tree f.before.before.parents f.before.line f.line encoding hs
    → items ≡ committer_items f ++ (encoding_items encoding ++ map HeaderIs hs) → IsMessage rest i more t → Stepped hash whole more t (items ++ i ∷ [])
step_message hash whole front rest items f encoding hs i more t p q e front_is items_are m =
    let text = m.2.0 in
    let all_items : items ++ i ∷ [] ≡ committer_items f ++ (encoding_items encoding ++ (map HeaderIs hs ++ MessageIs text ∷ [])) =
    ap (λ l. l ++ i ∷ []) items_are ∙ append_assoc (committer_items f) (encoding_items encoding ++ map HeaderIs hs) (i ∷ [])
    ∙ ap (λ l. committer_items f ++ l) (append_assoc (encoding_items encoding) (map HeaderIs hs) (i ∷ []) ∙ ap (λ j. encoding_items encoding ++ (map HeaderIs hs ++ j ∷ [])) m.2.1) in
    subst (λ u. Stepped hash whole more u (items ++ i ∷ [])) (sym m.0) (record {
      front = late_text f.before.before.tree f.before.before.parents f.before.line f.line encoding hs ++ 10 ∷ text;
      is = e ∙ ap (λ l. l ++ rest) front_is ∙ ap (λ l. late_text f.before.before.tree f.before.before.parents f.before.line f.line encoding hs ++ l) m.2.2 ∙ sym (append-nil (late_text f.before.before.tree f.before.before.parents f.before.line f.line encoding hs ++ 10 ∷ text))
          ∙ ap (λ l. (late_text f.before.before.tree f.before.before.parents f.before.line f.line encoding hs ++ 10 ∷ text) ++ l) (sym m.1);
      front_is = subst (FrontIs hash End (late_text f.before.before.tree f.before.before.parents f.before.line f.line encoding hs ++ 10 ∷ text)) (sym all_items) (spelled f encoding hs text p q);
      ends = λ h. absurd (cc);
    })

pub stepped : (hash : HashKind) (s : Next) (whole front rest : List ℕ) (items : List Item) (i : Item) (more : List ℕ) (t : Next) → whole ≡ front ++ rest → FrontIs hash s front items → ItemAt hash s rest i more t → Stepped hash whole more t (items ++ i ∷ [])
stepped hash Tree whole front rest items i more t e f p = step_tree hash whole front rest items i more t e f p
stepped hash Parents whole front rest items i more t e f (inl p) =
    subst (λ u. Stepped hash whole more u (items ++ i ∷ [])) (sym p.0) (subst (λ j. Stepped hash whole more Parents (items ++ j ∷ [])) (sym p.1.1) (step_parent hash whole front rest items p.1.0 more e f p.1.2))
stepped hash Parents whole front rest items i more t e f (inr p) =
    subst (λ u. Stepped hash whole more u (items ++ i ∷ [])) (sym p.0) (subst (λ j. Stepped hash whole more Committer (items ++ j ∷ [])) (sym p.1.1) (step_author hash whole front rest items p.1.0 more e f p.1.2))
stepped hash Committer whole front rest items i more t e f p =
    subst (λ u. Stepped hash whole more u (items ++ i ∷ [])) (sym p.0) (subst (λ j. Stepped hash whole more Encoding (items ++ j ∷ [])) (sym p.1.1) (step_committer hash whole front rest items p.1.0 more e f p.1.2))
stepped hash Encoding whole front rest items i more t e f (inl p) =
    subst (λ u. Stepped hash whole more u (items ++ i ∷ [])) (sym p.0) (step_first hash whole front rest items p.1.0 i more e f p.1.1 p.1.2)
stepped hash Encoding whole front rest items i more t e (f, front_is, items_are) (inr p) =
    step_message hash whole front rest items f None [] i more t tt tt e (front_is ∙ sym (append-nil (committer_front f))) (items_are ∙ sym (append-nil (committer_items f))) p
stepped hash Headers whole front rest items i more t e f (inl p) =
    subst (λ u. Stepped hash whole more u (items ++ i ∷ [])) (sym p.0) (subst (λ j. Stepped hash whole more Headers (items ++ j ∷ [])) (sym p.1.2) (step_header hash whole front rest items p.1.0 more e f p.1.1))
stepped hash Headers whole front rest items i more t e (f, front_is, items_are) (inr p) =
    step_message hash whole front rest items f.before f.encoding f.headers i more t f.encoding_is f.each e front_is items_are p
stepped hash End whole front rest items i more t e f p = absurd p

-- An item was given.
pub next_some : (old : CommitPlace) (token : CommitToken) (rest : List ℕ) (next : Next) → HasKind old.hash (Some (Ok token)) → ItemAt old.hash old.next old.rest (item_of token) rest next
    → NextItem old (Some (Ok token)) (record { bytes = old.bytes; rest = rest; next = next; hash = old.hash })
next_some old token rest next kind p = record { bytes = refl; hash = refl; kind = kind; left = left; given = given }
  where
    new : CommitPlace
    new = record { bytes = old.bytes; rest = rest; next = next; hash = old.hash }

    left : (items : List Item) → Left old items → LeftBehind items (Some (Ok token)) (record { bytes = old.bytes; rest = rest; next = next; hash = old.hash })
    left [] l = let h : ItemAt old.hash End old.rest (item_of token) rest next = subst (λ s. ItemAt old.hash s old.rest (item_of token) rest next) l p in absurd h
    left (i ∷ is) l =
        let r = one_item old.hash old.next old.rest i (item_of token) l.0 rest l.1 next l.2 p in
        (token, refl, sym r.0, subst (λ t. ReadsAll old.hash t rest is) r.2 (subst (λ b. ReadsAll old.hash l.1 b is) r.1 l.3))

    given : (items : List Item) → Given old items → GivenBehind old items (Some (Ok token)) (record { bytes = old.bytes; rest = rest; next = next; hash = old.hash })
    given items g =
        let s = stepped old.hash old.next old.bytes g.front old.rest items (item_of token) rest next g.whole g.front_is p in
        record { front = s.front; whole = s.is; front_is = s.front_is; ends = s.ends }

-- No item was given.
record Begun (hash : HashKind) (s : Next) (front : List ℕ) : Type 0 where
  leads : Leads hash Tree front s
  begins : BeginsCommit hash front

late_of : (encoding : Option (List ℕ)) (hs : List HeaderText) → (encoding ≢ None) ⊎ (hs ≢ []) → late_stage encoding hs ≡ Headers
late_of (Some text) hs p = refl
late_of None (h ∷ hs) p = refl
late_of None [] (inl p) = absurd (p refl)
late_of None [] (inr p) = absurd (p refl)

begun : (hash : HashKind) (s : Next) (front : List ℕ) (items : List Item) → s ≢ End → FrontIs hash s front items → Begun hash s front
begun hash Tree front items e p = subst (Begun hash Tree) (sym p.0) (record { leads = leads_none hash Tree; begins = begins_tree hash })
begun hash Parents front items e (f, is, items_are) = subst (Begun hash Parents) (sym is) (record { leads = leads_to_author hash f.tree f.parents f.tree_id f.parent_ids; begins = begins_parents hash f.tree f.parents f.tree_id f.parent_ids })
begun hash Committer front items e (f, is, items_are) = subst (Begun hash Committer) (sym is) (record {
  leads = leads_to_committer hash f.before.tree f.before.parents f.line f.who f.before.tree_id f.before.parent_ids f.one f.spells;
  begins = begins_committer hash f.before.tree f.before.parents f.line f.who f.before.tree_id f.before.parent_ids f.one f.spells;
})
begun hash Encoding front items e (f, is, items_are) = subst (Begun hash Encoding) (sym is) (record {
  leads = leads_to_encoding hash f.before.before.tree f.before.before.parents f.before.line f.line f.before.who f.who f.before.before.tree_id f.before.before.parent_ids f.before.one f.before.spells f.one f.spells;
  begins = subst (BeginsCommit hash) (append-nil (committer_front f))
      (begins_late hash f.before.before.tree f.before.before.parents f.before.line f.line f.before.who f.who None [] f.before.before.tree_id f.before.before.parent_ids f.before.one f.before.spells f.one f.spells tt tt);
})
begun hash Headers front items e (f, is, items_are) =
    let k = f.before in
    subst (Begun hash Headers) (sym is) (record {
      leads = subst (Leads hash Tree (headers_front f)) (late_of f.encoding f.headers f.some)
          (leads_to_message hash k.before.before.tree k.before.before.parents k.before.line k.line k.before.who k.who f.encoding f.headers k.before.before.tree_id k.before.before.parent_ids k.before.one k.before.spells k.one k.spells f.encoding_is f.each);
      begins = begins_late hash k.before.before.tree k.before.before.parents k.before.line k.line k.before.who k.who f.encoding f.headers k.before.before.tree_id k.before.before.parent_ids k.before.one k.before.spells k.one k.spells f.encoding_is f.each;
    })
begun hash End front items e p = absurd (e refl)

pub next_none : (old : CommitPlace) (error : DecodeError) → old.next ≢ End → (EndsHeader old.next old.rest → Stuck old.hash old.next old.rest) → error ≡ Decode (length old.bytes - length old.rest)
    → NextItem old (Some (Err error)) (record { bytes = old.bytes; rest = old.rest; next = End; hash = old.hash })
next_none old error other stuck place = record { bytes = refl; hash = refl; kind = tt; left = left; given = given }
  where
    left : (items : List Item) → Left old items → LeftBehind items (Some (Err error)) (record { bytes = old.bytes; rest = old.rest; next = End; hash = old.hash })
    left [] l = absurd (other l)
    left (i ∷ is) l = absurd (item_not_stuck old.hash old.next old.rest i l.0 l.1 l.2 (stuck (item_no_fold old.hash old.next old.rest i l.0 l.1 l.2)))

    given : (items : List Item) → Given old items → GivenBehind old items (Some (Err error)) (record { bytes = old.bytes; rest = old.rest; next = End; hash = old.hash })
    given items g =
        let b = begun old.hash old.next g.front items other g.front_is in
        let at = length old.bytes - length old.rest in (
          refl,
          subst (IsRefusal old) (sym place) (
            refused_at old.hash old.bytes g.front old.rest old.next at (Decode at) g.whole b.leads other (stuck g.ends) b.begins refl refl,
            omega (arith, ap length g.whole, length-append g.front old.rest),
          ),
        )

-- Stages put together.
abbrev Found : HashKind → Next → List ℕ → CommitToken × Bor (List ℕ) × Stage → Type 0
Found hash s bytes p = ItemAt hash s bytes (item_of p.0) p.1.now (next_of p.2)

pub any_stage : (hash : HashKind) (s t : Stage) (bytes : List ℕ) (r : Option (CommitToken × Bor (List ℕ) × Stage)) → t ≡ s → MatchOption r (Stuck hash (next_of s) bytes) (Found hash (next_of s) bytes)
    → MatchOption r (EndsHeader (next_of t) bytes → Stuck hash (next_of t) bytes) (Found hash (next_of t) bytes)
any_stage hash s t bytes None e m = λ _. subst (λ u. Stuck hash (next_of u) bytes) (sym e) m
any_stage hash s t bytes (Some p) e m = subst (λ u. Found hash (next_of u) bytes p) (sym e) m

pub header_stage : (hash : HashKind) (t : Stage) (bytes : List ℕ) (r : Option (CommitToken × Bor (List ℕ) × Stage)) → t ≡ stage.Headers → MatchOption r (IsNoFold bytes → Stuck hash Headers bytes) (Found hash Headers bytes)
    → MatchOption r (EndsHeader (next_of t) bytes → Stuck hash (next_of t) bytes) (Found hash (next_of t) bytes)
header_stage hash t bytes None e m = λ ends. subst (λ u. Stuck hash (next_of u) bytes) (sym e) (m (ends (ap next_of e)))
header_stage hash t bytes (Some p) e m = subst (λ u. Found hash (next_of u) bytes p) (sym e) m

pub at_end : (s : Stage) → next_of s ≡ End → s ≡ stage.End
at_end stage.Tree e = absurd (cc)
at_end stage.Parents e = absurd (cc)
at_end stage.Committer e = absurd (cc)
at_end stage.Encoding e = absurd (cc)
at_end stage.Headers e = absurd (cc)
at_end stage.End e = refl
