-- Where bytes that spell no commit go wrong.
use Rattle.std.proofs.Common.{◌≡◌, ◌≢◌, ◌∙◌, sym, ap, refl, subst, ℕ, ◌-◌, ◌≤◌, ◌==◌, Bool, false, cond, List, [], ◌∷◌, ◌++◌, length, replicate, zero, suc, ◌*◌, codes, arith, append_assoc, length-append, Option, Some, None, ◌⊎◌, inl, inr}
use Rattle.std.specs.List.{flat_map, AllByRecursion}
use Rattle.std.proofs.lemmas.Bool.Decides.{eqb_tells}
use Rattle.std.proofs.lemmas.List.{append-nil, length-replicate}
use Rattle.gx_hash.specs.HashKind.{len_in_bytes}
use Rattle.gx_hash.specs.declared.kind.HashKind.{HashKind}
use Rattle.gx_object.specs.CommitNext.{Next, Tree, Parents, Committer, Encoding, Headers, End}
use Rattle.gx_object.specs.declared.decode.DecodeError.{DecodeError}
use Rattle.gx_object.specs.declared.decode.DecodeError.TheVariants.{Decode}
use Rattle.gx_object.specs.Commit.{encoding_line}
use Rattle.gx_object.specs.IdentitySpelling.{IdentityText, SpellsIdentity}
use Rattle.gx_hash.specs.IdDigits.{IsHexId, IsLowerHexDigit}
use Rattle.gx_object.specs.CommitSpelling.{IsOneLine, HeaderText, CommitText, IsHeader, IsHeaderName, HasEncoding, raw_line, text_line, folded, SpellsCommit, BeginsCommit, IsWholeLines, IsNoCommit}
use Rattle.gx_object.specs.CommitItems.{Allows, Stuck}
use Rattle.gx_object.specs.CommitLines.{HasLine, IsHeaderLine, IsNotBehind, IsNoIdLine, IsNoIdentityLine, IsNoHeader, IsNoFold}
use Rattle.gx_object.specs.Laws.LineLemmas.{same_split, without_append, name_without_newline}

-- whole lines, and what follows them
abbrev pub joined : List (List ℕ) → List ℕ → List ℕ
joined [] rest = rest
joined (l ∷ ls) rest = l ++ 10 ∷ joined ls rest

-- a parent's line begins with p
abbrev pub begins_parent : List ℕ → Bool
begins_parent [] = false
begins_parent (b ∷ bs) = b == 112

abbrev pub unless_empty : List ℕ → Next
unless_empty [] = End
unless_empty (b ∷ bs) = Headers

-- what comes after the line
abbrev pub behind : Next → List ℕ → Next
behind Tree line = Parents
behind Parents line = cond (begins_parent line) Parents Committer
behind Committer line = Encoding
behind Encoding line = unless_empty line
behind Headers line = unless_empty line
behind End line = End

-- the lines lead from one stage to another
abbrev pub AllowsAll : HashKind → Next → List (List ℕ) → Next → Type 0
AllowsAll hash s [] t = s ≡ t
AllowsAll hash s (l ∷ ls) t = IsOneLine l × (Allows hash s l × AllowsAll hash (behind s l) ls t)

pub record Leads (hash : HashKind) (s : Next) (text : List ℕ) (t : Next) : Type 0 where
  pub lines : List (List ℕ)
  pub is : text ≡ joined lines []
  pub all : AllowsAll hash s lines t

pub joined-append : (lines : List (List ℕ)) (x y : List ℕ) → joined lines x ++ y ≡ joined lines (x ++ y)
joined-append [] x y = refl
joined-append (l ∷ ls) x y = append_assoc l (10 ∷ joined ls x) y ∙ ap (λ r. l ++ 10 ∷ r) (joined-append ls x y)

joined_both : (as' bs : List (List ℕ)) (x : List ℕ) → joined (as' ++ bs) x ≡ joined as' (joined bs x)
joined_both [] bs x = refl
joined_both (l ∷ ls) bs x = ap (λ r. l ++ 10 ∷ r) (joined_both ls bs x)

allows_both : (hash : HashKind) (s : Next) (as' bs : List (List ℕ)) (t u : Next) → AllowsAll hash s as' t → AllowsAll hash t bs u → AllowsAll hash s (as' ++ bs) u
allows_both hash s [] bs t u p q = subst (λ r. AllowsAll hash r bs u) (sym p) q
allows_both hash s (l ∷ ls) bs t u p q = (p.0, (p.1.0, allows_both hash (behind s l) ls bs t u p.1.1 q))

pub leads_then : (hash : HashKind) (s t u : Next) (a b : List ℕ) → Leads hash s a t → Leads hash t b u → Leads hash s (a ++ b) u
leads_then hash s t u a b p q = record {
  lines = p.lines ++ q.lines;
  is = ap (λ l. l ++ b) p.is ∙ joined-append p.lines [] b ∙ ap (joined p.lines) q.is ∙ sym (joined_both p.lines q.lines []);
  all = allows_both hash s p.lines q.lines t u p.all q.all;
}

pub leads_none : (hash : HashKind) (s : Next) → Leads hash s [] s
leads_none hash s = record { lines = []; is = refl; all = refl }

pub leads_line : (hash : HashKind) (s t : Next) (line : List ℕ) → IsOneLine line → Allows hash s line → behind s line ≡ t → Leads hash s (line ++ 10 ∷ []) t
leads_line hash s t line p q e = record { lines = line ∷ []; is = refl; all = (p, (q, e)) }

-- One place.
same_first : (a b x y : List ℕ) → IsOneLine a → IsOneLine b → a ++ 10 ∷ x ≡ b ++ 10 ∷ y → (a ≡ b) × (x ≡ y)
same_first a b x y p q e = same_split 10 a b x y p q e

-- a stage that is stuck lets no lines through
stuck_here : (hash : HashKind) (t : Next) (rest : List ℕ) → (t ≢ End) → Stuck hash t rest → (lines : List (List ℕ)) (message : List ℕ) → AllowsAll hash t lines End → rest ≡ joined lines message → ⊥
stuck_here hash t rest other stuck [] message all e = other all
stuck_here hash t rest other stuck (l ∷ ls) message all e = stuck l (joined ls message) (record { is = e; one = all.0 }) all.1.0

none_through : (hash : HashKind) (s t : Next) (front : List (List ℕ)) (rest : List ℕ) → AllowsAll hash s front t → t ≢ End → Stuck hash t rest
    → (lines : List (List ℕ)) (message : List ℕ) → AllowsAll hash s lines End → joined front rest ≡ joined lines message → ⊥
none_through hash s t [] rest p other stuck lines message all e = stuck_here hash t rest other stuck lines message (subst (λ r. AllowsAll hash r lines End) p all) e
none_through hash s t (f ∷ fs) rest p other stuck [] message all e = let h : Allows hash End f = subst (λ r. Allows hash r f) all p.1.0 in h
none_through hash s t (f ∷ fs) rest p other stuck (l ∷ ls) message all e =
    let r = same_first f l (joined fs rest) (joined ls message) p.0 all.0 e in
    none_through hash (behind s f) t fs rest p.1.1 other stuck ls message (subst (λ line. AllowsAll hash (behind s line) ls End) (sym r.0) all.1.1) r.1

-- front' are the lines of another front
no_longer : (hash : HashKind) (s t : Next) (front : List (List ℕ)) (rest : List ℕ) → AllowsAll hash s front t → t ≢ End → Stuck hash t rest
    → (other : List (List ℕ)) (rest' : List ℕ) → AllByRecursion IsOneLine other → joined front rest ≡ joined other rest'
    → (lines : List (List ℕ)) (more message : List ℕ) → AllowsAll hash s lines End → joined other more ≡ joined lines message → length (joined other []) ≤ length (joined front [])
no_longer hash s t front rest p end stuck [] rest' each e lines more message all f = omega arith
no_longer hash s t front rest p end stuck (o ∷ os) rest' each e [] more message all f = elim front as (λ v. AllowsAll hash s v t → length (joined (o ∷ os) []) ≤ length (joined v [])) [
  | [] ↦ λ q. absurd (end (sym q ∙ all))
  | x ∷ xs ↦ λ q. let h : Allows hash End x = subst (λ r. Allows hash r x) all q.1.0 in absurd h
] p
no_longer hash s t [] rest p end stuck (o ∷ os) rest' each e (l ∷ ls) more message all f =
    let r = same_first o l (joined os more) (joined ls message) each.0 all.0 f in
    absurd (stuck o (joined os rest') (record { is = e; one = each.0 }) (subst (λ line. Allows hash t line) (sym r.0) (subst (λ u. Allows hash u l) p all.1.0)))
no_longer hash s t (x ∷ xs) rest p end stuck (o ∷ os) rest' each e (l ∷ ls) more message all f =
    let r = same_first o l (joined os more) (joined ls message) each.0 all.0 f in
    let q = same_first x o (joined xs rest) (joined os rest') p.0 each.0 e in
    let same : x ≡ l = q.0 ∙ r.0 in
    let h = no_longer hash (behind s x) t xs rest p.1.1 end stuck os rest' each.1 q.1 ls more message (subst (λ line. AllowsAll hash (behind s line) ls End) (sym same) all.1.1) r.1 in
    omega (arith, h, length-append x (10 ∷ joined xs []), length-append o (10 ∷ joined os []), ap length q.0)

-- The lines of a commit's parts.
pub hex_open : (text : List ℕ) → AllByRecursion IsLowerHexDigit text → IsOneLine text
hex_open [] p = tt
hex_open (b ∷ bs) p = ((λ e. elim p.0 [ inl h ↦ absurd (omega (arith, e, h.0)) | inr h ↦ absurd (omega (arith, e, h.0)) ]), hex_open bs p.1)

text_line_is : (word text : List ℕ) → text_line word text ≡ (word ++ text) ++ 10 ∷ []
text_line_is word text = sym (append_assoc word text (10 ∷ []))

leads_text : (hash : HashKind) (s t : Next) (word text : List ℕ) → IsOneLine word → IsOneLine text → Allows hash s (word ++ text) → behind s (word ++ text) ≡ t → Leads hash s (text_line word text) t
leads_text hash s t word text p q a e = subst (λ l. Leads hash s l t) (sym (text_line_is word text)) (leads_line hash s t (word ++ text) (without_append 10 word text p q) a e)

pub tree_word : IsOneLine (codes "tree ")
tree_word = (omega arith, (omega arith, (omega arith, (omega arith, (omega arith, tt)))))

pub parent_word : IsOneLine (codes "parent ")
parent_word = (omega arith, (omega arith, (omega arith, (omega arith, (omega arith, (omega arith, (omega arith, tt)))))))

pub author_word : IsOneLine (codes "author ")
author_word = (omega arith, (omega arith, (omega arith, (omega arith, (omega arith, (omega arith, (omega arith, tt)))))))

pub committer_word : IsOneLine (codes "committer ")
committer_word = (omega arith, (omega arith, (omega arith, (omega arith, (omega arith, (omega arith, (omega arith, (omega arith, (omega arith, (omega arith, tt))))))))))

encoding_word : IsOneLine (codes "encoding ")
encoding_word = (omega arith, (omega arith, (omega arith, (omega arith, (omega arith, (omega arith, (omega arith, (omega arith, (omega arith, tt)))))))))

pub encoding_name : IsHeaderName (codes "encoding")
encoding_name = ((λ e. cc), ((omega arith, omega arith), ((omega arith, omega arith), ((omega arith, omega arith), ((omega arith, omega arith), ((omega arith, omega arith), ((omega arith, omega arith), ((omega arith, omega arith), ((omega arith, omega arith), tt)))))))))

pub leads_tree : (hash : HashKind) (id : List ℕ) → IsHexId hash id → Leads hash Tree (text_line (codes "tree ") id) Parents
leads_tree hash id p = leads_text hash Tree Parents (codes "tree ") id tree_word (hex_open id p.digits) (id, p, refl) refl

pub leads_parents : (hash : HashKind) (ids : List (List ℕ)) → AllByRecursion (IsHexId hash) ids → Leads hash Parents (flat_map (text_line (codes "parent ")) ids) Parents
leads_parents hash [] p = leads_none hash Parents
leads_parents hash (id ∷ ids) p =
    leads_then hash Parents Parents Parents (text_line (codes "parent ") id) (flat_map (text_line (codes "parent ")) ids)
    (leads_text hash Parents Parents (codes "parent ") id parent_word (hex_open id p.0.digits) (inl (id, p.0, refl)) refl)
    (leads_parents hash ids p.1)

pub leads_author : (hash : HashKind) (line : List ℕ) (who : IdentityText) → IsOneLine line → SpellsIdentity line who → Leads hash Parents (text_line (codes "author ") line) Committer
leads_author hash line who p q = leads_text hash Parents Committer (codes "author ") line author_word p (inr (line, who, q, refl)) refl

pub leads_committer : (hash : HashKind) (line : List ℕ) (who : IdentityText) → IsOneLine line → SpellsIdentity line who → Leads hash Committer (text_line (codes "committer ") line) Encoding
leads_committer hash line who p q = leads_text hash Committer Encoding (codes "committer ") line committer_word p (line, who, q, refl) refl

leads_value : (hash : HashKind) (s : Next) (value front : List ℕ) → IsOneLine front → ((text : List ℕ) → Allows hash s (front ++ text)) → ((text : List ℕ) → behind s (front ++ text) ≡ Headers) → Leads hash s (front ++ (folded value ++ 10 ∷ [])) Headers
leads_value hash s [] front p allows leads = leads_line hash s Headers front p (subst (Allows hash s) (append-nil front) (allows [])) (ap (behind s) (sym (append-nil front)) ∙ leads [])
leads_value hash s (b ∷ bs) front p allows leads = elim (eqb_tells b 10) [
  | inl h ↦ rw h.0 (subst (λ l. Leads hash s l Headers) (append_assoc front (b ∷ []) (32 ∷ (folded bs ++ 10 ∷ [])) ∙ ap (λ n. front ++ n ∷ 32 ∷ (folded bs ++ 10 ∷ [])) h.1)
      (leads_then hash s Headers Headers (front ++ b ∷ []) (32 ∷ (folded bs ++ 10 ∷ []))
      (subst (λ n. Leads hash s (front ++ n ∷ []) Headers) (sym h.1) (leads_line hash s Headers front p (subst (Allows hash s) (append-nil front) (allows [])) (ap (behind s) (sym (append-nil front)) ∙ leads [])))
      (leads_value hash Headers bs (32 ∷ []) (omega arith, tt) (λ text. inr (inr (text, refl))) (λ text. refl))))
  | inr h ↦ rw h.0 (subst (λ l. Leads hash s l Headers) (append_assoc front (b ∷ []) (folded bs ++ 10 ∷ []))
      (leads_value hash s bs (front ++ b ∷ []) (without_append 10 front (b ∷ []) p (h.1, tt))
      (λ text. subst (Allows hash s) (sym (append_assoc front (b ∷ []) text)) (allows (b ∷ text)))
      (λ text. ap (behind s) (append_assoc front (b ∷ []) text) ∙ leads (b ∷ text))))
]

-- headers follow the committer, or other headers
abbrev pub IsLate : Next → Type 0
IsLate s = (s ≡ Encoding) ⊎ (s ≡ Headers)

pub late_is_not_end : (s : Next) → IsLate s → s ≢ End
late_is_not_end s (inl e) f = let h : Encoding ≡ End = sym e ∙ f in absurd (cc)
late_is_not_end s (inr e) f = let h : Headers ≡ End = sym e ∙ f in absurd (cc)

late_header : (hash : HashKind) (s : Next) → IsLate s → (line : List ℕ) → IsHeaderLine line → Allows hash s line
late_header hash s (inl e) line p = let h : Allows hash Encoding line = inr p in subst (λ r. Allows hash r line) (sym e) h
late_header hash s (inr e) line p = let h : Allows hash Headers line = inr (inl p) in subst (λ r. Allows hash r line) (sym e) h

late_behind : (s : Next) → IsLate s → (b : ℕ) (bs : List ℕ) → behind s (b ∷ bs) ≡ Headers
late_behind s (inl e) b bs = ap (λ r. behind r (b ∷ bs)) e
late_behind s (inr e) b bs = ap (λ r. behind r (b ∷ bs)) e

late_named : (s : Next) → IsLate s → (name text : List ℕ) → name ≢ [] → behind s (name ++ text) ≡ Headers
late_named s late [] text some = absurd (some refl)
late_named s late (b ∷ bs) text some = late_behind s late b (bs ++ text)

pub leads_header : (hash : HashKind) (s : Next) (h : HeaderText) → IsLate s → IsHeader h → Leads hash s (raw_line h) Headers
leads_header hash s h late is =
    let front = h.name ++ 32 ∷ [] in
    let text_is : (text : List ℕ) → front ++ text ≡ h.name ++ 32 ∷ text = λ text. append_assoc h.name (32 ∷ []) text in
    subst (λ l. Leads hash s l Headers) (ap (λ v. front ++ (v ++ 10 ∷ [])) (sym is.1.1) ∙ text_is (h.raw ++ 10 ∷ []))
    (leads_value hash s is.1.0 front (without_append 10 h.name (32 ∷ []) (name_without_newline h.name is.0.1) (omega arith, tt))
    (λ text. late_header hash s late (front ++ text) (h.name, text, is.0, text_is text))
    (λ text. ap (behind s) (text_is text) ∙ late_named s late h.name (32 ∷ text) is.0.0))

pub leads_headers : (hash : HashKind) (hs : List HeaderText) → AllByRecursion IsHeader hs → Leads hash Headers (flat_map raw_line hs) Headers
leads_headers hash [] p = leads_none hash Headers
leads_headers hash (h ∷ hs) p = leads_then hash Headers Headers Headers (raw_line h) (flat_map raw_line hs) (leads_header hash Headers h (inr refl) p.0) (leads_headers hash hs p.1)

-- the stage after an encoding and headers
abbrev pub late_stage : Option (List ℕ) → List HeaderText → Next
late_stage None [] = Encoding
late_stage None (h ∷ hs) = Headers
late_stage (Some text) hs = Headers

pub stage_is_late : (encoding : Option (List ℕ)) (hs : List HeaderText) → IsLate (late_stage encoding hs)
stage_is_late None [] = inl refl
stage_is_late None (h ∷ hs) = inr refl
stage_is_late (Some text) hs = inr refl

pub leads_late : (hash : HashKind) (encoding : Option (List ℕ)) (hs : List HeaderText) → HasEncoding encoding hs → AllByRecursion IsHeader hs → Leads hash Encoding (encoding_line encoding ++ flat_map raw_line hs) (late_stage encoding hs)
leads_late hash None [] e p = leads_none hash Encoding
leads_late hash None (h ∷ hs) e p = leads_then hash Encoding Headers Headers (raw_line h) (flat_map raw_line hs) (leads_header hash Encoding h (inl refl) p.0) (leads_headers hash hs p.1)
leads_late hash (Some text) hs e p =
    leads_then hash Encoding Headers Headers (encoding_line (Some text)) (flat_map raw_line hs)
    (leads_line hash Encoding Headers (codes "encoding " ++ text) (without_append 10 (codes "encoding ") text encoding_word e.1) (inr (codes "encoding", text, encoding_name, refl)) refl)
    (leads_headers hash hs p)

late_end : (hash : HashKind) (s : Next) → IsLate s → Leads hash s (10 ∷ []) End
late_end hash s (inl e) = subst (λ r. Leads hash r (10 ∷ []) End) (sym e) (leads_line hash Encoding End [] tt (inl refl) refl)
late_end hash s (inr e) = subst (λ r. Leads hash r (10 ∷ []) End) (sym e) (leads_line hash Headers End [] tt (inl refl) refl)

-- What a commit's lines are.
abbrev pub tree_text : List ℕ → List (List ℕ) → List ℕ
tree_text tree parents = text_line (codes "tree ") tree ++ flat_map (text_line (codes "parent ")) parents

abbrev pub author_text : List ℕ → List (List ℕ) → List ℕ → List ℕ
author_text tree parents author = tree_text tree parents ++ text_line (codes "author ") author

abbrev pub committer_text : List ℕ → List (List ℕ) → List ℕ → List ℕ → List ℕ
committer_text tree parents author committer = author_text tree parents author ++ text_line (codes "committer ") committer

abbrev pub late_text : List ℕ → List (List ℕ) → List ℕ → List ℕ → Option (List ℕ) → List HeaderText → List ℕ
late_text tree parents author committer encoding hs = committer_text tree parents author committer ++ (encoding_line encoding ++ flat_map raw_line hs)

pub leads_to_author : (hash : HashKind) (tree : List ℕ) (parents : List (List ℕ)) → IsHexId hash tree → AllByRecursion (IsHexId hash) parents → Leads hash Tree (tree_text tree parents) Parents
leads_to_author hash tree parents p q = leads_then hash Tree Parents Parents (text_line (codes "tree ") tree) (flat_map (text_line (codes "parent ")) parents) (leads_tree hash tree p) (leads_parents hash parents q)

pub leads_to_committer : (hash : HashKind) (tree : List ℕ) (parents : List (List ℕ)) (author : List ℕ) (who : IdentityText) → IsHexId hash tree → AllByRecursion (IsHexId hash) parents
    → IsOneLine author → SpellsIdentity author who → Leads hash Tree (author_text tree parents author) Committer
leads_to_committer hash tree parents author who p q a b = leads_then hash Tree Parents Committer (tree_text tree parents) (text_line (codes "author ") author) (leads_to_author hash tree parents p q) (leads_author hash author who a b)

pub leads_to_encoding : (hash : HashKind) (tree : List ℕ) (parents : List (List ℕ)) (author committer : List ℕ) (who whom : IdentityText) → IsHexId hash tree → AllByRecursion (IsHexId hash) parents
    → IsOneLine author → SpellsIdentity author who → IsOneLine committer → SpellsIdentity committer whom → Leads hash Tree (committer_text tree parents author committer) Encoding
leads_to_encoding hash tree parents author committer who whom p q a b d e =
    leads_then hash Tree Committer Encoding (author_text tree parents author) (text_line (codes "committer ") committer) (leads_to_committer hash tree parents author who p q a b) (leads_committer hash committer whom d e)

pub leads_to_message : (hash : HashKind) (tree : List ℕ) (parents : List (List ℕ)) (author committer : List ℕ) (who whom : IdentityText) (encoding : Option (List ℕ)) (hs : List HeaderText)
    → IsHexId hash tree → AllByRecursion (IsHexId hash) parents → IsOneLine author → SpellsIdentity author who → IsOneLine committer → SpellsIdentity committer whom
    → HasEncoding encoding hs → AllByRecursion IsHeader hs → Leads hash Tree (late_text tree parents author committer encoding hs) (late_stage encoding hs)
leads_to_message hash tree parents author committer who whom encoding hs p q a b d e f g =
    leads_then hash Tree Encoding (late_stage encoding hs) (committer_text tree parents author committer) (encoding_line encoding ++ flat_map raw_line hs)
    (leads_to_encoding hash tree parents author committer who whom p q a b d e) (leads_late hash encoding hs f g)

-- one text as the definition has it, and as its parts come
pub late_text_is : (tree : List ℕ) (parents : List (List ℕ)) (author committer : List ℕ) (encoding : Option (List ℕ)) (hs : List HeaderText) (more : List ℕ)
    → late_text tree parents author committer encoding hs ++ more
    ≡ text_line (codes "tree ") tree ++ (flat_map (text_line (codes "parent ")) parents ++ (text_line (codes "author ") author ++ (text_line (codes "committer ") committer ++ (encoding_line encoding ++ (flat_map raw_line hs ++ more)))))
late_text_is tree parents author committer encoding hs more = simp append_assoc

pub record LeadsTo (hash : HashKind) (bytes : List ℕ) : Type 0 where
  pub front : List ℕ
  pub message : List ℕ
  pub is : bytes ≡ front ++ message
  pub leads : Leads hash Tree front End

pub spelled_leads : (hash : HashKind) (bytes : List ℕ) (c : CommitText) → SpellsCommit hash bytes c → LeadsTo hash bytes
spelled_leads hash bytes c s = record {
  front = late_text c.tree c.parents s.author_line s.committer_line c.encoding c.extra_headers ++ 10 ∷ [];
  message = c.message;
  is = s.whole ∙ sym (late_text_is c.tree c.parents s.author_line s.committer_line c.encoding c.extra_headers (10 ∷ c.message))
      ∙ sym (append_assoc (late_text c.tree c.parents s.author_line s.committer_line c.encoding c.extra_headers) (10 ∷ []) c.message);
  leads = leads_then hash Tree (late_stage c.encoding c.extra_headers) End (late_text c.tree c.parents s.author_line s.committer_line c.encoding c.extra_headers) (10 ∷ [])
      (leads_to_message hash c.tree c.parents s.author_line s.committer_line c.author c.committer c.encoding c.extra_headers s.tree_id s.parent_ids s.author_open s.author_is s.committer_open s.committer_is s.encoding_is s.headers)
      (late_end hash (late_stage c.encoding c.extra_headers) (stage_is_late c.encoding c.extra_headers));
}

-- Whole lines.
record SplitLines (text : List ℕ) : Type 0 where
  first : List ℕ
  others : List (List ℕ)
  is : text ++ 10 ∷ [] ≡ joined (first ∷ others) []
  each : AllByRecursion IsOneLine (first ∷ others)

split_lines : (text : List ℕ) → SplitLines text
split_lines [] = record { first = []; others = []; is = refl; each = (tt, tt) }
split_lines (b ∷ bs) =
    let r = split_lines bs in
    elim (eqb_tells b 10) [
      | inl h ↦ record { first = []; others = r.first ∷ r.others; is = ap (λ n. n ∷ (bs ++ 10 ∷ [])) h.1 ∙ ap (λ l. 10 ∷ l) r.is; each = (tt, r.each) }
      | inr h ↦ record { first = b ∷ r.first; others = r.others; is = ap (λ l. b ∷ l) r.is; each = ((h.1, r.each.0), r.each.1) }
    ]

record AsLines (text : List ℕ) : Type 0 where
  lines : List (List ℕ)
  is : text ≡ joined lines []
  each : AllByRecursion IsOneLine lines

as_lines : (text : List ℕ) → IsWholeLines text → AsLines text
as_lines text (inl e) = record { lines = []; is = e; each = tt }
as_lines text (inr (front, e)) = let r = split_lines front in record { lines = r.first ∷ r.others; is = e ∙ r.is; each = r.each }

joined_whole : (lines : List (List ℕ)) → IsWholeLines (joined lines [])
joined_whole [] = inl refl
joined_whole (l ∷ ls) = elim (joined_whole ls) [
  | inl e ↦ inr (l, ap (λ r. l ++ 10 ∷ r) e)
  | inr p ↦ inr (l ++ 10 ∷ p.0, ap (λ r. l ++ 10 ∷ r) p.1 ∙ sym (append_assoc l (10 ∷ p.0) (10 ∷ [])))
]

lines_and_rest : (hash : HashKind) (s t : Next) (front rest : List ℕ) (p : Leads hash s front t) → front ++ rest ≡ joined p.lines rest
lines_and_rest hash s t front rest p = ap (λ l. l ++ rest) p.is ∙ joined-append p.lines [] rest

-- Where bytes stop.
pub refused : (hash : HashKind) (bytes front rest : List ℕ) (t : Next) (at : ℕ) → bytes ≡ front ++ rest → Leads hash Tree front t → t ≢ End → Stuck hash t rest → BeginsCommit hash front → at ≡ length front → IsNoCommit hash bytes at
refused hash bytes front rest t at e p end stuck begins place = record {
  none = λ c s.
      let q = spelled_leads hash bytes c s in
      none_through hash Tree t p.lines rest p.all end stuck q.leads.lines q.message q.leads.all
      (sym (lines_and_rest hash Tree t front rest p) ∙ sym e ∙ q.is ∙ lines_and_rest hash Tree End q.front q.message q.leads);
  front = front;
  place = place;
  good = record { rest = rest; whole = e; lines = subst IsWholeLines (sym p.is) (joined_whole p.lines); begins = begins };
  longest = λ other w.
      let q = spelled_leads hash (other ++ w.begins.more) w.begins.commit w.begins.spells in
      let l = as_lines other w.lines in
      let same : (x : List ℕ) → other ++ x ≡ joined l.lines x = λ x. ap (λ y. y ++ x) l.is ∙ joined-append l.lines [] x in
      let h = no_longer hash Tree t p.lines rest p.all end stuck l.lines w.rest l.each
      (sym (lines_and_rest hash Tree t front rest p) ∙ sym e ∙ w.whole ∙ same w.rest)
      q.leads.lines w.begins.more q.message q.leads.all
      (sym (same w.begins.more) ∙ q.is ∙ lines_and_rest hash Tree End q.front q.message q.leads) in
      omega (arith, h, ap length l.is, ap length p.is);
}

-- Stages that are stuck.
pub stuck_tree : (hash : HashKind) (rest : List ℕ) → IsNoIdLine hash (codes "tree ") rest → Stuck hash Tree rest
stuck_tree hash rest none line more has (text, id, is) = none text more id (subst (λ l. HasLine rest l more) is has)

pub stuck_parents : (hash : HashKind) (rest : List ℕ) → IsNoIdLine hash (codes "parent ") rest → IsNoIdentityLine (codes "author ") rest → Stuck hash Parents rest
stuck_parents hash rest none other line more has (inl (text, id, is)) = none text more id (subst (λ l. HasLine rest l more) is has)
stuck_parents hash rest none other line more has (inr (text, who, spells, is)) = other text more who spells (subst (λ l. HasLine rest l more) is has)

pub stuck_committer : (hash : HashKind) (rest : List ℕ) → IsNoIdentityLine (codes "committer ") rest → Stuck hash Committer rest
stuck_committer hash rest none line more has (text, who, spells, is) = none text more who spells (subst (λ l. HasLine rest l more) is has)

no_empty_line : (rest line more : List ℕ) → IsNotBehind (10 ∷ []) rest → HasLine rest line more → line ≡ [] → ⊥
no_empty_line rest line more none has e = none more (has.is ∙ ap (λ l. l ++ 10 ∷ more) e)

stuck_encoding : (hash : HashKind) (rest : List ℕ) → IsNoHeader rest → IsNotBehind (10 ∷ []) rest → Stuck hash Encoding rest
stuck_encoding hash rest none other line more has (inl e) = no_empty_line rest line more other has e
stuck_encoding hash rest none other line more has (inr is) = none line more is has

stuck_headers : (hash : HashKind) (rest : List ℕ) → IsNoHeader rest → IsNoFold rest → IsNotBehind (10 ∷ []) rest → Stuck hash Headers rest
stuck_headers hash rest none fold other line more has (inl e) = no_empty_line rest line more other has e
stuck_headers hash rest none fold other line more has (inr (inl is)) = none line more is has
stuck_headers hash rest none fold other line more has (inr (inr (text, is))) = fold text more (subst (λ l. HasLine rest l more) is has)

pub stuck_late : (hash : HashKind) (rest : List ℕ) (encoding : Option (List ℕ)) (hs : List HeaderText) → IsNoHeader rest → ((encoding ≡ None) × (hs ≡ [])) ⊎ IsNoFold rest → IsNotBehind (10 ∷ []) rest
    → Stuck hash (late_stage encoding hs) rest
stuck_late hash rest None [] none fold other = stuck_encoding hash rest none other
stuck_late hash rest None (h ∷ hs) none (inl e) other = let k : h ∷ hs ≡ [] = e.1 in absurd (cc)
stuck_late hash rest None (h ∷ hs) none (inr fold) other = stuck_headers hash rest none fold other
stuck_late hash rest (Some text) hs none (inl e) other = let k : Some text ≡ None = e.0 in absurd (cc)
stuck_late hash rest (Some text) hs none (inr fold) other = stuck_headers hash rest none fold other

-- Fronts that begin a commit.
zeros_are_digits : (n : ℕ) → AllByRecursion IsLowerHexDigit (replicate n 48)
zeros_are_digits zero = tt
zeros_are_digits (suc n) = (inl (omega arith, omega arith), zeros_are_digits n)

abbrev pub zeros : HashKind → List ℕ
zeros hash = replicate (2 * len_in_bytes hash) 48

pub zeros_id : (hash : HashKind) → IsHexId hash (zeros hash)
zeros_id hash = record { size = length-replicate (2 * len_in_bytes hash) 48; digits = zeros_are_digits (2 * len_in_bytes hash) }

abbrev nobody : IdentityText
nobody = record { name = []; email = []; time = [] }

abbrev blank : List ℕ
blank = codes "<>"

blank_open : IsOneLine blank
blank_open = (omega arith, (omega arith, tt))

blank_is : SpellsIdentity blank nobody
blank_is = record { before = []; behind = []; whole = refl; opens = λ h. absurd (omega (arith, h.1)); closes = λ h. absurd (omega (arith, h.1)); name = inr (refl, λ more e. absurd (omega (arith, ap length e, length-append more (32 ∷ [])))); time = inr (refl, λ more e. cc) }

abbrev commit_of : List ℕ → List (List ℕ) → IdentityText → IdentityText → Option (List ℕ) → List HeaderText → CommitText
commit_of tree parents who whom encoding hs = record { tree = tree; parents = parents; author = who; committer = whom; encoding = encoding; extra_headers = hs; message = [] }

begins : (hash : HashKind) (tree : List ℕ) (parents : List (List ℕ)) (author committer : List ℕ) (who whom : IdentityText) (encoding : Option (List ℕ)) (hs : List HeaderText)
    → IsHexId hash tree → AllByRecursion (IsHexId hash) parents → IsOneLine author → SpellsIdentity author who → IsOneLine committer → SpellsIdentity committer whom
    → HasEncoding encoding hs → AllByRecursion IsHeader hs → (front more : List ℕ) → front ++ more ≡ late_text tree parents author committer encoding hs ++ 10 ∷ [] → BeginsCommit hash front
begins hash tree parents author committer who whom encoding hs p q a b d e f g front more is = record {
  more = more;
  commit = commit_of tree parents who whom encoding hs;
  spells = record {
    author_line = author;
    committer_line = committer;
    whole = is ∙ late_text_is tree parents author committer encoding hs (10 ∷ []);
    tree_id = p;
    parent_ids = q;
    author_open = a;
    author_is = b;
    committer_open = d;
    committer_is = e;
    encoding_is = f;
    headers = g;
  };
}

pub begins_tree : (hash : HashKind) → BeginsCommit hash []
begins_tree hash = begins hash (zeros hash) [] blank blank nobody nobody None [] (zeros_id hash) tt blank_open blank_is blank_open blank_is tt tt [] (late_text (zeros hash) [] blank blank None [] ++ 10 ∷ []) refl

pub begins_parents : (hash : HashKind) (tree : List ℕ) (parents : List (List ℕ)) → IsHexId hash tree → AllByRecursion (IsHexId hash) parents → BeginsCommit hash (tree_text tree parents)
begins_parents hash tree parents p q =
    begins hash tree parents blank blank nobody nobody None [] p q blank_open blank_is blank_open blank_is tt tt
    (tree_text tree parents) (text_line (codes "author ") blank ++ (text_line (codes "committer ") blank ++ 10 ∷ [])) (simp append_assoc)

pub begins_committer : (hash : HashKind) (tree : List ℕ) (parents : List (List ℕ)) (author : List ℕ) (who : IdentityText) → IsHexId hash tree → AllByRecursion (IsHexId hash) parents
    → IsOneLine author → SpellsIdentity author who → BeginsCommit hash (author_text tree parents author)
begins_committer hash tree parents author who p q a b =
    begins hash tree parents author blank who nobody None [] p q a b blank_open blank_is tt tt
    (author_text tree parents author) (text_line (codes "committer ") blank ++ 10 ∷ []) (simp append_assoc)

pub begins_late : (hash : HashKind) (tree : List ℕ) (parents : List (List ℕ)) (author committer : List ℕ) (who whom : IdentityText) (encoding : Option (List ℕ)) (hs : List HeaderText)
    → IsHexId hash tree → AllByRecursion (IsHexId hash) parents → IsOneLine author → SpellsIdentity author who → IsOneLine committer → SpellsIdentity committer whom
    → HasEncoding encoding hs → AllByRecursion IsHeader hs → BeginsCommit hash (late_text tree parents author committer encoding hs)
begins_late hash tree parents author committer who whom encoding hs p q a b d e f g =
    begins hash tree parents author committer who whom encoding hs p q a b d e f g (late_text tree parents author committer encoding hs) (10 ∷ []) refl

-- the place of a refusal, as it is counted from the end
pub refused_at : (hash : HashKind) (bytes front rest : List ℕ) (t : Next) (at : ℕ) (error : DecodeError) → bytes ≡ front ++ rest → Leads hash Tree front t → t ≢ End → Stuck hash t rest → BeginsCommit hash front
    → error ≡ Decode at → error ≡ Decode (length bytes - length rest) → IsNoCommit hash bytes at
refused_at hash bytes front rest t at error e p end stuck begins is place =
    let same : at ≡ length bytes - length rest = cc in
    refused hash bytes front rest t at e p end stuck begins (omega (arith, same, ap length e, length-append front rest))
