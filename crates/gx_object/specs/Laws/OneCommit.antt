-- Bytes spell one commit at most.
use Rattle.std.proofs.Common.{◌≡◌, ◌≢◌, ◌∙◌, sym, ap, refl, subst, ℕ, List, [], ◌∷◌, ◌++◌, map, codes, arith, append_assoc, Option, Some, None, ◌⊎◌, inl, inr, Result, Ok, Err}
use Rattle.std.specs.List.{flat_map, AllByRecursion}
use Rattle.std.specs.Prelude.{Contains, IfOk, IfErr, MatchResult}
use Rattle.std.proofs.lemmas.Bool.Decides.{eqb_tells}
use Rattle.std.proofs.lemmas.List.{append-nil, append_cancel_left, append_cancel_right, get_or_default}
use Rattle.std.proofs.lemmas.List.Elements.{recursion_from_All}
use Rattle.gx_hash.specs.declared.kind.HashKind.{HashKind}
use Rattle.gx_object.specs.CommitNext.{Next, Tree, Parents, Committer, Encoding, Headers, End}
use Rattle.gx_object.specs.declared.commit.decode.CommitRef.{CommitRef}
use Rattle.gx_object.specs.declared.decode.DecodeError.{DecodeError}
use Rattle.gx_object.specs.declared.decode.DecodeError.TheVariants.{Decode, NoMemory}
use Rattle.gx_object.specs.Commit.{encoding_line, folded_byte}
use Rattle.gx_object.specs.IdentitySpelling.{IdentityText, SpellsIdentity, DropsSpaceBehind, DropsSpaceInFront}
use Rattle.gx_hash.specs.IdDigits.{IsHexId}
use Rattle.gx_object.specs.CommitSpelling.{IsOneLine, HeaderText, CommitText, IsHeader, HasEncoding, raw_line, text_line, folded, SpellsCommit, CommitCauses, commit_text}
use Rattle.gx_object.specs.CommitLines.{HasIdentityLine, HasHeader, IsNoFold}
use Rattle.gx_object.specs.CommitItems.{Item, TreeId, ParentId, AuthorIs, CommitterIs, EncodingIs, HeaderIs, MessageIs, late_items, items_of, HasIdLine, IsFirstItem, IsMessage, ItemAt, ReadsAll}
use Rattle.gx_object.specs.Laws.LineLemmas.{Without, has_byte, same_split, name_without_space, name_without_newline, folded_line, raw_line_open}
use Rattle.gx_object.specs.Laws.CommitPlace.{hex_open, encoding_name}

-- Identities.
without_contains : (c : ℕ) (text : List ℕ) → (Contains text c → ⊥) → Without c text
without_contains c text none = recursion_from_All (λ b. b ≢ c) text (λ k d in' is. none (k, in', get_or_default text k c d in' ∙ is))

same_last : (c : ℕ) (a b x y : List ℕ) → Without c x → Without c y → a ++ c ∷ x ≡ b ++ c ∷ y → (a ≡ b) × (x ≡ y)
same_last c [] [] x y p q e = (refl, cc)
same_last c [] (b ∷ bs) x y p q e = let h : x ≡ bs ++ c ∷ y = cc in absurd (has_byte c bs y (subst (Without c) h p))
same_last c (a ∷ as') [] x y p q e = let h : as' ++ c ∷ x ≡ y = cc in absurd (has_byte c as' x (subst (Without c) (sym h) q))
same_last c (a ∷ as') (b ∷ bs) x y p q e =
    let t : as' ++ c ∷ x ≡ bs ++ c ∷ y = cc in
    let r : (as' ≡ bs) × (x ≡ y) = same_last c as' bs x y p q t in
    let rest : as' ≡ bs = r.0 in
    (cc, r.1)

one_front : (text a b : List ℕ) → DropsSpaceBehind text a → DropsSpaceBehind text b → a ≡ b
one_front text a b (inl p) (inl q) = append_cancel_right a b (32 ∷ []) (sym p ∙ q)
one_front text a b (inl p) (inr q) = absurd (q.1 a p)
one_front text a b (inr p) (inl q) = absurd (p.1 b q)
one_front text a b (inr p) (inr q) = sym p.0 ∙ q.0

one_end : (text a b : List ℕ) → DropsSpaceInFront text a → DropsSpaceInFront text b → a ≡ b
one_end text a b (inl p) (inl q) = let h : 32 ∷ a ≡ 32 ∷ b = sym p ∙ q in cc
one_end text a b (inl p) (inr q) = absurd (q.1 a p)
one_end text a b (inr p) (inl q) = absurd (p.1 b q)
one_end text a b (inr p) (inr q) = sym p.0 ∙ q.0

same_who : (n n' e e' t t' : List ℕ) → n ≡ n' → e ≡ e' → t ≡ t' → (let a : IdentityText = record { name = n; email = e; time = t } in a) ≡ record { name = n'; email = e'; time = t' }
same_who n n' e e' t t' p q r = cc

pub one_identity : (line : List ℕ) (a b : IdentityText) → SpellsIdentity line a → SpellsIdentity line b → a ≡ b
one_identity line a b p q =
    let opened = same_split 60 p.before q.before (a.email ++ 62 ∷ p.behind) (b.email ++ 62 ∷ q.behind) (without_contains 60 p.before p.opens) (without_contains 60 q.before q.opens) (sym (p.whole ∙ append_assoc p.before (60 ∷ a.email) (62 ∷ p.behind)) ∙ (q.whole ∙ append_assoc q.before (60 ∷ b.email) (62 ∷ q.behind))) in
    let closed = same_last 62 a.email b.email p.behind q.behind (without_contains 62 p.behind p.closes) (without_contains 62 q.behind q.closes) opened.1 in
    same_who a.name b.name a.email b.email a.time b.time
    (one_front p.before a.name b.name p.name (subst (λ l. DropsSpaceBehind l b.name) (sym opened.0) q.name))
    closed.0
    (one_end p.behind a.time b.time p.time (subst (λ l. DropsSpaceInFront l b.time) (sym closed.1) q.time))

-- Headers.
pub record FirstLine (bytes : List ℕ) : Type 0 where
  pub line : List ℕ
  pub rest : List ℕ
  pub is : bytes ≡ line ++ 10 ∷ rest
  pub one : IsOneLine line

pub first_line : (text rest : List ℕ) → FirstLine (text ++ 10 ∷ rest)
first_line [] rest = record { line = []; rest = rest; is = refl; one = tt }
first_line (b ∷ bs) rest =
    elim (eqb_tells b 10) [
      | inl h ↦ record { line = []; rest = bs ++ 10 ∷ rest; is = ap (λ n. n ∷ (bs ++ 10 ∷ rest)) h.1; one = tt }
      | inr h ↦ let r = first_line bs rest in record { line = b ∷ r.line; rest = r.rest; is = ap (λ l. b ∷ l) r.is; one = (h.1, r.one) }
    ]

goes_on : (text more rest : List ℕ) → IsNoFold more → more ≡ 32 ∷ (text ++ 10 ∷ rest) → ⊥
goes_on text more rest none e =
    let f = first_line text rest in
    none f.line f.rest (record { is = e ∙ ap (λ l. 32 ∷ l) f.is; one = ((λ h. absurd (omega arith)), f.one) })

folded_cases : (b : ℕ) (bs rest : List ℕ) → ((b ≡ 10) × (folded (b ∷ bs) ++ 10 ∷ rest ≡ 10 ∷ 32 ∷ (folded bs ++ 10 ∷ rest))) ⊎ ((b ≢ 10) × (folded (b ∷ bs) ++ 10 ∷ rest ≡ b ∷ (folded bs ++ 10 ∷ rest)))
folded_cases b bs rest = elim (eqb_tells b 10) [
  | inl h ↦ inl (h.1, rw h.0 refl)
  | inr h ↦ inr (h.1, rw h.0 refl)
]

same_folded : (b c : ℕ) (bs cs : List ℕ) → b ≡ c → folded bs ≡ folded cs → folded (b ∷ bs) ≡ folded (c ∷ cs)
same_folded b c bs cs p q = ap (λ n. folded (n ∷ bs)) p ∙ ap (λ l. folded_byte c ++ l) q

one_value : (v w m n : List ℕ) → IsNoFold m → IsNoFold n → folded v ++ 10 ∷ m ≡ folded w ++ 10 ∷ n → (folded v ≡ folded w) × (m ≡ n)
one_value [] [] m n p q e = (refl, cc)
one_value [] (c ∷ cs) m n p q e = elim (folded_cases c cs n) [
  | inl h ↦ let k : 10 ∷ m ≡ 10 ∷ 32 ∷ (folded cs ++ 10 ∷ n) = e ∙ h.1 in absurd (goes_on (folded cs) m n p (cc))
  | inr h ↦ let k : 10 ∷ m ≡ c ∷ (folded cs ++ 10 ∷ n) = e ∙ h.1 in let same : c ≡ 10 = cc in absurd (h.0 same)
]
one_value (b ∷ bs) [] m n p q e = elim (folded_cases b bs m) [
  | inl h ↦ let k : 10 ∷ n ≡ 10 ∷ 32 ∷ (folded bs ++ 10 ∷ m) = sym e ∙ h.1 in absurd (goes_on (folded bs) n m q (cc))
  | inr h ↦ let k : 10 ∷ n ≡ b ∷ (folded bs ++ 10 ∷ m) = sym e ∙ h.1 in let same : b ≡ 10 = cc in absurd (h.0 same)
]
one_value (b ∷ bs) (c ∷ cs) m n p q e = elim (folded_cases b bs m) [
  | inl h ↦ elim (folded_cases c cs n) [
    | inl k ↦
        let t : 10 ∷ 32 ∷ (folded bs ++ 10 ∷ m) ≡ 10 ∷ 32 ∷ (folded cs ++ 10 ∷ n) = sym h.1 ∙ e ∙ k.1 in
        let r = one_value bs cs m n p q (cc) in
        (same_folded b c bs cs (h.0 ∙ sym k.0) r.0, r.1)
    | inr k ↦ let t : 10 ∷ 32 ∷ (folded bs ++ 10 ∷ m) ≡ c ∷ (folded cs ++ 10 ∷ n) = sym h.1 ∙ e ∙ k.1 in let same : c ≡ 10 = cc in absurd (k.0 same)
  ]
  | inr h ↦ elim (folded_cases c cs n) [
    | inl k ↦ let t : b ∷ (folded bs ++ 10 ∷ m) ≡ 10 ∷ 32 ∷ (folded cs ++ 10 ∷ n) = sym h.1 ∙ e ∙ k.1 in let same : b ≡ 10 = cc in absurd (h.0 same)
    | inr k ↦
        let t : b ∷ (folded bs ++ 10 ∷ m) ≡ c ∷ (folded cs ++ 10 ∷ n) = sym h.1 ∙ e ∙ k.1 in
        let same : b ≡ c = cc in
        let r = one_value bs cs m n p q (cc) in
        (same_folded b c bs cs same r.0, r.1)
  ]
]

same_header : (n n' r r' : List ℕ) → n ≡ n' → r ≡ r' → (let a : HeaderText = record { name = n; raw = r } in a) ≡ record { name = n'; raw = r' }
same_header n n' r r' p q = cc

pub one_header : (bytes : List ℕ) (h k : HeaderText) (m n : List ℕ) → HasHeader bytes h m → HasHeader bytes k n → (h ≡ k) × (m ≡ n)
one_header bytes h k m n p q =
    let named = same_split 32 h.name k.name (h.raw ++ 10 ∷ m) (k.raw ++ 10 ∷ n) (name_without_space h.name p.header.0.1) (name_without_space k.name q.header.0.1)
    (sym (p.is ∙ raw_line_open h m) ∙ (q.is ∙ raw_line_open k n)) in
    let v = p.header.1 in
    let w = q.header.1 in
    let valued = one_value v.0 w.0 m n p.ends q.ends (ap (λ l. l ++ 10 ∷ m) (sym v.1) ∙ named.1 ∙ ap (λ l. l ++ 10 ∷ n) w.1) in
    (same_header h.name k.name h.raw k.raw named.0 (v.1 ∙ valued.0 ∙ sym w.1), valued.1)

-- Items.
other_word : (a b x y : List ℕ) (i j : ℕ) → i ≢ j → (i ∷ a) ++ x ≡ (j ∷ b) ++ y → ⊥
other_word a b x y i j ne e = let h : i ≡ j = cc in ne h

pub one_id : (hash : HashKind) (word bytes a b m n : List ℕ) → HasIdLine hash word bytes a m → HasIdLine hash word bytes b n → (a ≡ b) × (m ≡ n)
one_id hash word bytes a b m n p q =
    let cut : (t r : List ℕ) → text_line word t ++ r ≡ word ++ (t ++ 10 ∷ r) = λ t r. append_assoc word (t ++ 10 ∷ []) r ∙ ap (λ l. word ++ l) (append_assoc t (10 ∷ []) r) in
    same_split 10 a b m n (hex_open a p.0.digits) (hex_open b q.0.digits) (append_cancel_left word (a ++ 10 ∷ m) (b ++ 10 ∷ n) (sym (p.1 ∙ cut a m) ∙ (q.1 ∙ cut b n)))

pub one_who : (word bytes : List ℕ) (a b : IdentityText) (m n : List ℕ) → HasIdentityLine word bytes a m → HasIdentityLine word bytes b n → (a ≡ b) × (m ≡ n)
one_who word bytes a b m n p q =
    let cut : (t r : List ℕ) → text_line word t ++ r ≡ word ++ (t ++ 10 ∷ r) = λ t r. append_assoc word (t ++ 10 ∷ []) r ∙ ap (λ l. word ++ l) (append_assoc t (10 ∷ []) r) in
    let r = same_split 10 p.line q.line m n p.one q.one (append_cancel_left word (p.line ++ 10 ∷ m) (q.line ++ 10 ∷ n) (sym (p.is ∙ cut p.line m) ∙ (q.is ∙ cut q.line n))) in
    (one_identity p.line a b p.spells (subst (λ l. SpellsIdentity l b) (sym r.0) q.spells), r.1)

pub no_header_here : (bytes : List ℕ) (h : HeaderText) (m text : List ℕ) → HasHeader bytes h m → bytes ≡ 10 ∷ text → ⊥
no_header_here bytes h m text p e = named h.name (name_without_newline h.name p.header.0.1) p.header.0.0 (sym (p.is ∙ raw_line_open h m) ∙ e)
  where
    named : (name : List ℕ) → Without 10 name → name ≢ [] → name ++ 32 ∷ (h.raw ++ 10 ∷ m) ≡ 10 ∷ text → ⊥
    named [] open_ some k = some refl
    named (b ∷ bs) open_ some k = let same : b ≡ 10 = cc in open_.0 same

first_item : (h : HeaderText) (i j : Item) → IsFirstItem h i → IsFirstItem h j → i ≡ j
first_item h i j (inl p) (inl q) = p.1 ∙ sym q.1
first_item h i j (inl p) (inr q) = absurd (q.0 p.0)
first_item h i j (inr p) (inl q) = absurd (p.0 q.0)
first_item h i j (inr p) (inr q) = p.1 ∙ sym q.1

one_message : (bytes : List ℕ) (i j : Item) (m n : List ℕ) (t u : Next) → IsMessage bytes i m t → IsMessage bytes j n u → (i ≡ j) × (m ≡ n) × (t ≡ u)
one_message bytes i j m n t u p q =
    let e : 10 ∷ p.2.0 ≡ 10 ∷ q.2.0 = sym p.2.2 ∙ q.2.2 in
    let same : p.2.0 ≡ q.2.0 = cc in
    (p.2.1 ∙ ap MessageIs same ∙ sym q.2.1, p.1 ∙ sym q.1, p.0 ∙ sym q.0)

pub no_parent_author : (a b x y : List ℕ) → text_line (codes "parent ") a ++ x ≡ text_line (codes "author ") b ++ y → ⊥
no_parent_author a b x y e = other_word (codes "arent " ++ (a ++ 10 ∷ [])) (codes "uthor " ++ (b ++ 10 ∷ [])) x y 112 97 (λ h. absurd (omega (arith, h))) e

pub one_item : (hash : HashKind) (s : Next) (bytes : List ℕ) (i j : Item) (m n : List ℕ) (t u : Next) → ItemAt hash s bytes i m t → ItemAt hash s bytes j n u → (i ≡ j) × (m ≡ n) × (t ≡ u)
one_item hash Tree bytes i j m n t u p q =
    let r = one_id hash (codes "tree ") bytes p.1.0 q.1.0 m n p.1.2 q.1.2 in
    (p.1.1 ∙ ap TreeId r.0 ∙ sym q.1.1, r.1, p.0 ∙ sym q.0)
one_item hash Parents bytes i j m n t u (inl p) (inl q) =
    let r = one_id hash (codes "parent ") bytes p.1.0 q.1.0 m n p.1.2 q.1.2 in
    (p.1.1 ∙ ap ParentId r.0 ∙ sym q.1.1, r.1, p.0 ∙ sym q.0)
one_item hash Parents bytes i j m n t u (inl p) (inr q) = absurd (no_parent_author p.1.0 q.1.2.line m n (sym p.1.2.1 ∙ q.1.2.is))
one_item hash Parents bytes i j m n t u (inr p) (inl q) = absurd (no_parent_author q.1.0 p.1.2.line n m (sym q.1.2.1 ∙ p.1.2.is))
one_item hash Parents bytes i j m n t u (inr p) (inr q) =
    let r = one_who (codes "author ") bytes p.1.0 q.1.0 m n p.1.2 q.1.2 in
    (p.1.1 ∙ ap AuthorIs r.0 ∙ sym q.1.1, r.1, p.0 ∙ sym q.0)
one_item hash Committer bytes i j m n t u p q =
    let r = one_who (codes "committer ") bytes p.1.0 q.1.0 m n p.1.2 q.1.2 in
    (p.1.1 ∙ ap CommitterIs r.0 ∙ sym q.1.1, r.1, p.0 ∙ sym q.0)
one_item hash Encoding bytes i j m n t u (inl p) (inl q) =
    let r = one_header bytes p.1.0 q.1.0 m n p.1.1 q.1.1 in
    (first_item p.1.0 i j p.1.2 (subst (λ h. IsFirstItem h j) (sym r.0) q.1.2), r.1, p.0 ∙ sym q.0)
one_item hash Encoding bytes i j m n t u (inl p) (inr q) = absurd (no_header_here bytes p.1.0 m q.2.0 p.1.1 q.2.2)
one_item hash Encoding bytes i j m n t u (inr p) (inl q) = absurd (no_header_here bytes q.1.0 n p.2.0 q.1.1 p.2.2)
one_item hash Encoding bytes i j m n t u (inr p) (inr q) = one_message bytes i j m n t u p q
one_item hash Headers bytes i j m n t u (inl p) (inl q) =
    let r = one_header bytes p.1.0 q.1.0 m n p.1.1 q.1.1 in
    (p.1.2 ∙ ap HeaderIs r.0 ∙ sym q.1.2, r.1, p.0 ∙ sym q.0)
one_item hash Headers bytes i j m n t u (inl p) (inr q) = absurd (no_header_here bytes p.1.0 m q.2.0 p.1.1 q.2.2)
one_item hash Headers bytes i j m n t u (inr p) (inl q) = absurd (no_header_here bytes q.1.0 n p.2.0 q.1.1 p.2.2)
one_item hash Headers bytes i j m n t u (inr p) (inr q) = one_message bytes i j m n t u p q
one_item hash End bytes i j m n t u p q = absurd p

pub one_reading : (hash : HashKind) (s : Next) (bytes : List ℕ) (is js : List Item) → ReadsAll hash s bytes is → ReadsAll hash s bytes js → is ≡ js
one_reading hash s bytes [] [] p q = refl
one_reading hash s bytes [] (j ∷ js) p q = let h : ItemAt hash End bytes j q.0 q.1 = subst (λ r. ItemAt hash r bytes j q.0 q.1) p q.2 in absurd h
one_reading hash s bytes (i ∷ is) [] p q = let h : ItemAt hash End bytes i p.0 p.1 = subst (λ r. ItemAt hash r bytes i p.0 p.1) q p.2 in absurd h
one_reading hash s bytes (i ∷ is) (j ∷ js) p q =
    let r = one_item hash s bytes i j p.0 q.0 p.1 q.1 p.2 q.2 in
    let rest : is ≡ js = one_reading hash p.1 p.0 is js p.3 (subst (λ b. ReadsAll hash p.1 b js) (sym r.1) (subst (λ t. ReadsAll hash t q.0 js) (sym r.2) q.3)) in
    let first : i ≡ j = r.0 in
    cc

-- A commit is read as its items.
reads_message : (hash : HashKind) (text : List ℕ) → ReadsAll hash Headers (10 ∷ text) (MessageIs text ∷ [])
reads_message hash text = ([], End, inr (refl, refl, (text, refl, refl)), refl)

no_fold_behind : (hs : List HeaderText) (text : List ℕ) → AllByRecursion IsHeader hs → IsNoFold (flat_map raw_line hs ++ 10 ∷ text)
no_fold_behind [] text p line rest has = let e : 10 ∷ text ≡ 32 ∷ (line ++ 10 ∷ rest) = has.is in absurd (cc)
no_fold_behind (h ∷ hs) text p line rest has = named h.name (name_without_space h.name p.0.0.1) p.0.0.0 (sym (append_assoc (raw_line h) (flat_map raw_line hs) (10 ∷ text) ∙ raw_line_open h (flat_map raw_line hs ++ 10 ∷ text)) ∙ has.is)
  where
    named : (name : List ℕ) → Without 32 name → name ≢ [] → name ++ 32 ∷ (h.raw ++ 10 ∷ (flat_map raw_line hs ++ 10 ∷ text)) ≡ (32 ∷ line) ++ 10 ∷ rest → ⊥
    named [] open_ some k = some refl
    named (b ∷ bs) open_ some k = let same : b ≡ 32 = cc in open_.0 same

pub header_in_front : (h : HeaderText) (hs : List HeaderText) (text : List ℕ) → IsHeader h → AllByRecursion IsHeader hs → HasHeader (flat_map raw_line (h ∷ hs) ++ 10 ∷ text) h (flat_map raw_line hs ++ 10 ∷ text)
header_in_front h hs text p q = record { is = append_assoc (raw_line h) (flat_map raw_line hs) (10 ∷ text); header = p; ends = no_fold_behind hs text q }

reads_headers : (hash : HashKind) (hs : List HeaderText) (text : List ℕ) → AllByRecursion IsHeader hs → ReadsAll hash Headers (flat_map raw_line hs ++ 10 ∷ text) (map HeaderIs hs ++ MessageIs text ∷ [])
reads_headers hash [] text p = reads_message hash text
reads_headers hash (h ∷ hs) text p = (flat_map raw_line hs ++ 10 ∷ text, Headers, inl (refl, (h, header_in_front h hs text p.0 p.1, refl)), reads_headers hash hs text p.1)

pub open_folds : (text : List ℕ) → IsOneLine text → text ≡ folded text
open_folds text p = sym (ap folded (sym (append-nil text)) ∙ folded_line text [] p ∙ append-nil text)

reads_late : (hash : HashKind) (encoding : Option (List ℕ)) (hs : List HeaderText) (text : List ℕ) → HasEncoding encoding hs → AllByRecursion IsHeader hs
    → ReadsAll hash Encoding (encoding_line encoding ++ (flat_map raw_line hs ++ 10 ∷ text)) (late_items encoding hs text)
reads_late hash None [] text e p = ([], End, inr (refl, refl, (text, refl, refl)), refl)
reads_late hash None (h ∷ hs) text e p = (flat_map raw_line hs ++ 10 ∷ text, Headers, inl (refl, (h, header_in_front h hs text p.0 p.1, inr (e, refl))), reads_headers hash hs text p.1)
reads_late hash (Some name) hs text e p =
    let h : HeaderText = record { name = codes "encoding"; raw = name } in
    let has : HasHeader (encoding_line (Some name) ++ (flat_map raw_line hs ++ 10 ∷ text)) h (flat_map raw_line hs ++ 10 ∷ text) =
    record { is = refl; header = (encoding_name, (name, open_folds name e.1)); ends = no_fold_behind hs text p } in
    (flat_map raw_line hs ++ 10 ∷ text, Headers, inl (refl, (h, has, inl ((refl, e), refl))), reads_headers hash hs text p)

reads_parents : (hash : HashKind) (ids : List (List ℕ)) (bytes : List ℕ) (items : List Item) → AllByRecursion (IsHexId hash) ids → ReadsAll hash Parents bytes items
    → ReadsAll hash Parents (flat_map (text_line (codes "parent ")) ids ++ bytes) (map ParentId ids ++ items)
reads_parents hash [] bytes items p q = q
reads_parents hash (id ∷ ids) bytes items p q =
    let more = flat_map (text_line (codes "parent ")) ids ++ bytes in
    (more, Parents, inl (refl, (id, refl, (p.0, append_assoc (text_line (codes "parent ") id) (flat_map (text_line (codes "parent ")) ids) bytes))), reads_parents hash ids bytes items p.1 q)

pub reads_commit : (hash : HashKind) (bytes : List ℕ) (c : CommitText) → SpellsCommit hash bytes c → ReadsAll hash Tree bytes (items_of c)
reads_commit hash bytes c s =
    let late = encoding_line c.encoding ++ (flat_map raw_line c.extra_headers ++ 10 ∷ c.message) in
    let committer = text_line (codes "committer ") s.committer_line ++ late in
    let author = text_line (codes "author ") s.author_line ++ committer in
    let parents = flat_map (text_line (codes "parent ")) c.parents ++ author in (
      parents,
      Parents,
      (refl, (c.tree, refl, (s.tree_id, s.whole))),
      reads_parents hash c.parents author (AuthorIs c.author ∷ CommitterIs c.committer ∷ late_items c.encoding c.extra_headers c.message) s.parent_ids (
        committer,
        Committer,
        inr (refl, (c.author, refl, record { line = s.author_line; is = refl; one = s.author_open; spells = s.author_is })),
        (
          late,
          Encoding,
          (refl, (c.committer, refl, record { line = s.committer_line; is = refl; one = s.committer_open; spells = s.committer_is })),
          reads_late hash c.encoding c.extra_headers c.message s.encoding_is s.headers,
        ),
      ),
    )

-- What the items are of.
same_parents : (ps qs : List (List ℕ)) (a b : IdentityText) (x y : List Item) → map ParentId ps ++ AuthorIs a ∷ x ≡ map ParentId qs ++ AuthorIs b ∷ y → (ps ≡ qs) × (a ≡ b) × (x ≡ y)
same_parents [] [] a b x y e = (refl, cc, cc)
same_parents [] (q ∷ qs) a b x y e = absurd (let h : AuthorIs a ≡ ParentId q = cc in cc)
same_parents (p ∷ ps) [] a b x y e = absurd (let h : ParentId p ≡ AuthorIs b = cc in cc)
same_parents (p ∷ ps) (q ∷ qs) a b x y e =
    let t : map ParentId ps ++ AuthorIs a ∷ x ≡ map ParentId qs ++ AuthorIs b ∷ y = cc in
    let h : ParentId p ≡ ParentId q = cc in
    let first : p ≡ q = cc in
    let r = same_parents ps qs a b x y t in
    let others : ps ≡ qs = r.0 in
    (cc, r.1, r.2)

same_headers : (hs ks : List HeaderText) (m n : List ℕ) → map HeaderIs hs ++ MessageIs m ∷ [] ≡ map HeaderIs ks ++ MessageIs n ∷ [] → (hs ≡ ks) × (m ≡ n)
same_headers [] [] m n e = (refl, let h : MessageIs m ≡ MessageIs n = cc in cc)
same_headers [] (k ∷ ks) m n e = absurd (let h : MessageIs m ≡ HeaderIs k = cc in cc)
same_headers (h ∷ hs) [] m n e = absurd (let k : HeaderIs h ≡ MessageIs n = cc in cc)
same_headers (h ∷ hs) (k ∷ ks) m n e =
    let t : map HeaderIs hs ++ MessageIs m ∷ [] ≡ map HeaderIs ks ++ MessageIs n ∷ [] = cc in
    let i : HeaderIs h ≡ HeaderIs k = cc in
    let first : h ≡ k = cc in
    let r = same_headers hs ks m n t in
    let others : hs ≡ ks = r.0 in
    (cc, r.1)

no_encoding_item : (text : List ℕ) (hs : List HeaderText) (m : List ℕ) (x : List Item) → map HeaderIs hs ++ MessageIs m ∷ [] ≡ EncodingIs text ∷ x → ⊥
no_encoding_item text [] m x e = let h : MessageIs m ≡ EncodingIs text = cc in absurd (cc)
no_encoding_item text (k ∷ ks) m x e = let h : HeaderIs k ≡ EncodingIs text = cc in absurd (cc)

same_late : (e f : Option (List ℕ)) (hs ks : List HeaderText) (m n : List ℕ) → late_items e hs m ≡ late_items f ks n → (e ≡ f) × (hs ≡ ks) × (m ≡ n)
same_late None None hs ks m n p = let r = same_headers hs ks m n p in (refl, r.0, r.1)
same_late None (Some t) hs ks m n p = absurd (no_encoding_item t hs m (map HeaderIs ks ++ MessageIs n ∷ []) p)
same_late (Some t) None hs ks m n p = absurd (no_encoding_item t ks n (map HeaderIs hs ++ MessageIs m ∷ []) (sym p))
same_late (Some t) (Some u) hs ks m n p =
    let i : EncodingIs t ≡ EncodingIs u = cc in
    let name : t ≡ u = cc in
    let rest : map HeaderIs hs ++ MessageIs m ∷ [] ≡ map HeaderIs ks ++ MessageIs n ∷ [] = cc in
    let r = same_headers hs ks m n rest in
    (ap Some name, r.0, r.1)

abbrev commit_of : List ℕ → List (List ℕ) → IdentityText → IdentityText → Option (List ℕ) → List HeaderText → List ℕ → CommitText
commit_of t p a k e h m = record { tree = t; parents = p; author = a; committer = k; encoding = e; extra_headers = h; message = m }

same_commit : (t t' : List ℕ) (p p' : List (List ℕ)) (a a' k k' : IdentityText) (e e' : Option (List ℕ)) (h h' : List HeaderText) (m m' : List ℕ)
    → t ≡ t' → p ≡ p' → a ≡ a' → k ≡ k' → e ≡ e' → h ≡ h' → m ≡ m' → commit_of t p a k e h m ≡ commit_of t' p' a' k' e' h' m'
same_commit t t' p p' a a' k k' e e' h h' m m' q r s u v w x = cc

pub same_items : (a b : CommitText) → items_of a ≡ items_of b → a ≡ b
same_items a b e =
    let i : TreeId a.tree ≡ TreeId b.tree = cc in
    let tree : a.tree ≡ b.tree = cc in
    let t : map ParentId a.parents ++ AuthorIs a.author ∷ CommitterIs a.committer ∷ late_items a.encoding a.extra_headers a.message ≡ map ParentId b.parents ++ AuthorIs b.author ∷ CommitterIs b.committer ∷ late_items b.encoding b.extra_headers b.message = cc in
    let r = same_parents a.parents b.parents a.author b.author (CommitterIs a.committer ∷ late_items a.encoding a.extra_headers a.message) (CommitterIs b.committer ∷ late_items b.encoding b.extra_headers b.message) t in
    let more = r.2 in
    let j : CommitterIs a.committer ≡ CommitterIs b.committer = cc in
    let committer : a.committer ≡ b.committer = cc in
    let late : late_items a.encoding a.extra_headers a.message ≡ late_items b.encoding b.extra_headers b.message = cc in
    let l = same_late a.encoding b.encoding a.extra_headers b.extra_headers a.message b.message late in
    same_commit a.tree b.tree a.parents b.parents a.author b.author a.committer b.committer a.encoding b.encoding a.extra_headers b.extra_headers a.message b.message tree r.0 r.1 committer l.0 l.1 l.2

pub one_commit : (hash : HashKind) (bytes : List ℕ) (a b : CommitText) → SpellsCommit hash bytes a → SpellsCommit hash bytes b → a ≡ b
one_commit hash bytes a b p q = same_items a b (one_reading hash Tree bytes (items_of a) (items_of b) (reads_commit hash bytes a p) (reads_commit hash bytes b q))

-- what is answered for a commit is that commit
pub only_commit : (hash : HashKind) (bytes : List ℕ) (result : Result CommitRef DecodeError) → IfOk result (λ c. SpellsCommit hash bytes (commit_text c)) → IfErr result (CommitCauses hash bytes)
    → (c : CommitText) → SpellsCommit hash bytes c → MatchResult result (λ found. commit_text found ≡ c) (λ e. e ≡ NoMemory)
only_commit hash bytes (Ok found) p q c s = one_commit hash bytes (commit_text found) c p s
only_commit hash bytes (Err (Decode at)) p q c s = absurd (q.none c s)
only_commit hash bytes (Err NoMemory) p q c s = refl
