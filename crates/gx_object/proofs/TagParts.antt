-- The lines of a tag, one after another.
use Rattle.std.proofs.Common.{◌≡◌, ◌∙◌, sym, ap, refl, subst, ℕ, List, [], ◌∷◌, ◌++◌, length, codes, arith, append_assoc, Option, Some, None, ◌⊎◌, inl, inr}
use Rattle.std.specs.Prelude.{IfOk, MatchResult, Result, Ok, Err}
use Rattle.std.proofs.lemmas.List.{append_cancel_left}
use Rattle.gx_hash.specs.declared.kind.HashKind.{HashKind}
use Rattle.gx_object.specs.declared.kind.Kind.{Kind}
use Rattle.gx_object.specs.declared.kind.Kind.TheVariants.{Blob, Tree, Commit, Tag}
use Rattle.gx_object.specs.Kind.{kind_name, kind_named}
use Rattle.gx_object.specs.IdentitySpelling.{IdentityText, SpellsIdentity}
use Rattle.gx_hash.specs.IdDigits.{IsHexId}
use Rattle.gx_object.specs.CommitSpelling.{IsOneLine, text_line}
use Rattle.gx_object.specs.CommitLines.{HasLine}
use Rattle.gx_object.specs.declared.tag.decode.TagRef.{TagRef}
use Rattle.gx_object.specs.declared.decode.DecodeError.{DecodeError}
use Rattle.gx_object.specs.TagSpelling.{TagText, tag_text, IsTagName, SpellsTagger, SpellsBody, SplitsSignature, SpellsTag, RefusesTag}
use Rattle.gx_object.specs.Laws.LineLemmas.{same_split, without_append}
use Rattle.gx_object.specs.Laws.CommitPlace.{hex_open}
use Rattle.gx_object.specs.Laws.OneCommit.{one_identity}
use Rattle.gx_object.proofs.TagLineLemmas.{named_kind}

pub kind_open : (kind : Kind) → IsOneLine (kind_name kind)
kind_open Blob = (omega arith, (omega arith, (omega arith, (omega arith, tt))))
kind_open Tree = (omega arith, (omega arith, (omega arith, (omega arith, tt))))
kind_open Commit = (omega arith, (omega arith, (omega arith, (omega arith, (omega arith, (omega arith, tt))))))
kind_open Tag = (omega arith, (omega arith, (omega arith, tt)))

pub object_word : IsOneLine (codes "object ")
object_word = (omega arith, (omega arith, (omega arith, (omega arith, (omega arith, (omega arith, (omega arith, tt)))))))

pub type_word : IsOneLine (codes "type ")
type_word = (omega arith, (omega arith, (omega arith, (omega arith, (omega arith, tt)))))

pub tag_word : IsOneLine (codes "tag ")
tag_word = (omega arith, (omega arith, (omega arith, (omega arith, tt))))

pub tagger_word : IsOneLine (codes "tagger ")
tagger_word = (omega arith, (omega arith, (omega arith, (omega arith, (omega arith, (omega arith, (omega arith, tt)))))))

open_line : (word text rest : List ℕ) → text_line word text ++ rest ≡ word ++ (text ++ 10 ∷ rest)
open_line word text rest = append_assoc word (text ++ 10 ∷ []) rest ∙ ap (λ l. word ++ l) (append_assoc text (10 ∷ []) rest)

pub has_text_line : (word text rest bytes : List ℕ) → bytes ≡ text_line word text ++ rest → IsOneLine word → IsOneLine text → HasLine bytes (word ++ text) rest
has_text_line word text rest bytes e p q = record { is = e ∙ open_line word text rest ∙ sym (append_assoc word text (10 ∷ rest)); one = without_append 10 word text p q }

-- two lines with one word
pub cut_line : (word a b x y : List ℕ) → IsOneLine a → IsOneLine b → text_line word a ++ x ≡ text_line word b ++ y → (a ≡ b) × (x ≡ y)
cut_line word a b x y p q e = same_split 10 a b x y p q (append_cancel_left word (a ++ 10 ∷ x) (b ++ 10 ∷ y) (sym (open_line word a x) ∙ e ∙ open_line word b y))

pub same_kind : (a b : Kind) → kind_name a ≡ kind_name b → a ≡ b
same_kind a b e = let h : Some a ≡ Some b = sym (named_kind a) ∙ ap kind_named e ∙ named_kind b in cc

-- a body is nothing, or begins with a newline
abbrev pub IsBody : List ℕ → Type 0
IsBody body = (body ≡ []) ⊎ ((text : List ℕ) × (body ≡ 10 ∷ text))

pub is_body : (body message : List ℕ) (signature : Option (List ℕ)) → SpellsBody body message signature → IsBody body
is_body body message signature (inl p) = inl p.0
is_body body message signature (inr p) = inr (p.0, p.1)

pub no_tagger_body : (line x body : List ℕ) → IsBody body → text_line (codes "tagger ") line ++ x ≡ body → ⊥
no_tagger_body line x body (inl p) e = let h : text_line (codes "tagger ") line ++ x ≡ [] = e ∙ p in cc
no_tagger_body line x body (inr p) e = let h : text_line (codes "tagger ") line ++ x ≡ 10 ∷ p.0 = e ∙ p.1 in cc

pub one_tagger : (u v x y : List ℕ) (p q : Option IdentityText) → SpellsTagger u p → SpellsTagger v q → IsBody x → IsBody y → u ++ x ≡ v ++ y → (p ≡ q) × (x ≡ y)
one_tagger u v x y None None p q a b e = (refl, sym (ap (λ l. l ++ x) p) ∙ e ∙ ap (λ l. l ++ y) q)
one_tagger u v x y None (Some who) p q a b e = absurd (no_tagger_body q.0 y x a (sym (ap (λ l. l ++ y) q.1) ∙ sym e ∙ ap (λ l. l ++ x) p))
one_tagger u v x y (Some who) None p q a b e = absurd (no_tagger_body p.0 x y b (sym (ap (λ l. l ++ x) p.1) ∙ e ∙ ap (λ l. l ++ y) q))
one_tagger u v x y (Some who) (Some whom) p q a b e =
    let r = cut_line (codes "tagger ") p.0 q.0 x y p.2 q.2 (sym (ap (λ l. l ++ x) p.1) ∙ e ∙ ap (λ l. l ++ y) q.1) in
    (ap Some (one_identity p.0 who whom p.3 (subst (λ l. SpellsIdentity l whom) (sym r.0) q.3)), r.1)

empty_text : (text : List ℕ) → length text ≡ 0 → text ≡ []
empty_text [] e = refl
empty_text (b ∷ bs) e = absurd (omega (arith, e))

same_length : (a b x y : List ℕ) → a ++ x ≡ b ++ y → length a ≡ length b → (a ≡ b) × (x ≡ y)
same_length [] [] x y e p = (refl, e)
same_length [] (d ∷ b) x y e p = absurd (omega (arith, p))
same_length (c ∷ a) [] x y e p = absurd (omega (arith, p))
same_length (c ∷ a) (d ∷ b) x y e p =
    let t : a ++ x ≡ b ++ y = cc in
    let r = same_length a b x y t (omega (arith, p)) in
    let rest : a ≡ b = r.0 in
    (cc, r.1)

one_split : (text m n : List ℕ) (s u : Option (List ℕ)) → SplitsSignature text m s → SplitsSignature text n u → (m ≡ n) × (s ≡ u)
one_split text m n None None p q = (sym p.0 ∙ q.0, refl)
one_split text m n None (Some u) p q = absurd (p.1 n u q.0)
one_split text m n (Some s) None p q = absurd (q.1 m s p.0)
one_split text m n (Some s) (Some u) p q =
    let a = q.1 m s p.0 in
    let b = p.1 n u q.0 in
    let r = same_length m n s u (sym p.0.whole ∙ q.0.whole) (omega (arith, a, b)) in
    (r.0, ap Some r.1)

one_body : (body m n : List ℕ) (s u : Option (List ℕ)) → SpellsBody body m s → SpellsBody body n u → (m ≡ n) × (s ≡ u)
one_body body m n s u (inl p) (inl q) = (p.1 ∙ sym q.1, p.2 ∙ sym q.2)
one_body body m n s u (inl p) (inr q) = let h : [] ≡ 10 ∷ q.0 = sym p.0 ∙ q.1 in absurd (cc)
one_body body m n s u (inr p) (inl q) = let h : [] ≡ 10 ∷ p.0 = sym q.0 ∙ p.1 in absurd (cc)
one_body body m n s u (inr p) (inr q) =
    let e : 10 ∷ p.0 ≡ 10 ∷ q.0 = sym p.1 ∙ q.1 in
    let same : p.0 ≡ q.0 = cc in
    one_split p.0 m n s u p.2 (subst (λ l. SplitsSignature l n u) (sym same) q.2)

-- What follows the lines of a tag.
abbrev pub behind_name : (hash : HashKind) (bytes : List ℕ) (t : TagText) → SpellsTag hash bytes t → List ℕ
behind_name hash bytes t s = s.tagger_text ++ s.body

abbrev pub behind_type : (hash : HashKind) (bytes : List ℕ) (t : TagText) → SpellsTag hash bytes t → List ℕ
behind_type hash bytes t s = text_line (codes "tag ") t.name ++ behind_name hash bytes t s

abbrev pub behind_object : (hash : HashKind) (bytes : List ℕ) (t : TagText) → SpellsTag hash bytes t → List ℕ
behind_object hash bytes t s = text_line (codes "type ") (kind_name t.target_kind) ++ behind_type hash bytes t s

pub after_object : (hash : HashKind) (bytes : List ℕ) (t : TagText) (s : SpellsTag hash bytes t) (target x : List ℕ) → IsHexId hash target → bytes ≡ text_line (codes "object ") target ++ x
    → (target ≡ t.target) × (x ≡ behind_object hash bytes t s)
after_object hash bytes t s target x p e = cut_line (codes "object ") target t.target x (behind_object hash bytes t s) (hex_open target p.digits) (hex_open t.target s.target_id.digits) (sym e ∙ s.whole)

pub after_type : (hash : HashKind) (bytes : List ℕ) (t : TagText) (s : SpellsTag hash bytes t) (target : List ℕ) (kind : Kind) (x : List ℕ) → IsHexId hash target
    → bytes ≡ text_line (codes "object ") target ++ (text_line (codes "type ") (kind_name kind) ++ x) → (kind ≡ t.target_kind) × (x ≡ behind_type hash bytes t s)
after_type hash bytes t s target kind x p e =
    let r = after_object hash bytes t s target (text_line (codes "type ") (kind_name kind) ++ x) p e in
    let k = cut_line (codes "type ") (kind_name kind) (kind_name t.target_kind) x (behind_type hash bytes t s) (kind_open kind) (kind_open t.target_kind) r.1 in
    (same_kind kind t.target_kind k.0, k.1)

pub after_name : (hash : HashKind) (bytes : List ℕ) (t : TagText) (s : SpellsTag hash bytes t) (target : List ℕ) (kind : Kind) (name x : List ℕ) → IsHexId hash target → IsTagName name
    → bytes ≡ text_line (codes "object ") target ++ (text_line (codes "type ") (kind_name kind) ++ (text_line (codes "tag ") name ++ x)) → (name ≡ t.name) × (x ≡ behind_name hash bytes t s)
after_name hash bytes t s target kind name x p q e =
    let r = after_type hash bytes t s target kind (text_line (codes "tag ") name ++ x) p e in
    cut_line (codes "tag ") name t.name x (behind_name hash bytes t s) q.1 s.name_is.1 r.1

pub after_tagger : (hash : HashKind) (bytes : List ℕ) (t : TagText) (s : SpellsTag hash bytes t) (target : List ℕ) (kind : Kind) (name line : List ℕ) (who : IdentityText) (x : List ℕ) → IsHexId hash target → IsTagName name
    → IsOneLine line → bytes ≡ text_line (codes "object ") target ++ (text_line (codes "type ") (kind_name kind) ++ (text_line (codes "tag ") name ++ (text_line (codes "tagger ") line ++ x))) → x ≡ s.body
after_tagger hash bytes t s target kind name line who x p q one e =
    let r = after_name hash bytes t s target kind name (text_line (codes "tagger ") line ++ x) p q e in
    by t.tagger s.tagger_is r.1
  where
    by : (tagger : Option IdentityText) → SpellsTagger s.tagger_text tagger → text_line (codes "tagger ") line ++ x ≡ s.tagger_text ++ s.body → x ≡ s.body
    by None is k = absurd (no_tagger_body line x s.body (is_body s.body t.message t.signature s.body_is) (k ∙ ap (λ l. l ++ s.body) is))
    by (Some whom) is k = (cut_line (codes "tagger ") line is.0 x s.body one is.2 (k ∙ ap (λ l. l ++ s.body) is.1)).1

-- Bytes spell one tag at most.
same_tag : (a a' : List ℕ) (k k' : Kind) (n n' : List ℕ) (g g' : Option IdentityText) (m m' : List ℕ) (s s' : Option (List ℕ)) → a ≡ a' → k ≡ k' → n ≡ n' → g ≡ g' → m ≡ m' → s ≡ s'
    → (let t : TagText = record { target = a; target_kind = k; name = n; tagger = g; message = m; signature = s } in t) ≡ record { target = a'; target_kind = k'; name = n'; tagger = g'; message = m'; signature = s' }
same_tag a a' k k' n n' g g' m m' s s' p q r u v w = cc

pub one_tag : (hash : HashKind) (bytes : List ℕ) (a b : TagText) → SpellsTag hash bytes a → SpellsTag hash bytes b → a ≡ b
one_tag hash bytes a b p q =
    let target = after_object hash bytes b q a.target (behind_object hash bytes a p) p.target_id p.whole in
    let kind = after_type hash bytes b q a.target a.target_kind (behind_type hash bytes a p) p.target_id p.whole in
    let name = after_name hash bytes b q a.target a.target_kind a.name (behind_name hash bytes a p) p.target_id p.name_is p.whole in
    let tagger = one_tagger p.tagger_text q.tagger_text p.body q.body a.tagger b.tagger p.tagger_is q.tagger_is (is_body p.body a.message a.signature p.body_is) (is_body q.body b.message b.signature q.body_is) name.1 in
    let body = one_body p.body a.message b.message a.signature b.signature p.body_is (subst (λ l. SpellsBody l b.message b.signature) (sym tagger.1) q.body_is) in
    same_tag a.target b.target a.target_kind b.target_kind a.name b.name a.tagger b.tagger a.message b.message a.signature b.signature target.0 kind.0 name.0 tagger.0 body.0 body.1

-- what is answered for a tag is that tag
pub only_tag : (hash : HashKind) (bytes : List ℕ) (result : Result TagRef DecodeError) → MatchResult result (λ t. SpellsTag hash bytes (tag_text t)) (RefusesTag hash bytes)
    → (t : TagText) → SpellsTag hash bytes t → IfOk result (λ found. tag_text found ≡ t)
only_tag hash bytes (Ok found) p t s = one_tag hash bytes (tag_text found) t p s
only_tag hash bytes (Err e) p t s = absurd (p.2.none t s)
