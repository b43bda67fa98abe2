-- Each way in which a tag is refused.
use Rattle.std.proofs.Common.{◌≡◌, ◌∙◌, sym, ap, refl, subst, ℕ, ◌-◌, List, [], ◌∷◌, ◌++◌, length, codes, arith, append_assoc, length-append, Option, Some, None, ◌⊎◌, inl, inr}
use Rattle.gx_hash.specs.declared.kind.HashKind.{HashKind}
use Rattle.gx_object.specs.declared.decode.DecodeError.{DecodeError}
use Rattle.gx_object.specs.declared.decode.DecodeError.TheVariants.{Decode}
use Rattle.gx_object.specs.declared.kind.Kind.{Kind}
use Rattle.gx_object.specs.declared.kind.Kind.TheVariants.{Blob}
use Rattle.gx_object.specs.Kind.{kind_name}
use Rattle.gx_object.specs.IdentitySpelling.{IdentityText, SpellsIdentity}
use Rattle.gx_hash.specs.IdDigits.{IsHexId}
use Rattle.gx_object.specs.CommitSpelling.{IsOneLine, IsWholeLines, text_line}
use Rattle.gx_object.specs.CommitLines.{HasLine, IsNoIdLine, IsNoIdentityLine}
use Rattle.gx_object.specs.TagLines.{IsNoTypeLine, IsNoNameLine, HasTypeLine, HasNameLine, TakesTagger, IsNoBody}
use Rattle.gx_object.specs.TagSpelling.{TagText, IsTagName, SpellsTagger, SpellsBody, SpellsTag, BeginsTag, RefusesTag}
use Rattle.gx_object.specs.Laws.CommitPlace.{hex_open, zeros, zeros_id}
use Rattle.gx_object.proofs.TagParts.{kind_open, object_word, type_word, tag_word, tagger_word, has_text_line, after_object, after_type, after_name, after_tagger, behind_object, behind_type, behind_name}
use Rattle.gx_object.proofs.TagPlace.{Follows, IsStuck, LeadsTag, refused}

-- The lines in front.
abbrev pub object_text : List ℕ → List ℕ
object_text target = text_line (codes "object ") target

abbrev pub type_text : List ℕ → Kind → List ℕ
type_text target kind = object_text target ++ text_line (codes "type ") (kind_name kind)

abbrev pub name_text : List ℕ → Kind → List ℕ → List ℕ
name_text target kind name = type_text target kind ++ text_line (codes "tag ") name

abbrev pub tagger_text : List ℕ → Kind → List ℕ → List ℕ → List ℕ
tagger_text target kind name line = name_text target kind name ++ text_line (codes "tagger ") line

type_is : (target : List ℕ) (kind : Kind) (x : List ℕ) → type_text target kind ++ x ≡ text_line (codes "object ") target ++ (text_line (codes "type ") (kind_name kind) ++ x)
type_is target kind x = append_assoc (object_text target) (text_line (codes "type ") (kind_name kind)) x

name_is : (target : List ℕ) (kind : Kind) (name x : List ℕ) → name_text target kind name ++ x ≡ text_line (codes "object ") target ++ (text_line (codes "type ") (kind_name kind) ++ (text_line (codes "tag ") name ++ x))
name_is target kind name x = append_assoc (type_text target kind) (text_line (codes "tag ") name) x ∙ type_is target kind (text_line (codes "tag ") name ++ x)

tagger_is : (target : List ℕ) (kind : Kind) (name line x : List ℕ) → tagger_text target kind name line ++ x ≡ text_line (codes "object ") target ++ (text_line (codes "type ") (kind_name kind) ++ (text_line (codes "tag ") name ++ (text_line (codes "tagger ") line ++ x)))
tagger_is target kind name line x = append_assoc (name_text target kind name) (text_line (codes "tagger ") line) x ∙ name_is target kind name (text_line (codes "tagger ") line ++ x)

-- they are whole lines
whole_line : (front word text : List ℕ) → IsWholeLines (front ++ text_line word text)
whole_line front word text = inr (front ++ (word ++ text), ap (λ l. front ++ l) (sym (append_assoc word text (10 ∷ []))) ∙ sym (append_assoc front (word ++ text) (10 ∷ [])))

-- What may follow.
abbrev pub AllowsObject : HashKind → List ℕ → Type 0
AllowsObject hash line = (text : List ℕ) × IsHexId hash text × (line ≡ codes "object " ++ text)

abbrev pub AllowsType : List ℕ → Type 0
AllowsType line = (kind : Kind) × (line ≡ codes "type " ++ kind_name kind)

abbrev pub AllowsName : List ℕ → Type 0
AllowsName line = (name : List ℕ) × IsTagName name × (line ≡ codes "tag " ++ name)

abbrev pub AllowsBody : List ℕ → Type 0
AllowsBody line = line ≡ []

abbrev pub AllowsTagger : List ℕ → Type 0
AllowsTagger line = (line ≡ []) ⊎ ((text : List ℕ) × (who : IdentityText) × SpellsIdentity text who × (line ≡ codes "tagger " ++ text))

leads_object : (hash : HashKind) → LeadsTag hash [] ⊥ (AllowsObject hash)
leads_object hash x t s = inr (codes "object " ++ t.target, behind_object hash x t s, has_text_line (codes "object ") t.target (behind_object hash x t s) x s.whole object_word (hex_open t.target s.target_id.digits), (t.target, s.target_id, refl))

leads_type : (hash : HashKind) (target : List ℕ) → IsHexId hash target → LeadsTag hash (object_text target) ⊥ AllowsType
leads_type hash target p x t s =
    let r = after_object hash (object_text target ++ x) t s target x p refl in
    inr (codes "type " ++ kind_name t.target_kind, behind_type hash (object_text target ++ x) t s, has_text_line (codes "type ") (kind_name t.target_kind) (behind_type hash (object_text target ++ x) t s) x r.1 type_word (kind_open t.target_kind), (t.target_kind, refl))

leads_name : (hash : HashKind) (target : List ℕ) (kind : Kind) → IsHexId hash target → LeadsTag hash (type_text target kind) ⊥ AllowsName
leads_name hash target kind p x t s =
    let r = after_type hash (type_text target kind ++ x) t s target kind x p (type_is target kind x) in
    inr (codes "tag " ++ t.name, behind_name hash (type_text target kind ++ x) t s, has_text_line (codes "tag ") t.name (behind_name hash (type_text target kind ++ x) t s) x r.1 tag_word s.name_is.1, (t.name, s.name_is, refl))

follows_body : (body message : List ℕ) (signature : Option (List ℕ)) → SpellsBody body message signature → Follows (Unit {0}) AllowsBody body
follows_body body message signature (inl p) = inl (p.0, tt)
follows_body body message signature (inr p) = inr ([], p.0, record { is = p.1; one = tt }, refl)

leads_body : (hash : HashKind) (target : List ℕ) (kind : Kind) (name line : List ℕ) (who : IdentityText) → IsHexId hash target → IsTagName name → IsOneLine line → LeadsTag hash (tagger_text target kind name line) (Unit {0}) AllowsBody
leads_body hash target kind name line who p q one x t s =
    let r = after_tagger hash (tagger_text target kind name line ++ x) t s target kind name line who x p q one (tagger_is target kind name line x) in
    subst (Follows (Unit {0}) AllowsBody) (sym r) (follows_body s.body t.message t.signature s.body_is)

follows_tagger : (text body message : List ℕ) (tagger : Option IdentityText) (signature : Option (List ℕ)) → SpellsTagger text tagger → SpellsBody body message signature → Follows (Unit {0}) AllowsTagger (text ++ body)
follows_tagger text body message None signature p (inl q) = inl (ap (λ l. l ++ body) p ∙ q.0, tt)
follows_tagger text body message None signature p (inr q) = inr ([], q.0, record { is = ap (λ l. l ++ body) p ∙ q.1; one = tt }, inl refl)
follows_tagger text body message (Some who) signature p q =
    inr (codes "tagger " ++ p.0, body, has_text_line (codes "tagger ") p.0 body (text ++ body) (ap (λ l. l ++ body) p.1) tagger_word p.2, inr (p.0, who, p.3, refl))

leads_tagger : (hash : HashKind) (target : List ℕ) (kind : Kind) (name : List ℕ) → IsHexId hash target → IsTagName name → LeadsTag hash (name_text target kind name) (Unit {0}) AllowsTagger
leads_tagger hash target kind name p q x t s =
    let r = after_name hash (name_text target kind name ++ x) t s target kind name x p q (name_is target kind name x) in
    subst (Follows (Unit {0}) AllowsTagger) (sym r.1) (follows_tagger s.tagger_text s.body t.message t.tagger t.signature s.tagger_is s.body_is)

-- Fronts that begin a tag.
abbrev tag_of : List ℕ → Kind → List ℕ → Option IdentityText → TagText
tag_of target kind name tagger = record { target = target; target_kind = kind; name = name; tagger = tagger; message = []; signature = None }

begins : (hash : HashKind) (target : List ℕ) (kind : Kind) (name text : List ℕ) (tagger : Option IdentityText) → IsHexId hash target → IsTagName name → SpellsTagger text tagger
    → (front more : List ℕ) → front ++ more ≡ name_text target kind name ++ (text ++ []) → BeginsTag hash front
begins hash target kind name text tagger p q w front more e = record {
  more = more;
  tag = tag_of target kind name tagger;
  spells = record { tagger_text = text; body = []; whole = e ∙ name_is target kind name (text ++ []); target_id = p; name_is = q; tagger_is = w; body_is = inl (refl, refl, refl) };
}

abbrev any_name : List ℕ
any_name = codes "x"

any_name_is : IsTagName any_name
any_name_is = ((λ e. cc), (omega arith, tt))

begins_object : (hash : HashKind) → BeginsTag hash []
begins_object hash = begins hash (zeros hash) Blob any_name [] None (zeros_id hash) any_name_is refl [] (name_text (zeros hash) Blob any_name ++ []) refl

begins_type : (hash : HashKind) (target : List ℕ) → IsHexId hash target → BeginsTag hash (object_text target)
begins_type hash target p = begins hash target Blob any_name [] None p any_name_is refl (object_text target) (text_line (codes "type ") (kind_name Blob) ++ (text_line (codes "tag ") any_name ++ [])) (sym (name_is target Blob any_name []))

begins_name : (hash : HashKind) (target : List ℕ) (kind : Kind) → IsHexId hash target → BeginsTag hash (type_text target kind)
begins_name hash target kind p = begins hash target kind any_name [] None p any_name_is refl (type_text target kind) (text_line (codes "tag ") any_name ++ []) (sym (append_assoc (type_text target kind) (text_line (codes "tag ") any_name) []))

begins_tagger : (hash : HashKind) (target : List ℕ) (kind : Kind) (name : List ℕ) → IsHexId hash target → IsTagName name → BeginsTag hash (name_text target kind name)
begins_tagger hash target kind name p q = begins hash target kind name [] None p q refl (name_text target kind name) [] refl

begins_body : (hash : HashKind) (target : List ℕ) (kind : Kind) (name line : List ℕ) (who : IdentityText) → IsHexId hash target → IsTagName name → IsOneLine line → SpellsIdentity line who → BeginsTag hash (tagger_text target kind name line)
begins_body hash target kind name line who p q one w =
    begins hash target kind name (text_line (codes "tagger ") line) (Some who) p q (line, refl, one, w) (tagger_text target kind name line) [] (append_assoc (name_text target kind name) (text_line (codes "tagger ") line) [])

-- The place of a refusal is counted from the end.
refused_at : (hash : HashKind) (bytes front rest : List ℕ) (Ends : Type 0) (Allowed : List ℕ → Type 0) (error : DecodeError) → bytes ≡ front ++ rest → IsWholeLines front → BeginsTag hash front
    → LeadsTag hash front Ends Allowed → IsStuck Allowed rest → (rest ≡ [] → Ends → ⊥) → error ≡ Decode (length bytes - length rest) → RefusesTag hash bytes error
refused_at hash bytes front rest Ends Allowed error e lines begins leads stuck open_ is =
    (length bytes - length rest, is, refused hash bytes front rest Ends Allowed (length bytes - length rest) e lines begins leads stuck open_ (omega (arith, ap length e, length-append front rest)))

abbrev pub HasObject : HashKind → List ℕ → List ℕ → List ℕ → Type 0
HasObject hash bytes target rest = IsHexId hash target × (bytes ≡ text_line (codes "object ") target ++ rest)

pub refuse_object : (hash : HashKind) (bytes : List ℕ) (error : DecodeError) → IsNoIdLine hash (codes "object ") bytes → error ≡ Decode (length bytes - length bytes) → RefusesTag hash bytes error
refuse_object hash bytes error none is =
    refused_at hash bytes [] bytes ⊥ (AllowsObject hash) error refl (inl refl) (begins_object hash) (leads_object hash)
    (λ line more has a. none a.0 more a.1 (subst (λ l. HasLine bytes l more) a.2 has)) (λ e k. k) is

pub refuse_type : (hash : HashKind) (bytes target rest : List ℕ) (error : DecodeError) → HasObject hash bytes target rest → IsNoTypeLine rest → error ≡ Decode (length bytes - length rest) → RefusesTag hash bytes error
refuse_type hash bytes target rest error o none is =
    refused_at hash bytes (object_text target) rest ⊥ AllowsType error o.1 (whole_line [] (codes "object ") target) (begins_type hash target o.0) (leads_type hash target o.0)
    (λ line more has a. none a.0 more (subst (λ l. HasLine rest l more) a.1 has)) (λ e k. k) is

-- a front grows by a line
further : (bytes front part rest more : List ℕ) → bytes ≡ front ++ rest → rest ≡ part ++ more → bytes ≡ (front ++ part) ++ more
further bytes front part rest more p q = p ∙ ap (λ l. front ++ l) q ∙ sym (append_assoc front part more)

pub refuse_name : (hash : HashKind) (bytes target r : List ℕ) (kind : Kind) (rest : List ℕ) (error : DecodeError) → HasObject hash bytes target r → HasTypeLine r kind rest → IsNoNameLine rest
    → error ≡ Decode (length bytes - length rest) → RefusesTag hash bytes error
refuse_name hash bytes target r kind rest error o k none is =
    refused_at hash bytes (type_text target kind) rest ⊥ AllowsName error (further bytes (object_text target) (text_line (codes "type ") (kind_name kind)) r rest o.1 k)
    (whole_line (object_text target) (codes "type ") (kind_name kind)) (begins_name hash target kind o.0) (leads_name hash target kind o.0)
    (λ line more has a. none a.0 more a.1 (subst (λ l. HasLine rest l more) a.2 has)) (λ e k. k) is

no_empty_line : (rest line more : List ℕ) → IsNoBody rest → HasLine rest line more → line ≡ [] → ⊥
no_empty_line rest line more none has e = none.1 more (has.is ∙ ap (λ l. l ++ 10 ∷ more) e)

no_tagger : (rest line more : List ℕ) → IsNoBody rest → IsNoIdentityLine (codes "tagger ") rest → HasLine rest line more → AllowsTagger line → ⊥
no_tagger rest line more none other has (inl e) = no_empty_line rest line more none has e
no_tagger rest line more none other has (inr p) = other p.0 more p.1 p.2 (subst (λ l. HasLine rest l more) p.3 has)

pub refuse_body : (hash : HashKind) (bytes target r : List ℕ) (kind : Kind) (r' name r'' : List ℕ) (tagger : Option IdentityText) (rest : List ℕ) (error : DecodeError) → HasObject hash bytes target r → HasTypeLine r kind r'
    → HasNameLine r' name r'' → TakesTagger r'' tagger rest → IsNoBody rest → error ≡ Decode (length bytes - length rest) → RefusesTag hash bytes error
refuse_body hash bytes target r kind r' name r'' None rest error o k n g none is =
    let whole = further bytes (type_text target kind) (text_line (codes "tag ") name) r' rest (further bytes (object_text target) (text_line (codes "type ") (kind_name kind)) r r' o.1 k) (n.1 ∙ ap (λ l. text_line (codes "tag ") name ++ l) (sym g.0)) in
    refused_at hash bytes (name_text target kind name) rest (Unit {0}) AllowsTagger error whole
    (whole_line (type_text target kind) (codes "tag ") name) (begins_tagger hash target kind name o.0 n.0) (leads_tagger hash target kind name o.0 n.0)
    (λ line more has a. no_tagger rest line more none (subst (IsNoIdentityLine (codes "tagger ")) (sym g.0) g.1) has a) (λ e k. none.0 e) is
refuse_body hash bytes target r kind r' name r'' (Some who) rest error o k n g none is =
    let whole = further bytes (type_text target kind) (text_line (codes "tag ") name) r' r'' (further bytes (object_text target) (text_line (codes "type ") (kind_name kind)) r r' o.1 k) n.1 in
    refused_at hash bytes (tagger_text target kind name g.line) rest (Unit {0}) AllowsBody error (further bytes (name_text target kind name) (text_line (codes "tagger ") g.line) r'' rest whole g.is)
    (whole_line (name_text target kind name) (codes "tagger ") g.line) (begins_body hash target kind name g.line who o.0 n.0 g.one g.spells) (leads_body hash target kind name g.line who o.0 n.0 g.one)
    (λ line more has a. no_empty_line rest line more none has a) (λ e k. none.0 e) is

-- What is read spells the tag.
tagger_spelled : (bytes : List ℕ) (tagger : Option IdentityText) (rest : List ℕ) → TakesTagger bytes tagger rest → (text : List ℕ) × (bytes ≡ text ++ rest) × SpellsTagger text tagger
tagger_spelled bytes None rest g = ([], sym g.0, refl)
tagger_spelled bytes (Some who) rest g = (text_line (codes "tagger ") g.line, g.is, (g.line, refl, g.one, g.spells))

pub spelled : (hash : HashKind) (bytes target r : List ℕ) (kind : Kind) (r' name r'' : List ℕ) (tagger : Option IdentityText) (rest message : List ℕ) (signature : Option (List ℕ)) → HasObject hash bytes target r → HasTypeLine r kind r'
    → HasNameLine r' name r'' → TakesTagger r'' tagger rest → SpellsBody rest message signature
    → SpellsTag hash bytes (record { target = target; target_kind = kind; name = name; tagger = tagger; message = message; signature = signature })
spelled hash bytes target r kind r' name r'' tagger rest message signature o k n g b =
    let w = tagger_spelled r'' tagger rest g in
    record {
      tagger_text = w.0;
      body = rest;
      whole = o.1 ∙ ap (λ l. text_line (codes "object ") target ++ l) (k ∙ ap (λ l. text_line (codes "type ") (kind_name kind) ++ l) (n.1 ∙ ap (λ l. text_line (codes "tag ") name ++ l) w.1));
      target_id = o.0;
      name_is = n.0;
      tagger_is = w.2;
      body_is = b;
    }
