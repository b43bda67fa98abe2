-- The steps of an iterator over a tag.
use Rattle.std.proofs.Common.{◌≡◌, ◌≢◌, ◌∙◌, sym, ap, refl, subst, ℕ, ◌-◌, ◌<◌, ◌≤◌, List, [], ◌∷◌, ◌++◌, length, codes, arith, append_assoc, length-append, Option, Some, None, inl, inr, Result, Ok, Err, Bor, MatchOption, MatchResult, IfOk}
use Rattle.std.specs.Option.{option_map}
use Rattle.std.proofs.lemmas.List.{append-nil}
use Rattle.gx_hash.specs.declared.kind.HashKind.{HashKind}
use Rattle.gx_object.specs.declared.decode.DecodeError.{DecodeError}
use Rattle.gx_object.specs.declared.decode.DecodeError.TheVariants.{Decode}
use Rattle.gx_object.specs.declared.kind.Kind.{Kind}
use Rattle.gx_object.specs.declared.signature.decode.SignatureRef.{SignatureRef}
use Rattle.gx_object.specs.declared.tag.items.Stage.{Stage}
use Rattle.gx_object.specs.declared.tag.items.Stage.TheVariants as stage
use Rattle.gx_object.specs.declared.tag.items.TagToken.{TagToken}
use Rattle.gx_object.specs.Kind.{kind_name}
use Rattle.gx_object.specs.IdentitySpelling.{IdentityText, identity_text, SpellsIdentity}
use Rattle.gx_hash.specs.IdDigits.{IsHexId}
use Rattle.gx_object.specs.CommitSpelling.{text_line}
use Rattle.gx_object.specs.CommitLines.{HasIdentityLine, IsNoIdLine, IsNoIdentityLine}
use Rattle.gx_object.specs.TagSpelling.{TagText, IsTagName, SpellsTagger, SpellsBody, SpellsTag, RefusesTag}
use Rattle.gx_object.specs.TagFronts.{Next, Target, TargetKind, Name, Tagger, Body, End, next_of, HasTarget, HasName, HasTagger, StandsAt}
use Rattle.gx_object.specs.TagStages.{ItemAt, NoItemAt, FindsTagger}
use Rattle.gx_object.specs.TagItems.{Item, TargetIs, TargetKindIs, NameIs, TaggerIs, BodyIs, tagger_items, items_of, item_of, IsLine, AreLines, StandsInFront, EndsTag, GoesWrong, given_at, Tells, HasKind, IsNext, GivesPart, parts_left, read_before, TellsTagger, GoesWrongByTagger}
use Rattle.gx_object.specs.PartsRead.{left_of}
use Rattle.gx_object.specs.Laws.OneCommit.{one_identity}
use Rattle.gx_object.proofs.TagParts.{cut_line, is_body, no_tagger_body, after_object, after_type, after_name, one_tag}
use Rattle.gx_object.proofs.TagRefusals.{refuse_object, refuse_type, refuse_name, refuse_body, spelled}

abbrev target_line : List ℕ → List ℕ
target_line target = text_line (codes "object ") target

abbrev kind_line : Kind → List ℕ
kind_line kind = text_line (codes "type ") (kind_name kind)

abbrev name_line : List ℕ → List ℕ
name_line name = text_line (codes "tag ") name

join : (bytes a r b rest : List ℕ) → bytes ≡ a ++ r → r ≡ b ++ rest → bytes ≡ (a ++ b) ++ rest
join bytes a r b rest p q = p ∙ ap (λ l. a ++ l) q ∙ sym (append_assoc a b rest)

-- The lines in front.
lines_one : (hash : HashKind) (n : ℕ) (line : List ℕ) (i : Item) → IsLine hash n line i → AreLines hash n line (i ∷ [])
lines_one hash n line i p = (line, [], sym (append-nil line), p, refl)

pub target_lines : (hash : HashKind) (target : List ℕ) → IsHexId hash target → AreLines hash 0 (target_line target) (TargetIs target ∷ [])
target_lines hash target p = lines_one hash 0 (target_line target) (TargetIs target) (refl, p, refl)

kind_lines : (hash : HashKind) (target : List ℕ) (kind : Kind) → IsHexId hash target → AreLines hash 0 (target_line target ++ kind_line kind) (TargetIs target ∷ TargetKindIs kind ∷ [])
kind_lines hash target kind p = (target_line target, kind_line kind, refl, (refl, p, refl), lines_one hash 1 (kind_line kind) (TargetKindIs kind) (refl, refl))

name_lines : (hash : HashKind) (target : List ℕ) (kind : Kind) (name : List ℕ) → IsHexId hash target → IsTagName name → AreLines hash 0 (target_line target ++ (kind_line kind ++ name_line name)) (TargetIs target ∷ TargetKindIs kind ∷ NameIs name ∷ [])
name_lines hash target kind name p q =
    (target_line target, kind_line kind ++ name_line name, refl, (refl, p, refl), (kind_line kind, name_line name, refl, (refl, refl), lines_one hash 2 (name_line name) (NameIs name) (refl, q, refl)))

tagger_lines : (hash : HashKind) (target : List ℕ) (kind : Kind) (name line : List ℕ) (who : IdentityText) → IsHexId hash target → IsTagName name → SpellsTagger line (Some who)
    → AreLines hash 0 (target_line target ++ (kind_line kind ++ (name_line name ++ line))) (TargetIs target ∷ TargetKindIs kind ∷ NameIs name ∷ TaggerIs who ∷ [])
tagger_lines hash target kind name line who p q w = (
  target_line target,
  kind_line kind ++ (name_line name ++ line),
  refl,
  (refl, p, refl),
  (kind_line kind, name_line name ++ line, refl, (refl, refl), (name_line name, line, refl, (refl, q, refl), lines_one hash 3 line (TaggerIs who) (refl, w))),
)

pub record Front (hash : HashKind) (s : Next) (bytes rest : List ℕ) : Type 0 where
  pub front : List ℕ
  pub before : List Item
  pub whole : bytes ≡ front ++ rest
  pub lines : AreLines hash 0 front before
  pub count : given_at s ≡ Some (length before)

front_of : (hash : HashKind) (s : Next) (bytes rest : List ℕ) → s ≢ End → StandsAt hash s bytes rest → Front hash s bytes rest
front_of hash Target bytes rest other e = record { front = []; before = []; whole = sym e; lines = refl; count = refl }
front_of hash TargetKind bytes rest other (target, o) = record { front = target_line target; before = TargetIs target ∷ []; whole = o.1; lines = target_lines hash target o.0; count = refl }
front_of hash Name bytes rest other (target, kind, (r, o, k)) = record {
  front = target_line target ++ kind_line kind;
  before = TargetIs target ∷ TargetKindIs kind ∷ [];
  whole = join bytes (target_line target) r (kind_line kind) rest o.1 k;
  lines = kind_lines hash target kind o.0;
  count = refl;
}
front_of hash Tagger bytes rest other (target, kind, name, (r', (r, o, k), n)) = record {
  front = target_line target ++ (kind_line kind ++ name_line name);
  before = TargetIs target ∷ TargetKindIs kind ∷ NameIs name ∷ [];
  whole = join bytes (target_line target) r (kind_line kind ++ name_line name) rest o.1 (join r (kind_line kind) r' (name_line name) rest k n.1);
  lines = name_lines hash target kind name o.0 n.0;
  count = refl;
}
front_of hash Body bytes rest other (target, kind, name, who, (r'', (r', (r, o, k), n), g)) =
    let line = text_line (codes "tagger ") g.line in
    record {
      front = target_line target ++ (kind_line kind ++ (name_line name ++ line));
      before = TargetIs target ∷ TargetKindIs kind ∷ NameIs name ∷ TaggerIs who ∷ [];
      whole = join bytes (target_line target) r (kind_line kind ++ (name_line name ++ line)) rest o.1 (join r (kind_line kind) r' (name_line name ++ line) rest k (join r' (name_line name) r'' line rest n.1 g.is));
      lines = tagger_lines hash target kind name line who o.0 n.0 (g.line, refl, g.one, g.spells);
      count = refl;
    }
front_of hash End bytes rest other s = absurd (other refl)

-- No item comes next.
refused : (hash : HashKind) (s : Next) (bytes rest : List ℕ) (error : DecodeError) → s ≢ End → StandsAt hash s bytes rest → NoItemAt hash s rest → error ≡ Decode (length bytes - length rest) → RefusesTag hash bytes error
refused hash Target bytes rest error other e none is =
    refuse_object hash bytes error (subst (IsNoIdLine hash (codes "object ")) e none) (is ∙ ap (λ l. Decode (length bytes - length l)) e)
refused hash TargetKind bytes rest error other (target, o) none is = refuse_type hash bytes target rest error o none is
refused hash Name bytes rest error other (target, kind, (r, o, k)) none is = refuse_name hash bytes target r kind rest error o k none is
refused hash Tagger bytes rest error other (target, kind, name, (r', (r, o, k), n)) none is = refuse_body hash bytes target r kind r' name rest None rest error o k n (refl, none.0) none.1 is
refused hash Body bytes rest error other (target, kind, name, who, (r'', (r', (r, o, k), n), g)) none is = refuse_body hash bytes target r kind r' name r'' (Some who) rest error o k n g none is
refused hash End bytes rest error other s none is = absurd (other refl)

pub goes_wrong : (hash : HashKind) (s : Next) (bytes rest : List ℕ) (error : DecodeError) → s ≢ End → StandsAt hash s bytes rest → NoItemAt hash s rest → error ≡ Decode (length bytes - length rest)
    → (n : ℕ) × (given_at s ≡ Some n) × GoesWrong hash bytes n error
goes_wrong hash s bytes rest error other stands none is =
    let f = front_of hash s bytes rest other stands in
    let w = refused hash s bytes rest error other stands none is in
    let same : Decode w.0 ≡ Decode (length bytes - length rest) = sym w.1 ∙ is in
    let at : w.0 ≡ length bytes - length rest = cc in (
      length f.before,
      f.count,
      record {
        at = w.0;
        error_is = w.1;
        none = w.2;
        front = f.front;
        rest = rest;
        before = f.before;
        whole = f.whole;
        lines = f.lines;
        count = refl;
        place = omega (arith, at, ap length f.whole, length-append f.front rest);
      },
    )

pub at_end : (s : Stage) → next_of s ≡ End → s ≡ stage.End
at_end stage.Target e = absurd (cc)
at_end stage.TargetKind e = absurd (cc)
at_end stage.Name e = absurd (cc)
at_end stage.Tagger e = absurd (cc)
at_end stage.Body e = absurd (cc)
at_end stage.End e = refl

pub next_none : (hash : HashKind) (s : Next) (bytes rest : List ℕ) (error : DecodeError) → s ≢ End → NoItemAt hash s rest → error ≡ Decode (length bytes - length rest) → StandsAt hash s bytes rest
    → GivesPart (read_before hash bytes s) (Some (Err error)) (read_before hash bytes End)
next_none hash s bytes rest error other none is stands =
    let w = goes_wrong hash s bytes rest error other stands none is in
    record { same = refl; kind = tt; tag = λ t p. absurd (w.2.none.none t p); told = (w.0, w.1, w.2, refl) }

-- An item comes next.
pub reached : (hash : HashKind) (s : Next) (bytes rest : List ℕ) (i : Item) (more : List ℕ) (t : Next) → StandsAt hash s bytes rest → ItemAt hash s rest i more t → StandsAt hash t bytes more
reached hash Target bytes rest i more t e p = subst (λ u. StandsAt hash u bytes more) (sym p.0) (p.1.0, (p.1.2.0, sym e ∙ p.1.2.1))
reached hash TargetKind bytes rest i more t (target, o) p = subst (λ u. StandsAt hash u bytes more) (sym p.0) (target, p.1.0, (rest, o, p.1.2))
reached hash Name bytes rest i more t (target, kind, k) p = subst (λ u. StandsAt hash u bytes more) (sym p.0) (target, kind, p.1.0, (rest, k, p.1.2))
reached hash Tagger bytes rest i more t (target, kind, name, n) (inl p) = subst (λ u. StandsAt hash u bytes more) (sym p.0) (target, kind, name, p.1.0, (rest, n, p.1.2))
reached hash Tagger bytes rest i more t s (inr p) = subst (λ u. StandsAt hash u bytes more) (sym p.1.0) tt
reached hash Body bytes rest i more t s p = subst (λ u. StandsAt hash u bytes more) (sym p.0) tt
reached hash End bytes rest i more t s p = absurd p

-- the tag that a body ends
abbrev tag_of : List ℕ → Kind → List ℕ → Option IdentityText → List ℕ → Option (List ℕ) → TagText
tag_of target kind name tagger message signature = record { target = target; target_kind = kind; name = name; tagger = tagger; message = message; signature = signature }

unsigned : (hash : HashKind) (bytes rest target : List ℕ) (kind : Kind) (name message : List ℕ) (signature : Option (List ℕ)) → HasName hash bytes target kind name rest → IsNoIdentityLine (codes "tagger ") rest → SpellsBody rest message signature
    → SpellsTag hash bytes (tag_of target kind name None message signature)
unsigned hash bytes rest target kind name message signature (r', (r, o, k), n) none b = spelled hash bytes target r kind r' name rest None rest message signature o k n (refl, none) b

tagged : (hash : HashKind) (bytes rest target : List ℕ) (kind : Kind) (name : List ℕ) (who : IdentityText) (message : List ℕ) (signature : Option (List ℕ)) → HasTagger hash bytes target kind name who rest → SpellsBody rest message signature
    → SpellsTag hash bytes (tag_of target kind name (Some who) message signature)
tagged hash bytes rest target kind name who message signature (r'', (r', (r, o, k), n), g) b = spelled hash bytes target r kind r' name r'' (Some who) rest message signature o k n g b

-- what was told
in_front : (hash : HashKind) (t : Next) (bytes rest : List ℕ) (before : List Item) (i : Item) (f : Front hash t bytes rest) → f.before ≡ before ++ i ∷ [] → StandsInFront hash bytes (length before) i
in_front hash t bytes rest before i f e = record { front = f.front; rest = rest; before = before; whole = f.whole; lines = subst (AreLines hash 0 f.front) e f.lines; count = refl }

abbrev Told : HashKind → Next → List ℕ → Item → Next → Type 0
Told hash s bytes i t = (n : ℕ) × (given_at s ≡ Some n) × Tells hash bytes n i (given_at t)

told : (hash : HashKind) (s : Next) (bytes rest : List ℕ) (i : Item) (more : List ℕ) (t : Next) → StandsAt hash s bytes rest → ItemAt hash s rest i more t → Told hash s bytes i t
unfolding front_of
told hash Target bytes rest i more t e p =
    let f = front_of hash TargetKind bytes more (λ h. cc) (p.1.0, (p.1.2.0, sym e ∙ p.1.2.1)) in
    (0, refl, subst (λ j. Tells hash bytes 0 j (given_at t)) (sym p.1.1) (in_front hash TargetKind bytes more [] (TargetIs p.1.0) f refl, ap given_at p.0))
told hash TargetKind bytes rest i more t (target, o) p =
    let f = front_of hash Name bytes more (λ h. cc) (target, p.1.0, (rest, o, p.1.2)) in
    (1, refl, subst (λ j. Tells hash bytes 1 j (given_at t)) (sym p.1.1) (in_front hash Name bytes more (TargetIs target ∷ []) (TargetKindIs p.1.0) f refl, ap given_at p.0))
told hash Name bytes rest i more t (target, kind, (r, o, k)) p =
    let f = front_of hash Tagger bytes more (λ h. cc) (target, kind, p.1.0, (rest, (r, o, k), p.1.2)) in
    (2, refl, subst (λ j. Tells hash bytes 2 j (given_at t)) (sym p.1.1) (in_front hash Tagger bytes more (TargetIs target ∷ TargetKindIs kind ∷ []) (NameIs p.1.0) f refl, ap given_at p.0))
told hash Tagger bytes rest i more t (target, kind, name, (r', (r, o, k), n)) (inl p) =
    let f = front_of hash Body bytes more (λ h. cc) (target, kind, name, p.1.0, (rest, (r', (r, o, k), n), p.1.2)) in
    (3, refl, subst (λ j. Tells hash bytes 3 j (given_at t)) (sym p.1.1) (in_front hash Body bytes more (TargetIs target ∷ TargetKindIs kind ∷ NameIs name ∷ []) (TaggerIs p.1.0) f refl, ap given_at p.0))
told hash Tagger bytes rest i more t (target, kind, name, n) (inr (none, p)) =
    let message = p.1.0 in
    let signature = p.1.1 in
    let ends : EndsTag hash bytes 3 (BodyIs message signature) = record { tag = tag_of target kind name None message signature; spells = unsigned hash bytes rest target kind name message signature n none p.1.3; last = refl } in
    (3, refl, subst (λ j. Tells hash bytes 3 j (given_at t)) (sym p.1.2) (ends, ap given_at p.0))
told hash Body bytes rest i more t (target, kind, name, who, g) p =
    let message = p.1.0 in
    let signature = p.1.1 in
    let ends : EndsTag hash bytes 4 (BodyIs message signature) = record { tag = tag_of target kind name (Some who) message signature; spells = tagged hash bytes rest target kind name who message signature g p.1.3; last = refl } in
    (4, refl, subst (λ j. Tells hash bytes 4 j (given_at t)) (sym p.1.2) (ends, ap given_at p.0))
told hash End bytes rest i more t s p = absurd p

-- Of a tag, its next item.
pub tagger_same : (text body message rest : List ℕ) (tagger : Option IdentityText) (signature : Option (List ℕ)) (who : IdentityText) (more : List ℕ) → SpellsTagger text tagger → SpellsBody body message signature → rest ≡ text ++ body
    → HasIdentityLine (codes "tagger ") rest who more → tagger ≡ Some who
tagger_same text body message rest None signature who more is b e g = absurd (no_tagger_body g.line more body (is_body body message signature b) (sym g.is ∙ e ∙ ap (λ l. l ++ body) is))
tagger_same text body message rest (Some whom) signature who more is b e g =
    let r = cut_line (codes "tagger ") g.line is.0 more body g.one is.2 (sym g.is ∙ e ∙ ap (λ l. l ++ body) is.1) in
    ap Some (sym (one_identity g.line who whom g.spells (subst (λ l. SpellsIdentity l whom) (sym r.0) is.3)))

behind_name_is : (hash : HashKind) (bytes rest target : List ℕ) (kind : Kind) (name : List ℕ) (t : TagText) (s : SpellsTag hash bytes t) → HasName hash bytes target kind name rest → rest ≡ s.tagger_text ++ s.body
behind_name_is hash bytes rest target kind name t s (r', (r, o, k), n) =
    (after_name hash bytes t s target kind name rest o.0 n.0 (o.1 ∙ ap (λ l. target_line target ++ l) (k ∙ ap (λ l. kind_line kind ++ l) n.1))).1

pub tagger_is : (hash : HashKind) (bytes rest target : List ℕ) (kind : Kind) (name : List ℕ) (who : IdentityText) (more : List ℕ) (t : TagText) → SpellsTag hash bytes t → HasName hash bytes target kind name rest
    → HasIdentityLine (codes "tagger ") rest who more → t.tagger ≡ Some who
tagger_is hash bytes rest target kind name who more t s n g = tagger_same s.tagger_text s.body t.message rest t.tagger t.signature who more s.tagger_is s.body_is (behind_name_is hash bytes rest target kind name t s n) g

abbrev NextOf : Next → TagText → TagToken → Next → Type 0
NextOf s t token u = IsNext (left_of (given_at s) (items_of t)) (Some (Ok token)) (left_of (given_at u) (items_of t))

next_tagger : (x y z b : Item) (tagger : Option IdentityText) (who : IdentityText) (token : TagToken) (u : Next) → tagger ≡ Some who → item_of token ≡ TaggerIs who → u ≡ Body
    → IsNext (tagger_items tagger ++ b ∷ []) (Some (Ok token)) (left_of (given_at u) (x ∷ y ∷ z ∷ (tagger_items tagger ++ b ∷ [])))
next_tagger x y z b None who token u e i h = absurd (cc)
next_tagger x y z b (Some whom) who token u e i h =
    let same : whom ≡ who = cc in
    (i ∙ ap TaggerIs (sym same), ap (λ v. left_of (given_at v) (x ∷ y ∷ z ∷ TaggerIs whom ∷ b ∷ [])) h)

next_of_tag : (hash : HashKind) (s : Next) (bytes rest : List ℕ) (token : TagToken) (more : List ℕ) (u : Next) → StandsAt hash s bytes rest → ItemAt hash s rest (item_of token) more u → (t : TagText) → SpellsTag hash bytes t → NextOf s t token u
next_of_tag hash Target bytes rest token more u e p t s =
    let r = after_object hash bytes t s p.1.0 more p.1.2.0 (sym e ∙ p.1.2.1) in
    (p.1.1 ∙ ap TargetIs r.0, ap (λ v. left_of (given_at v) (items_of t)) p.0)
next_of_tag hash TargetKind bytes rest token more u (target, o) p t s =
    let r = after_type hash bytes t s target p.1.0 more o.0 (o.1 ∙ ap (λ l. target_line target ++ l) p.1.2) in
    (p.1.1 ∙ ap TargetKindIs r.0, ap (λ v. left_of (given_at v) (items_of t)) p.0)
next_of_tag hash Name bytes rest token more u (target, kind, (r', o, k)) p t s =
    let n = p.1.2 in
    let r = after_name hash bytes t s target kind p.1.0 more o.0 n.0 (o.1 ∙ ap (λ l. target_line target ++ l) (k ∙ ap (λ l. kind_line kind ++ l) n.1)) in
    (p.1.1 ∙ ap NameIs r.0, ap (λ v. left_of (given_at v) (items_of t)) p.0)
next_of_tag hash Tagger bytes rest token more u (target, kind, name, n) (inl p) t s =
    next_tagger (TargetIs t.target) (TargetKindIs t.target_kind) (NameIs t.name) (BodyIs t.message t.signature) t.tagger p.1.0 token u (tagger_is hash bytes rest target kind name p.1.0 more t s n p.1.2) p.1.1 p.0
next_of_tag hash Tagger bytes rest token more u (target, kind, name, n) (inr (none, p)) t s =
    let found = tag_of target kind name None p.1.0 p.1.1 in
    let same = one_tag hash bytes found t (unsigned hash bytes rest target kind name p.1.0 p.1.1 n none p.1.3) s in
    subst (λ v. NextOf Tagger v token u) same (p.1.2, ap (λ v. left_of (given_at v) (items_of found)) p.0)
next_of_tag hash Body bytes rest token more u (target, kind, name, who, g) p t s =
    let found = tag_of target kind name (Some who) p.1.0 p.1.1 in
    let same = one_tag hash bytes found t (tagged hash bytes rest target kind name who p.1.0 p.1.1 g p.1.3) s in
    subst (λ v. NextOf Body v token u) same (p.1.2, ap (λ v. left_of (given_at v) (items_of found)) p.0)
next_of_tag hash End bytes rest token more u e p t s = absurd p

pub next_some : (hash : HashKind) (s : Next) (bytes rest : List ℕ) (token : TagToken) (more : List ℕ) (t : Next) → HasKind hash (Some (Ok token)) → ItemAt hash s rest (item_of token) more t → StandsAt hash s bytes rest
    → GivesPart (read_before hash bytes s) (Some (Ok token)) (read_before hash bytes t)
next_some hash s bytes rest token more t kind p stands = record {
  same = refl;
  kind = kind;
  tag = next_of_tag hash s bytes rest token more t stands p;
  told = told hash s bytes rest (item_of token) more t stands p;
}

-- Fewer items are left.
abbrev left_at : HashKind → List ℕ → Next → ℕ
left_at hash bytes s = parts_left (read_before hash bytes s)

pub fewer : (hash : HashKind) (bytes : List ℕ) (s : Next) (rest : List ℕ) (i : Item) (more : List ℕ) (t : Next) → ItemAt hash s rest i more t → left_at hash bytes t < left_at hash bytes s
fewer hash bytes Target rest i more t p = subst (λ u. left_at hash bytes u < 5) (sym p.0) (omega arith)
fewer hash bytes TargetKind rest i more t p = subst (λ u. left_at hash bytes u < 4) (sym p.0) (omega arith)
fewer hash bytes Name rest i more t p = subst (λ u. left_at hash bytes u < 3) (sym p.0) (omega arith)
fewer hash bytes Tagger rest i more t (inl p) = subst (λ u. left_at hash bytes u < 2) (sym p.0) (omega arith)
fewer hash bytes Tagger rest i more t (inr p) = subst (λ u. left_at hash bytes u < 2) (sym p.1.0) (omega arith)
fewer hash bytes Body rest i more t p = subst (λ u. left_at hash bytes u < 1) (sym p.0) (omega arith)
fewer hash bytes End rest i more t p = absurd p

pub some_left : (hash : HashKind) (bytes : List ℕ) (s : Next) → s ≢ End → left_at hash bytes End < left_at hash bytes s
some_left hash bytes Target e = omega arith
some_left hash bytes TargetKind e = omega arith
some_left hash bytes Name e = omega arith
some_left hash bytes Tagger e = omega arith
some_left hash bytes Body e = omega arith
some_left hash bytes End e = absurd (e refl)

-- Stages put together.
abbrev Found : HashKind → Next → List ℕ → TagToken × Bor (List ℕ) × Stage → Type 0
Found hash s bytes p = ItemAt hash s bytes (item_of p.0) p.1.now (next_of p.2)

pub any_stage : (hash : HashKind) (s t : Stage) (bytes : List ℕ) (r : Option (TagToken × Bor (List ℕ) × Stage)) → t ≡ s → MatchOption r (NoItemAt hash (next_of s) bytes) (Found hash (next_of s) bytes)
    → MatchOption r (NoItemAt hash (next_of t) bytes) (Found hash (next_of t) bytes)
any_stage hash s t bytes r e m = subst (λ u. MatchOption r (NoItemAt hash (next_of u) bytes) (Found hash (next_of u) bytes)) (sym e) m

-- Single items.
few : (s : Next) (n : ℕ) → s ≢ Body → s ≢ End → given_at s ≡ Some n → n ≤ 3
few Target n b e is = let same : 0 ≡ n = cc in omega (arith, same)
few TargetKind n b e is = let same : 1 ≡ n = cc in omega (arith, same)
few Name n b e is = let same : 2 ≡ n = cc in omega (arith, same)
few Tagger n b e is = let same : 3 ≡ n = cc in omega (arith, same)
few Body n b e is = absurd (b refl)
few End n b e is = absurd (e refl)

pub wrong_by_tagger : (hash : HashKind) (s : Next) (bytes rest : List ℕ) (error : DecodeError) → s ≢ Body → s ≢ End → StandsAt hash s bytes rest → NoItemAt hash s rest → error ≡ Decode (length bytes - length rest) → GoesWrongByTagger hash bytes error
wrong_by_tagger hash s bytes rest error b other stands none is =
    let w = goes_wrong hash s bytes rest error other stands none is in
    (w.0, few s w.0 b other w.1, w.2)

pub wrong_target : (hash : HashKind) (bytes : List ℕ) (error : DecodeError) → IsNoIdLine hash (codes "object ") bytes → error ≡ Decode (length bytes - length bytes) → GoesWrong hash bytes 0 error
wrong_target hash bytes error none is =
    let w = goes_wrong hash Target bytes bytes error (λ e. cc) refl none is in
    let e : Some 0 ≡ Some w.0 = w.1 in
    let same : w.0 ≡ 0 = cc in
    subst (λ n. GoesWrong hash bytes n error) same w.2

pub target_found : (hash : HashKind) (bytes target rest hex : List ℕ) → HasTarget hash bytes target rest → hex ≡ target → StandsInFront hash bytes 0 (TargetIs hex)
target_found hash bytes target rest hex o e = subst (λ h. StandsInFront hash bytes 0 (TargetIs h)) (sym e) (record { front = target_line target; rest = rest; before = []; whole = o.1; lines = target_lines hash target o.0; count = refl })

pub target_is : (hash : HashKind) (bytes target rest hex : List ℕ) → HasTarget hash bytes target rest → hex ≡ target → (t : TagText) → SpellsTag hash bytes t → hex ≡ t.target
target_is hash bytes target rest hex o e t s = e ∙ (after_object hash bytes t s target rest o.0 o.1).0

pub untagged : (hash : HashKind) (bytes rest target : List ℕ) (kind : Kind) (name message : List ℕ) (signature : Option (List ℕ)) → HasName hash bytes target kind name rest → IsNoIdentityLine (codes "tagger ") rest → SpellsBody rest message signature
    → (t : TagText) × SpellsTag hash bytes t × (t.tagger ≡ None)
untagged hash bytes rest target kind name message signature n none b = (tag_of target kind name None message signature, unsigned hash bytes rest target kind name message signature n none b, refl)

tells_tagger : (hash : HashKind) (bytes : List ℕ) (tagger : Option IdentityText) → FindsTagger hash bytes tagger → TellsTagger hash bytes tagger
unfolding front_of
tells_tagger hash bytes (Some who) (target, kind, name, rest, g) =
    let f = front_of hash Body bytes rest (λ h. cc) (target, kind, name, who, g) in
    in_front hash Body bytes rest (TargetIs target ∷ TargetKindIs kind ∷ NameIs name ∷ []) (TaggerIs who) f refl
tells_tagger hash bytes None p = p

finds_of_tag : (hash : HashKind) (bytes : List ℕ) (tagger : Option IdentityText) → FindsTagger hash bytes tagger → (t : TagText) → SpellsTag hash bytes t → tagger ≡ t.tagger
finds_of_tag hash bytes (Some who) (target, kind, name, rest, (r, n, g)) t s = sym (tagger_is hash bytes r target kind name who rest t s n g)
finds_of_tag hash bytes None (u, p, none) t s = sym none ∙ ap (λ v. v.tagger) (one_tag hash bytes u t p s)

abbrev ReadsTagger : HashKind → List ℕ → Result (Option SignatureRef) DecodeError → Type 0
ReadsTagger hash bytes result = MatchResult result (λ who. FindsTagger hash bytes (option_map identity_text who)) (GoesWrongByTagger hash bytes)

pub tagger_told : (hash : HashKind) (bytes : List ℕ) (result : Result (Option SignatureRef) DecodeError) → ReadsTagger hash bytes result → IfOk result (λ who. TellsTagger hash bytes (option_map identity_text who))
tagger_told hash bytes (Ok who) p = tells_tagger hash bytes (option_map identity_text who) p
tagger_told hash bytes (Err e) p = tt

pub tagger_of_tag : (hash : HashKind) (bytes : List ℕ) (result : Result (Option SignatureRef) DecodeError) → ReadsTagger hash bytes result → (t : TagText) → SpellsTag hash bytes t
    → MatchResult result (λ who. option_map identity_text who ≡ t.tagger) (λ _. ⊥)
tagger_of_tag hash bytes (Ok who) p t s = finds_of_tag hash bytes (option_map identity_text who) p t s
tagger_of_tag hash bytes (Err e) p t s = p.2.none.none t s
