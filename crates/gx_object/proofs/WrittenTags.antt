-- What is written of a tag spells it.
use Rattle.std.proofs.Common.{◌≡◌, ap, refl, subst, ℕ, ◌≤◌, ◌==◌, not, true, List, [], ◌∷◌, ◌++◌, length, codes, arith, append_assoc, length-append, Option, Some, None, inl, inr}
use Rattle.std.specs.List.{list_all}
use Rattle.std.specs.Option.{option_map}
use Rattle.std.proofs.lemmas.Bool.{and_parts, cases_lt}
use Rattle.std.proofs.lemmas.List.{append-nil}
use Rattle.gx_hash.specs.declared.kind.HashKind.{HashKind}
use Rattle.gx_hash.specs.ObjectId.{hex_of}
use Rattle.gx_object.specs.declared.encode.Field.TheVariants.{TaggerName, TaggerEmail, TaggerOffset, TagName}
use Rattle.gx_object.specs.declared.signature.Signature.{Signature}
use Rattle.gx_object.specs.declared.tag.Tag.{Tag}
use Rattle.gx_object.specs.CommitSpelling.{IsWholeLines, text_line}
use Rattle.gx_object.specs.Identity.{identity_bytes}
use Rattle.gx_object.specs.Kind.{kind_name}
use Rattle.gx_object.specs.OwnedTag.{OwnsTagger, OwnsTag}
use Rattle.gx_object.specs.Tag.{tagger_line, signature_bytes, tag_head_bytes, tag_bytes, is_writable_tagger}
use Rattle.gx_object.specs.TagSpelling.{SpellsTagger, SignedAt, SplitsSignature, SpellsTag}
use Rattle.gx_object.specs.WrittenText.{written_identity, written_tag, HasSeconds, IsWholeMinutes, TaggerHas, PartsSignature, CanWriteTag}
use Rattle.gx_object.proofs.TagSignatures.{longer, whole_behind}
use Rattle.gx_object.specs.Laws.WrittenCommits.{id_text, identity_text_line, can_identity, owns_identity, one_line, some_bytes}
use Rattle.gx_object.specs.Laws.WrittenIdentities.{identity_spelled, identity_open}

tagger_written : (tagger : Option Signature) → is_writable_tagger tagger TaggerName ≡ true → is_writable_tagger tagger TaggerEmail ≡ true → is_writable_tagger tagger TaggerOffset ≡ true → TaggerHas HasSeconds tagger
    → SpellsTagger (tagger_line tagger) (option_map written_identity tagger)
tagger_written None name email offset seconds = refl
tagger_written (Some who) name email offset seconds =
    let can = can_identity who name email offset seconds in
    (identity_bytes who, identity_text_line (codes "tagger ") who, identity_open who can, identity_spelled who can)

tagger_owned : (tagger : Option Signature) → is_writable_tagger tagger TaggerOffset ≡ true → TaggerHas HasSeconds tagger → TaggerHas (λ time. IsWholeMinutes time.offset) tagger → OwnsTagger (option_map written_identity tagger) tagger
tagger_owned None offset seconds whole = tt
tagger_owned (Some who) offset seconds whole = owns_identity who seconds offset whole

-- no line after the message begins a later signature
no_later : (message signature : List ℕ) → IsWholeLines message → ((front rest : List ℕ) → SignedAt signature front rest → front ≡ []) → (front rest : List ℕ) → SignedAt (message ++ signature) front rest → length front ≤ length message
no_later message signature lines one front rest at =
    elim (cases_lt (length front) (length message)) [
      | inl h ↦ omega (arith, h)
      | inr h ↦
          let l = longer message front signature rest at.whole h in
          let none : l.more ≡ [] = one l.more rest (record { whole = l.back; lines = whole_behind message l.more (subst IsWholeLines l.front at.lines); opens = at.opens }) in
          omega (arith, ap length none, ap length l.front, length-append message l.more)
    ]

signature_written : (message : List ℕ) (signature : Option (List ℕ)) → PartsSignature message signature → SplitsSignature (message ++ signature_bytes signature) message signature
signature_written message None none = (append-nil message, λ front rest at. none front rest (subst (λ l. SignedAt l front rest) (append-nil message) at))
signature_written message (Some signature) parts = (record { whole = refl; lines = parts.0; opens = parts.1 }, no_later message signature parts.0 parts.2)

four_parts : (a a' b b' d d' e rest : List ℕ) → a ≡ a' → b ≡ b' → d ≡ d' → (a ++ (b ++ (d ++ e))) ++ rest ≡ a' ++ (b' ++ (d' ++ (e ++ rest)))
four_parts a a' b b' d d' e rest p q r = rw (p, q, r) (simp append_assoc)

whole_is : (t : Tag) → tag_bytes t ≡ text_line (codes "object ") (hex_of t.target) ++ (text_line (codes "type ") (kind_name t.target_kind) ++ (text_line (codes "tag ") t.name ++ (tagger_line t.tagger ++ 10 ∷ (t.message ++ signature_bytes t.signature))))
unfolding tag_bytes tag_head_bytes
whole_is t =
    four_parts _ _ _ _ _ _ (tagger_line t.tagger) (10 ∷ (t.message ++ signature_bytes t.signature))
    (id_text (codes "object ") t.target) (append_assoc (codes "type ") (kind_name t.target_kind) (10 ∷ [])) (append_assoc (codes "tag ") t.name (10 ∷ []))

pub tag_spelled : (hash : HashKind) (t : Tag) → CanWriteTag hash t → SpellsTag hash (tag_bytes t) (written_tag t)
tag_spelled hash t can =
    let name = and_parts (not (length t.name == 0)) (list_all (λ b. not (b == 10)) t.name) (can.fields TagName) in
    record {
      tagger_text = tagger_line t.tagger;
      body = 10 ∷ (t.message ++ signature_bytes t.signature);
      whole = whole_is t;
      target_id = can.target;
      name_is = (some_bytes t.name name.0, one_line t.name name.1);
      tagger_is = tagger_written t.tagger (can.fields TaggerName) (can.fields TaggerEmail) (can.fields TaggerOffset) can.seconds;
      body_is = inr (t.message ++ signature_bytes t.signature, refl, signature_written t.message t.signature can.signature);
    }

pub tag_copy : (hash : HashKind) (t : Tag) → CanWriteTag hash t → TaggerHas (λ time. IsWholeMinutes time.offset) t.tagger → OwnsTag (written_tag t) t
tag_copy hash t can whole = record {
  target = refl;
  target_kind = refl;
  name = refl;
  tagger = tagger_owned t.tagger (can.fields TaggerOffset) can.seconds whole;
  message = refl;
  signature = refl;
}
