-- The message of a commit, read without the other parts.
use Rattle.std.proofs.Common.{◌≡◌, ◌≢◌, ◌∙◌, sym, ap, refl, ℕ, ◌-◌, List, [], ◌∷◌, ◌++◌, length, append_assoc, codes, Option, Some, None, ◌⊎◌, inl, inr, Result, Ok, Err, MatchResult}
use Rattle.std.specs.List.{flat_map}
use Rattle.std.proofs.lemmas.Bool.Decides.{eqb_tells}
use Rattle.bstr.specs.BStr.{bstr_bytes}
use Rattle.bstr.specs.declared.bstr.BStr.{BStr}
use Rattle.gx_object.specs.PartsRead.{ObjectText}
use Rattle.gx_object.specs.declared.decode.DecodeError.{DecodeError}
use Rattle.gx_object.specs.declared.decode.DecodeError.TheVariants.{Decode}
use Rattle.gx_object.specs.Commit.{encoding_line}
use Rattle.gx_object.specs.IdentitySpelling.{IdentityText}
use Rattle.gx_object.specs.CommitSpelling.{HeaderText, CommitText, IsHeader, IsEncodingHeader, IsOneLine, raw_line, SpellsCommit}
use Rattle.gx_object.specs.CommitLines.{HasHeader, HasHeaders, IsNoHeader, IsNotBehind}
use Rattle.gx_object.specs.CommitItems.{committer_front, HasCommitter, SkipsHeaders, SkipsFurther, SpellsMessage, SpellsNone, GoesWrongByCommitter}
use Rattle.gx_object.proofs.CommitParts.{encoded, not_encoded, all_push, flat_map_push}
use Rattle.gx_object.specs.Laws.CommitPlace.{late_text, late_text_is, late_stage, leads_to_message, stuck_late, stage_is_late, late_is_not_end, begins_late, refused_at}
use Rattle.gx_object.proofs.CommitFronts.{further}
use Rattle.gx_object.specs.Laws.OneCommit.{one_commit}

pub further_none : (bytes : List ℕ) → SkipsFurther bytes bytes
further_none bytes = ([], record { added = []; new_is = refl; is = refl; each = tt; no_fold = λ p. p })

pub further_more : (bytes rest : List ℕ) (h : HeaderText) (more : List ℕ) → SkipsFurther bytes rest → HasHeader rest h more → SkipsFurther bytes more
further_more bytes rest h more (hs, p) has = (
  p.added ++ h ∷ [],
  record {
    added = p.added ++ h ∷ [];
    new_is = refl;
    is = p.is ∙ ap (λ l. flat_map raw_line p.added ++ l) has.is ∙ sym (append_assoc (flat_map raw_line p.added) (raw_line h) more) ∙ ap (λ l. l ++ more) (sym (flat_map_push raw_line p.added h));
    each = all_push IsHeader p.added h p.each has.header;
    no_fold = λ _. has.ends;
  },
)

-- whether a header is the encoding can be decided
same_text : (a b : List ℕ) → (a ≡ b) ⊎ (a ≢ b)
same_text [] [] = inl refl
same_text [] (c ∷ cs) = inr (λ e. cc)
same_text (b ∷ bs) [] = inr (λ e. cc)
same_text (b ∷ bs) (c ∷ cs) = elim (eqb_tells b c) [
  | inl h ↦ elim (same_text bs cs) [
    | inl k ↦ inl (ap (λ n. n ∷ bs) h.1 ∙ ap (λ l. c ∷ l) k)
    | inr k ↦ inr (λ e. let t : bs ≡ cs = cc in k t)
  ]
  | inr h ↦ inr (λ e. let t : b ≡ c = cc in h.1 t)
]

one_line_or : (text : List ℕ) → IsOneLine text ⊎ (IsOneLine text → ⊥)
one_line_or [] = inl tt
one_line_or (b ∷ bs) = elim (eqb_tells b 10) [
  | inl h ↦ inr (λ p. p.0 h.1)
  | inr h ↦ elim (one_line_or bs) [ inl k ↦ inl (h.1, k) | inr k ↦ inr (λ p. k p.1) ]
]

encoding_or : (h : HeaderText) → IsEncodingHeader h ⊎ (IsEncodingHeader h → ⊥)
encoding_or h = elim (same_text h.name (codes "encoding")) [
  | inr n ↦ inr (λ p. n p.0)
  | inl n ↦ elim (same_text h.raw []) [
    | inl r ↦ inr (λ p. p.1.0 r)
    | inr r ↦ elim (one_line_or h.raw) [ inl o ↦ inl (n, (r, o)) | inr o ↦ inr (λ p. o p.1.1) ]
  ]
]

pub skips_some : (bytes : List ℕ) (h : HeaderText) (rest more : List ℕ) → HasHeader bytes h rest → SkipsFurther rest more × IsNoHeader more → SkipsHeaders bytes more
skips_some bytes h rest more has (skipped, ends) =
    let p = skipped.1 in
    let hs : skipped.0 ≡ p.added = p.new_is in
    elim (encoding_or h) [
      | inl is ↦ (Some h.raw, p.added, encoded bytes h rest p.added more has is (record { added = p.added; new_is = refl; is = p.is; each = p.each; no_fold = p.no_fold }, ends))
      | inr none ↦ (None, h ∷ p.added, not_encoded bytes h rest (h ∷ p.added) more has none (record { added = p.added; new_is = refl; is = p.is; each = p.each; no_fold = p.no_fold }, ends))
    ]

message_front : (it : ObjectText) (whom : IdentityText) (r rest : List ℕ) (k : HasCommitter it whom r) (encoding : Option (List ℕ)) (hs : List HeaderText) → HasHeaders r encoding hs rest
    → it.bytes ≡ late_text k.lines.before.before.tree k.lines.before.before.parents k.lines.before.line k.lines.line encoding hs ++ rest
message_front it whom r rest k encoding hs l =
    further it.bytes (committer_front k.lines) (encoding_line encoding ++ flat_map raw_line hs) r rest k.whole (l.is ∙ sym (append_assoc (encoding_line encoding) (flat_map raw_line hs) rest))

pub message_found : (it : ObjectText) (whom : IdentityText) (r rest text : List ℕ) → HasCommitter it whom r → SkipsHeaders r rest → rest ≡ 10 ∷ text → SpellsMessage it text
message_found it whom r rest text k (encoding, hs, l) e =
    let f = k.lines in
    let b = f.before in
    record {
      commit = record { tree = b.before.tree; parents = b.before.parents; author = b.who; committer = f.who; encoding = encoding; extra_headers = hs; message = text };
      spells = record {
        author_line = b.line;
        committer_line = f.line;
        whole = message_front it whom r rest k encoding hs l ∙ ap (λ m. late_text b.before.tree b.before.parents b.line f.line encoding hs ++ m) e ∙ late_text_is b.before.tree b.before.parents b.line f.line encoding hs (10 ∷ text);
        tree_id = b.before.tree_id;
        parent_ids = b.before.parent_ids;
        author_open = b.one;
        author_is = b.spells;
        committer_open = f.one;
        committer_is = f.spells;
        encoding_is = l.encoding_is;
        headers = l.each;
      };
      message = refl;
    }

pub message_wrong : (it : ObjectText) (whom : IdentityText) (r rest : List ℕ) (e : DecodeError) → HasCommitter it whom r → SkipsHeaders r rest → IsNotBehind (10 ∷ []) rest → e ≡ Decode (length it.bytes - length rest) → SpellsNone it e
message_wrong it whom r rest e k (encoding, hs, l) none place =
    let f = k.lines in
    let b = f.before in
    record {
      at = length it.bytes - length rest;
      error = place;
      none = refused_at it.hash it.bytes (late_text b.before.tree b.before.parents b.line f.line encoding hs) rest (late_stage encoding hs) (length it.bytes - length rest) e (message_front it whom r rest k encoding hs l)
          (leads_to_message it.hash b.before.tree b.before.parents b.line f.line b.who f.who encoding hs b.before.tree_id b.before.parent_ids b.one b.spells f.one f.spells l.encoding_is l.each)
          (late_is_not_end (late_stage encoding hs) (stage_is_late encoding hs))
          (stuck_late it.hash rest encoding hs l.ends l.no_fold none)
          (begins_late it.hash b.before.tree b.before.parents b.line f.line b.who f.who encoding hs b.before.tree_id b.before.parent_ids b.one b.spells f.one f.spells l.encoding_is l.each) place place;
    }

pub wrong_none : (it : ObjectText) (e : DecodeError) → GoesWrongByCommitter it e → SpellsNone it e
wrong_none it e (inl (inl w)) = record { at = w.at; error = w.error; none = w.none }
wrong_none it e (inl (inr w)) = record { at = w.at; error = w.error; none = w.none }
wrong_none it e (inr w) = record { at = w.at; error = w.error; none = w.none }

pub message_of : (it : ObjectText) (r : Result BStr DecodeError) → MatchResult r (λ text. SpellsMessage it (bstr_bytes text)) (SpellsNone it) → (c : CommitText) → SpellsCommit it.hash it.bytes c → MatchResult r (λ text. bstr_bytes text ≡ c.message) (λ _. ⊥)
message_of it (Ok text) p c s = sym p.message ∙ ap (λ d. d.message) (one_commit it.hash it.bytes p.commit c p.spells s)
message_of it (Err e) p c s = p.none.none c s
